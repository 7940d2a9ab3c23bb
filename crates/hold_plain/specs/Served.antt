-- IsNoConstant source: the source is a net, or nothing.
-- HasNoConstant u: an output pin of an instance isn't tied to a constant. Asks nothing of other pins.
-- HasDelay feeds u: an output of a register has its delay, and so has an output of a combinational instance into which a connected
--   input leads. HasCheck u: a data pin has its check. Both ask nothing of other pins.
-- HasNoConstantAs, HasDelayAs, HasCheckAs: the same of a pin of a given role.
-- IsForward uses: where a combinational instance drives the input of one, it stands before that one in the netlist.
-- HasArrivalAs role timing i: the clock arrives at the instance where the role is that of a register.
-- IsInstOf cell timing i: the cell is known, and the clock arrives at the instance where the cell is a register.
-- IsServedInst timing i: the instance's cell is known, and the clock arrives at it where it is a register.
-- IsRegister timing insts name: some register instance has that name.
-- IsScalar d: each wire is scalar, and nothing is assigned. So the netlist has as many net bits as wires.
-- IsServedUses uses: pins of a netlist that has a timing problem of the plain form: there are at most 2^20, each is known, no output
--   is tied to a constant, no net has two drivers, at most one connected input leads into each combinational instance, where one
--   drives another it stands before it, and each delay and check that a pin asks for is known, whether or not a path uses it.
-- IsServed timing d: the netlist is served: its pins are such, there are at most 2^21 wires and 2^18 instances, each instance's
--   cell is known and each register's arrival, and each clock entry names a register.
use Rattle.std.specs.Prelude.{◌≡◌, ◌≢◌, ℕ, ◌<◌, ◌≤◌, List, [], map, length, Option, Some, None, IsSome, slice_get, Contains, All}
use Rattle.hold_netlist.specs.declared.inst.Source.{Source}
use Rattle.hold_netlist.specs.declared.inst.Source.TheVariants.{Net, Zero, One, Empty}
use Rattle.hold_netlist.specs.declared.inst.Inst.{Inst}
use Rattle.hold_netlist.specs.Design.{Design}
use Rattle.hold_base.specs.Limits.{bound_bits_limit, bound_insts_limit, bound_pins_limit}
use Rattle.hold_plain.specs.declared.cell.Cell.{Cell}
use Rattle.hold_plain.specs.declared.cell.Role.{Role}
use Rattle.hold_plain.specs.declared.cell.Role.TheVariants.{Comb, Register}
use Rattle.hold_plain.specs.declared.timing.Timing.{Timing}
use Rattle.hold_plain.specs.declared.pin_use.PinUse.{PinUse}
use Rattle.hold_plain.specs.declared.pin_use.PinRole.{PinRole}
use Rattle.hold_plain.specs.declared.pin_use.PinRole.TheVariants.{Input, Output, Clock, Data, Launch, InPort, OutPort, Stray}
use Rattle.hold_plain.specs.Cells.{cell_named, clock_arrival}
use Rattle.hold_plain.specs.PinUses.{uses_of}
use Rattle.hold_plain.specs.Keys.{driven, fed, OneEach}

abbrev pub IsNoConstant : Source → Type 0
IsNoConstant (Net n) = Unit {0}
IsNoConstant Zero = ⊥
IsNoConstant One = ⊥
IsNoConstant Empty = Unit {0}

abbrev pub HasNoConstantAs : PinRole → Source → Type 0
HasNoConstantAs Output source = IsNoConstant source
HasNoConstantAs Launch source = IsNoConstant source
HasNoConstantAs Input source = Unit {0}
HasNoConstantAs Clock source = Unit {0}
HasNoConstantAs Data source = Unit {0}
HasNoConstantAs InPort source = Unit {0}
HasNoConstantAs OutPort source = Unit {0}
HasNoConstantAs Stray source = Unit {0}

abbrev pub HasNoConstant : PinUse → Type 0
HasNoConstant u = HasNoConstantAs u.role u.source

abbrev pub HasDelayAs : PinRole → List (Option ℕ) → PinUse → Type 0
HasDelayAs Output feeds u = Contains feeds (Some u.inst) → IsSome u.delay
HasDelayAs Launch feeds u = IsSome u.delay
HasDelayAs Input feeds u = Unit {0}
HasDelayAs Clock feeds u = Unit {0}
HasDelayAs Data feeds u = Unit {0}
HasDelayAs InPort feeds u = Unit {0}
HasDelayAs OutPort feeds u = Unit {0}
HasDelayAs Stray feeds u = Unit {0}

abbrev pub HasDelay : List (Option ℕ) → PinUse → Type 0
HasDelay feeds u = HasDelayAs u.role feeds u

abbrev pub HasCheckAs : PinRole → PinUse → Type 0
HasCheckAs Data u = IsSome u.check
HasCheckAs Input u = Unit {0}
HasCheckAs Output u = Unit {0}
HasCheckAs Clock u = Unit {0}
HasCheckAs Launch u = Unit {0}
HasCheckAs InPort u = Unit {0}
HasCheckAs OutPort u = Unit {0}
HasCheckAs Stray u = Unit {0}

abbrev pub HasCheck : PinUse → Type 0
HasCheck u = HasCheckAs u.role u

abbrev pub IsForward : List PinUse → Type 0
IsForward uses = (i j net : ℕ) (from to : PinUse) → slice_get uses i ≡ Some from → slice_get uses j ≡ Some to →
    from.role ≡ Output → driven from ≡ Some net → to.role ≡ Input → to.source ≡ Net (record { 0 = net }) → from.inst < to.inst

abbrev pub HasArrivalAs : Role → Timing → Inst → Type 0
HasArrivalAs Comb timing i = Unit {0}
HasArrivalAs Register timing i = IsSome (clock_arrival timing i.name)

abbrev pub IsInstOf : Option Cell → Timing → Inst → Type 0
IsInstOf None timing i = ⊥
IsInstOf (Some cell) timing i = HasArrivalAs cell.role timing i

abbrev pub IsServedInst : Timing → Inst → Type 0
IsServedInst timing i = IsInstOf (cell_named i.kind timing.cells) timing i

pub record IsRegister (timing : Timing) (insts : List Inst) (name : List ℕ) : Type 0 where
  pub inst : Inst
  pub listed : Contains insts inst
  pub named : inst.name ≡ name
  pub cell : Cell
  pub known : cell_named inst.kind timing.cells ≡ Some cell
  pub role : cell.role ≡ Register

pub record IsServedUses (uses : List PinUse) : Type 0 where
  pub pins : length uses ≤ bound_pins_limit
  pub known : All (λ u. u.role ≢ Stray) uses
  pub outputs : All HasNoConstant uses
  pub drivers : OneEach (map driven uses)
  pub one_input : OneEach (map fed uses)
  pub forward : IsForward uses
  pub delays : All (HasDelay (map fed uses)) uses
  pub checks : All HasCheck uses

pub record IsServed (timing : Timing) (d : Design) : Type 0 where
  pub bits : length d.wires ≤ bound_bits_limit
  pub inst_count : length d.insts ≤ bound_insts_limit
  pub uses : IsServedUses (uses_of timing d)
  pub insts : All (IsServedInst timing) d.insts
  pub clocks : All (λ clock. IsRegister timing d.insts clock.inst) timing.clocks

pub record IsScalar (d : Design) : Type 0 where
  pub wires : All (λ w. w.range ≡ None) d.wires
  pub assigns : d.assigns ≡ []
