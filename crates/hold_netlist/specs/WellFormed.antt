-- IsSource bits s: a source that names a net bit names one of the `bits` that there are.
-- HasBoundsInLimit r: both bounds of a range are at most 2^20 - 1; so too without a range.
-- IsWrittenWire w: the name is a name, and the bounds are in the limit.
-- IsWrittenPin bits p: the name is a name, and the source is one.
-- IsWrittenInst bits i: its name and its type's are names, and its connections are written well.
-- IsWrittenAssign bits a: the left side is a net bit; the right side is a source and not Empty.
-- IsWellFormed d: the parts fit together: the module's name is a name, and each wire, instance and assignment is
--   written well, where there are as many net bits as the wires have. The first wires have the ports' names in
--   order, so there are at least as many wires as ports. Nothing is said of names that stand twice, nor of how
--   many parts there are.
use Rattle.std.specs.Prelude.{◌≡◌, ◌≢◌, ℕ, ◌<◌, ◌≤◌, length, take, Option, Some, None}
use Rattle.std.specs.List.{AllByRecursion}
use Rattle.hold_base.specs.Limits.{bound_limit}
use Rattle.hold_netlist.specs.declared.wire.Wire.{Wire}
use Rattle.hold_netlist.specs.declared.inst.Source.{Source}
use Rattle.hold_netlist.specs.declared.inst.Source.TheVariants.{Net, Zero, One, Empty}
use Rattle.hold_netlist.specs.declared.inst.Pin.{Pin}
use Rattle.hold_netlist.specs.declared.inst.Inst.{Inst}
use Rattle.hold_netlist.specs.declared.inst.Assign.{Assign}
use Rattle.hold_netlist.specs.Design.{Design}
use Rattle.hold_netlist.specs.Bits.{bits_of}
use Rattle.hold_base.specs.NameBytes.{IsName}
use Rattle.hold_netlist.specs.Names.{port_names, wire_names}

abbrev pub IsSource : ℕ → Source → Type 0
IsSource bits (Net n) = n.0 < bits
IsSource bits Zero = Unit {0}
IsSource bits One = Unit {0}
IsSource bits Empty = Unit {0}

abbrev pub HasBoundsInLimit : Option (ℕ × ℕ) → Type 0
HasBoundsInLimit None = Unit {0}
HasBoundsInLimit (Some r) = (r.0 ≤ bound_limit) × (r.1 ≤ bound_limit)

pub record IsWrittenWire (w : Wire) : Type 0 where
  pub name : IsName w.name
  pub bounds : HasBoundsInLimit w.range

pub record IsWrittenPin (bits : ℕ) (p : Pin) : Type 0 where
  pub name : IsName p.name
  pub source : IsSource bits p.source

pub record IsWrittenInst (bits : ℕ) (i : Inst) : Type 0 where
  pub name : IsName i.name
  pub kind : IsName i.kind
  pub pins : AllByRecursion (IsWrittenPin bits) i.pins

pub record IsWrittenAssign (bits : ℕ) (a : Assign) : Type 0 where
  pub left : a.left.0 < bits
  pub right : IsSource bits a.right
  pub tied : a.right ≢ Empty

pub record IsWellFormed (d : Design) : Type 0 where
  pub name : IsName d.name
  pub ports : port_names d.ports ≡ take (length d.ports) (wire_names d.wires)
  pub wires : AllByRecursion IsWrittenWire d.wires
  pub insts : AllByRecursion (IsWrittenInst (bits_of d.wires)) d.insts
  pub assigns : AllByRecursion (IsWrittenAssign (bits_of d.wires)) d.assigns
