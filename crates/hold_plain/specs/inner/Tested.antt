-- Words for the tests of a flat list. Nothing here is part of what a netlist's problem means.
--
-- IsSoundList uses: what `IsServedUses` asks of a list beside its keys: of its length, and of each pin by itself.
-- input_net u: the net that an input of a combinational instance is tied to; none where it is tied to no net, and at every other pin.
--   input_net_as role source: the same of a pin of that role.
-- IsBefore from to: where the first pin is an output of a combinational instance, that stands before the instance of the other.
-- IsAfterDriver uses drivers u: where the table has a pin for the net of the input u, that pin is before u. Asks nothing of other pins.
-- HasDelayIn feeders u: what `HasDelay` says, by the table of the connected inputs. HasDelayInAs role feeders u: the same of a pin of
--   that role.
-- IsInOrder uses drivers feeders: `IsAfterDriver` and `HasDelayIn` hold of each pin.
use Rattle.std.specs.Prelude.{◌≡◌, ◌≢◌, ℕ, ◌<◌, ◌≤◌, ◌^◌, List, length, Option, Some, None, IsSome, All, slice_get, slice_index_or}
use Rattle.hold_netlist.specs.declared.inst.Source.{Source}
use Rattle.hold_plain.specs.declared.pin_use.PinUse.{PinUse}
use Rattle.hold_plain.specs.declared.pin_use.PinRole.{PinRole}
use Rattle.hold_plain.specs.declared.pin_use.PinRole.TheVariants.{Input, Output, Clock, Data, Launch, InPort, OutPort, Stray}
use Rattle.hold_plain.specs.Keys.{net_of}
use Rattle.hold_plain.specs.Served.{HasCheck, HasNoConstant}

abbrev pub input_net_as : PinRole → Source → Option ℕ
input_net_as Input source = net_of source
input_net_as Output source = None
input_net_as Clock source = None
input_net_as Data source = None
input_net_as Launch source = None
input_net_as InPort source = None
input_net_as OutPort source = None
input_net_as Stray source = None

abbrev pub input_net : PinUse → Option ℕ
input_net u = input_net_as u.role u.source

abbrev pub IsBefore : PinUse → PinUse → Type 0
IsBefore from to = from.role ≡ Output → from.inst < to.inst

abbrev pub IsAfterDriver : List PinUse → List (Option ℕ) → PinUse → Type 0
IsAfterDriver uses drivers u = (net place : ℕ) (from : PinUse) → input_net u ≡ Some net →
    slice_index_or drivers net None ≡ Some place → slice_get uses place ≡ Some from → IsBefore from u

abbrev pub HasDelayInAs : PinRole → List (Option ℕ) → PinUse → Type 0
HasDelayInAs Output feeders u = IsSome (slice_index_or feeders u.inst None) → IsSome u.delay
HasDelayInAs Launch feeders u = IsSome u.delay
HasDelayInAs Input feeders u = Unit {0}
HasDelayInAs Clock feeders u = Unit {0}
HasDelayInAs Data feeders u = Unit {0}
HasDelayInAs InPort feeders u = Unit {0}
HasDelayInAs OutPort feeders u = Unit {0}
HasDelayInAs Stray feeders u = Unit {0}

abbrev pub HasDelayIn : List (Option ℕ) → PinUse → Type 0
HasDelayIn feeders u = HasDelayInAs u.role feeders u

pub record IsSoundList (uses : List PinUse) : Type 0 where
  pub pins : length uses ≤ 2 ^ 20
  pub known : All (λ u. u.role ≢ Stray) uses
  pub outputs : All HasNoConstant uses
  pub checks : All HasCheck uses

pub record IsInOrder (uses : List PinUse) (drivers feeders : List (Option ℕ)) : Type 0 where
  pub forward : All (IsAfterDriver uses drivers) uses
  pub delays : All (HasDelayIn feeders) uses
