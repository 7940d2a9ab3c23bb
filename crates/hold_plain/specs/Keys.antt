-- net_of source: the net that a source names; none of a constant, and of nothing.
-- driven u: the net that the pin drives: outputs of instances and input ports drive the net that they are tied to. Other pins, and
--   outputs that are tied to nothing or to a constant, drive none. driven_as role source: the same of a pin of that role.
-- fed u: the number of the combinational instance that the pin, a connected input of it, leads into. Other pins lead into none.
--   fed_as role source inst: the same of a pin of that role.
-- OneEach keys: no key stands at two places.
-- is_key key k: whether the key stands there.
-- place_of key keys: the first place at which the key stands, none where it stands nowhere. place_from place key keys: the same
--   where the first of the keys has that place.
use Rattle.std.specs.Prelude.{◌≡◌, ℕ, ◌+◌, ◌==◌, List, [], ◌∷◌, Option, Some, None, slice_get, Bool, false, if◌then◌else◌}
use Rattle.hold_netlist.specs.declared.inst.Source.{Source}
use Rattle.hold_netlist.specs.declared.inst.Source.TheVariants.{Net, Zero, One, Empty}
use Rattle.hold_plain.specs.declared.pin_use.PinUse.{PinUse}
use Rattle.hold_plain.specs.declared.pin_use.PinRole.{PinRole}
use Rattle.hold_plain.specs.declared.pin_use.PinRole.TheVariants.{Input, Output, Clock, Data, Launch, InPort, OutPort, Stray}
use Rattle.hold_plain.specs.PinUses.{is_tied}

-- the net that a source names
abbrev pub net_of : Source → Option ℕ
net_of (Net n) = Some n.0
net_of Zero = None
net_of One = None
net_of Empty = None

abbrev pub driven_as : PinRole → Source → Option ℕ
driven_as Output source = net_of source
driven_as Launch source = net_of source
driven_as InPort source = net_of source
driven_as Input source = None
driven_as Clock source = None
driven_as Data source = None
driven_as OutPort source = None
driven_as Stray source = None

abbrev pub driven : PinUse → Option ℕ
driven u = driven_as u.role u.source

abbrev pub fed_as : PinRole → Source → ℕ → Option ℕ
fed_as Input source inst = if is_tied source then Some inst else None
fed_as Output source inst = None
fed_as Clock source inst = None
fed_as Data source inst = None
fed_as Launch source inst = None
fed_as InPort source inst = None
fed_as OutPort source inst = None
fed_as Stray source inst = None

abbrev pub fed : PinUse → Option ℕ
fed u = fed_as u.role u.source u.inst

abbrev pub OneEach : List (Option ℕ) → Type 0
OneEach keys = (i j key : ℕ) → slice_get keys i ≡ Some (Some key) → slice_get keys j ≡ Some (Some key) → i ≡ j

abbrev pub is_key : ℕ → Option ℕ → Bool
is_key key None = false
is_key key (Some k) = key == k

abbrev pub place_from : ℕ → ℕ → List (Option ℕ) → Option ℕ
place_from place key [] = None
place_from place key (k ∷ keys) = if is_key key k then Some place else place_from (place + 1) key keys

abbrev pub place_of : ℕ → List (Option ℕ) → Option ℕ
place_of key keys = place_from 0 key keys
