-- What the tests on pins say of the whole list, by the tables of places.
use Rattle.std.proofs.Common.{◌≡◌, ℕ, List, map, get_or, refl, ap, sym, subst, ◌∙◌}
use Rattle.std.specs.Prelude.{Option, Some, None, is_some, option_map, slice_get, All}
use Rattle.std.proofs.lemmas.List.Elements.{All-weaker}
use Rattle.std.proofs.lemmas.Option.{none-some, same_Some, slice_get-map, slice_get_within, slice_get-get_or, get_or_from_slice_get}
use Rattle.hold_base.specs.declared.number.NetNo.{NetNo}
use Rattle.hold_netlist.specs.declared.inst.Source.{Source}
use Rattle.hold_netlist.specs.declared.inst.Source.TheVariants.{Net, Zero, One, Empty}
use Rattle.hold_plain.specs.declared.pin_use.PinUse.{PinUse}
use Rattle.hold_plain.specs.declared.pin_use.PinRole.{PinRole}
use Rattle.hold_plain.specs.declared.pin_use.PinRole.TheVariants.{Input, Output, Clock, Data, Launch, InPort, OutPort, Stray}
use Rattle.hold_plain.specs.Keys.{net_of, driven, driven_as, fed, OneEach, place_of}
use Rattle.hold_plain.specs.inner.Keys.{HoldsPlaces, ArePlaces}
use Rattle.hold_plain.specs.Served.{IsForward, HasDelay, HasDelayAs, IsServedUses}
use Rattle.hold_plain.specs.inner.Served.{IsUseWithin}
use Rattle.hold_plain.specs.inner.Tested.{input_net_as, IsAfterDriver, HasDelayIn, HasDelayInAs, IsSoundList, IsInOrder}
use Rattle.hold_plain.proofs.PlaceLemmas.{place_of-stands, place_of-nowhere, place_of-contains, contains-place_of}
use Rattle.hold_plain.proofs.PlaceTables.{AreBelow}

-- what holds of each pin holds of the one at a place
All_at : (P : PinUse → Type 0) (uses : List PinUse) (k : ℕ) (u : PinUse) → All P uses → slice_get uses k ≡ Some u → P u
All_at P uses k u all at = subst P (get_or_from_slice_get uses k u u at) (all k u (slice_get_within uses k u at))

All_from_at : (P : PinUse → Type 0) (uses : List PinUse) → ((k : ℕ) (u : PinUse) → slice_get uses k ≡ Some u → P u) → All P uses
All_from_at P uses each k d within = each k (get_or uses k d) (slice_get-get_or uses k d within)

-- a key of a list of pins is that of one pin
key_at : (key_of : PinUse → Option ℕ) (uses : List PinUse) (place key : ℕ) → slice_get (map key_of uses) place ≡ Some (Some key) →
    (u : PinUse) × (slice_get uses place ≡ Some u) × (key_of u ≡ Some key)
key_at key_of uses place key at = by_pin (slice_get uses place) refl (sym (slice_get-map key_of uses place) ∙ at)
  where
    by_pin : (found : Option PinUse) → slice_get uses place ≡ found → option_map key_of found ≡ Some (Some key) → (u : PinUse) × (slice_get uses place ≡ Some u) × (key_of u ≡ Some key)
    by_pin None is e = absurd (none-some (Some key) e)
    by_pin (Some u) is e = (u, is, same_Some (key_of u) (Some key) e)

at_key : (key_of : PinUse → Option ℕ) (uses : List PinUse) (place key : ℕ) (u : PinUse) → slice_get uses place ≡ Some u → key_of u ≡ Some key → slice_get (map key_of uses) place ≡ Some (Some key)
at_key key_of uses place key u at is = slice_get-map key_of uses place ∙ ap (option_map key_of) at ∙ ap (λ (k : Option ℕ). Some k) is

-- a pin drives the net that its source names, if any
driven_net : (role : PinRole) (source : Source) (net : ℕ) → driven_as role source ≡ Some net → net_of source ≡ Some net
driven_net Output source net e = e
driven_net Launch source net e = e
driven_net InPort source net e = e
driven_net Input source net e = absurd (none-some net e)
driven_net Clock source net e = absurd (none-some net e)
driven_net Data source net e = absurd (none-some net e)
driven_net OutPort source net e = absurd (none-some net e)
driven_net Stray source net e = absurd (none-some net e)

pub AreBelow-driven : (nets insts : ℕ) (uses : List PinUse) → All (IsUseWithin nets insts) uses → AreBelow nets (map driven uses)
AreBelow-driven nets insts uses within place net at =
    let pin = key_at driven uses place net at in
    (All_at (IsUseWithin nets insts) uses place pin.0 within pin.1).net net (driven_net pin.0.role pin.0.source net pin.2)

pub AreBelow-fed : (nets insts : ℕ) (uses : List PinUse) → All (IsUseWithin nets insts) uses → AreBelow insts (map fed uses)
AreBelow-fed nets insts uses within place inst at =
    let pin = key_at fed uses place inst at in
    (All_at (IsUseWithin nets insts) uses place pin.0 within pin.1).feeds inst pin.2

-- where each net has one driver at most, its place is in the table
table_of-one : (bound place key : ℕ) (keys table : List (Option ℕ)) → HoldsPlaces bound keys table → OneEach keys → slice_get keys place ≡ Some (Some key) → get_or table key None ≡ Some place
table_of-one bound place key keys table holds one at = by_place (place_of key keys) refl
  where
    by_place : (found : Option ℕ) → place_of key keys ≡ found → get_or table key None ≡ Some place
    by_place None e = absurd (place_of-nowhere key place keys e at)
    by_place (Some other) e = holds.places key ∙ e ∙ ap (λ (p : ℕ). Some p) (one other place key (place_of-stands key other keys e) at)

net_of-net : (source : Source) (net : ℕ) → net_of source ≡ Some net → source ≡ Net (record { 0 = net })
net_of-net (Net n) net e = ap (λ (k : ℕ). let q : NetNo = record { 0 = k } in Net q) (same_Some n.0 net e)
net_of-net Zero net e = absurd (none-some net e)
net_of-net One net e = absurd (none-some net e)
net_of-net Empty net e = absurd (none-some net e)

-- a pin that has an input's net is an input, tied to the net
input_net-role : (role : PinRole) (source : Source) (net : ℕ) → input_net_as role source ≡ Some net → (role ≡ Input) × (source ≡ Net (record { 0 = net }))
input_net-role Input source net e = (refl, net_of-net source net e)
input_net-role Output source net e = absurd (none-some net e)
input_net-role Clock source net e = absurd (none-some net e)
input_net-role Data source net e = absurd (none-some net e)
input_net-role Launch source net e = absurd (none-some net e)
input_net-role InPort source net e = absurd (none-some net e)
input_net-role OutPort source net e = absurd (none-some net e)
input_net-role Stray source net e = absurd (none-some net e)

pub forward-from_drivers : (nets : ℕ) (uses : List PinUse) (drivers : List (Option ℕ)) → HoldsPlaces nets (map driven uses) drivers → OneEach (map driven uses) →
    All (IsAfterDriver uses drivers) uses → IsForward uses
forward-from_drivers nets uses drivers holds one all i j net from to at_from at_to is_output drives is_input reads =
    All_at (IsAfterDriver uses drivers) uses j to all at_to net i from
    (rw (is_input, reads) refl)
    (table_of-one nets i net (map driven uses) drivers holds one (at_key driven uses i net from at_from drives))
    at_from is_output

pub drivers-from_forward : (nets : ℕ) (uses : List PinUse) (drivers : List (Option ℕ)) → HoldsPlaces nets (map driven uses) drivers →
    IsForward uses → All (IsAfterDriver uses drivers) uses
drivers-from_forward nets uses drivers holds forward = All_from_at (IsAfterDriver uses drivers) uses (λ k u at net place from reads placed at_from is_output.
    let pin = key_at driven uses place net (place_of-stands net place (map driven uses) (sym (holds.places net) ∙ placed)) in
    let is_from : pin.0 ≡ from = same_Some pin.0 from (sym pin.1 ∙ at_from) in
    let input = input_net-role u.role u.source net reads in
    forward place k net from u at_from at is_output (ap driven (sym is_from) ∙ pin.2) input.0 input.1)

delay_in : (bound : ℕ) (keys feeders : List (Option ℕ)) (role : PinRole) (u : PinUse) → HoldsPlaces bound keys feeders → HasDelayInAs role feeders u → HasDelayAs role keys u
delay_in bound keys feeders Output u holds has = λ feeds. has (ap is_some (holds.places u.inst) ∙ place_of-contains u.inst keys feeds)
delay_in bound keys feeders Launch u holds has = has
delay_in bound keys feeders Input u holds has = tt
delay_in bound keys feeders Clock u holds has = tt
delay_in bound keys feeders Data u holds has = tt
delay_in bound keys feeders InPort u holds has = tt
delay_in bound keys feeders OutPort u holds has = tt
delay_in bound keys feeders Stray u holds has = tt

delay_back : (bound : ℕ) (keys feeders : List (Option ℕ)) (role : PinRole) (u : PinUse) → HoldsPlaces bound keys feeders → HasDelayAs role keys u → HasDelayInAs role feeders u
delay_back bound keys feeders Output u holds has = λ placed. has (contains-place_of u.inst keys (sym (ap is_some (holds.places u.inst)) ∙ placed))
delay_back bound keys feeders Launch u holds has = has
delay_back bound keys feeders Input u holds has = tt
delay_back bound keys feeders Clock u holds has = tt
delay_back bound keys feeders Data u holds has = tt
delay_back bound keys feeders InPort u holds has = tt
delay_back bound keys feeders OutPort u holds has = tt
delay_back bound keys feeders Stray u holds has = tt

pub delays-from_table : (bound : ℕ) (keys feeders : List (Option ℕ)) (uses : List PinUse) → HoldsPlaces bound keys feeders → All (HasDelayIn feeders) uses → All (HasDelay keys) uses
delays-from_table bound keys feeders uses holds = All-weaker (HasDelayIn feeders) (HasDelay keys) (λ u. delay_in bound keys feeders u.role u holds) uses

pub table-from_delays : (bound : ℕ) (keys feeders : List (Option ℕ)) (uses : List PinUse) → HoldsPlaces bound keys feeders → All (HasDelay keys) uses → All (HasDelayIn feeders) uses
table-from_delays bound keys feeders uses holds = All-weaker (HasDelay keys) (HasDelayIn feeders) (λ u. delay_back bound keys feeders u.role u holds) uses

pub served-from_tests : (nets insts : ℕ) (uses : List PinUse) (drivers feeders : List (Option ℕ)) → ArePlaces nets insts uses drivers feeders →
    OneEach (map driven uses) → OneEach (map fed uses) → IsSoundList uses → IsInOrder uses drivers feeders → IsServedUses uses
served-from_tests nets insts uses drivers feeders places one_driver one_input sound ordered = record {
  pins = sound.pins;
  known = sound.known;
  outputs = sound.outputs;
  drivers = one_driver;
  one_input = one_input;
  forward = forward-from_drivers nets uses drivers places.drives one_driver ordered.forward;
  delays = delays-from_table insts (map fed uses) feeders uses places.feeds ordered.delays;
  checks = sound.checks;
}

pub order-from_served : (nets insts : ℕ) (uses : List PinUse) (drivers feeders : List (Option ℕ)) → ArePlaces nets insts uses drivers feeders →
    IsServedUses uses → IsInOrder uses drivers feeders
order-from_served nets insts uses drivers feeders places served = record {
  forward = drivers-from_forward nets uses drivers places.drives served.forward;
  delays = table-from_delays insts (map fed uses) feeders uses places.feeds served.delays;
}
