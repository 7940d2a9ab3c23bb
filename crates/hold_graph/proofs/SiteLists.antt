-- Sites: what makes a pin one by the walks through it, lists of them in pin order, and the table of their places.
use Rattle.std.proofs.Common.{◌≡◌, ℕ, zero, suc, ◌+◌, ◌<◌, ◌≤◌, List, [], ◌∷◌, ◌++◌, length, set, get_or, refl, ap, sym, ◌∙◌, subst, ◌⊎◌, inl, inr, arith, Bool, true, false, not, ◌&&◌, append_assoc}
use Rattle.std.specs.Prelude.{Option, Some, None, slice_get, Contains, All}
use Rattle.std.proofs.lemmas.Bool.{cases_eq, cases_order, and_parts, false_from_ne_true}
use Rattle.std.proofs.lemmas.List.Folds.{Any-from_list_any, list_any-from_Any}
use Rattle.std.proofs.lemmas.List.{get_or-set_same, get_or-set_other}
use Rattle.std.proofs.lemmas.List.Elements.{All-contains, All-push, All-weaker, Contains-push, Contains-append_left}
use Rattle.std.proofs.lemmas.Option.{slice_get-get_or, slice_get_within, slice_get_read, get_or_from_slice_get, same_Some}
use Rattle.hold_base.proofs.Lists.{slice_get-push}
use Rattle.hold_base.specs.declared.number.PinNo.{PinNo}
use Rattle.hold_base.specs.declared.number.SiteNo.{SiteNo}
use Rattle.hold_graph.specs.declared.graph.Arc.{Arc}
use Rattle.hold_graph.specs.declared.graph.Parts.{Parts}
use Rattle.hold_graph.specs.Path.{HasArc, EachNext, last_pin, IsCheckedPath}
use Rattle.hold_graph.specs.Graph.{NamesItsPins}
use Rattle.hold_graph.specs.SitePins.{EndsWire, IsSite, AreSites}
use Rattle.hold_graph.specs.declared.site.SiteMarks.{SiteMarks}
use Rattle.hold_graph.specs.declared.adjacency.End.TheVariants.{To}
use Rattle.hold_graph.specs.Adjacency.{places_into}
use Rattle.hold_graph.specs.inner.Marks.{AreExact, LeadsTo, IsLedTo}
use Rattle.hold_graph.specs.inner.Graph.{IsWalkThrough}
use Rattle.hold_graph.specs.inner.Sites.{is_open, is_led_wire, any_led_wire, AreSiteMarks, AreSitesBelow, IsSiteTable}
use Rattle.hold_graph.proofs.Spread.{IsArcAt, arc_at, at_row, place_of_arc}
use Rattle.hold_graph.proofs.Places.{same_pin}
use Rattle.hold_graph.proofs.Paths.{EachNext-append, EachNext-append_left, EachNext-append_right, last_pin-append, split_last, checked-from, walk-from_checked}

-- pins in the order of their numbers, each once
abbrev pub AreRising : List PinNo → Type 0
AreRising pins = (j k : ℕ) (a b : PinNo) → j < k → slice_get pins j ≡ Some a → slice_get pins k ≡ Some b → a.0 < b.0

-- a wire arc that ends at the pin, from a pin that a launch leads to
pub record IsLedByWire (parts : Parts) (pin : PinNo) : Type 0 where
  pub source : PinNo
  pub wire : Contains parts.arcs (record { from = source; to = pin; wire = true })
  pub led : IsLedTo parts.arcs parts.launches source

arc_listed : (arcs : List Arc) (a b : PinNo) → Contains arcs (record { from = a; to = b; wire = true }) → HasArc arcs a b
arc_listed arcs a b listed = record { arc = record { from = a; to = b; wire = true }; listed = listed; from = refl; to = refl }

append-some : (xs ys : List PinNo) (y : PinNo) → xs ++ y ∷ ys ≡ [] → ⊥
append-some [] ys y e = cc
append-some (x ∷ xs) ys y e = cc

pub ends_wire-from : (parts : Parts) (pin : PinNo) → IsLedByWire parts pin → LeadsTo parts.arcs parts.captures pin → EndsWire parts pin
ends_wire-from parts pin wire leads =
    let led : IsLedTo parts.arcs parts.launches wire.source = wire.led in
    let cut = split_last led.first led.steps in
    let path : led.first ∷ (led.steps ++ pin ∷ leads.steps) ≡ cut.0 ++ wire.source ∷ pin ∷ leads.steps =
    ap (λ (xs : List PinNo). xs ++ pin ∷ leads.steps) cut.1
    ∙ append_assoc cut.0 (last_pin led.first led.steps ∷ []) (pin ∷ leads.steps)
    ∙ ap (λ (p : PinNo). cut.0 ++ p ∷ pin ∷ leads.steps) led.ends in
    let step : HasArc parts.arcs (last_pin led.first led.steps) pin =
    subst (λ (p : PinNo). HasArc parts.arcs p pin) (sym led.ends) (arc_listed parts.arcs wire.source pin wire.wire) in
    record {
      before = cut.0;
      source = wire.source;
      after = leads.steps;
      checked = subst (IsCheckedPath parts) path
          (checked-from parts led.first (led.steps ++ pin ∷ leads.steps) (append-some led.steps leads.steps pin) led.begins
          (subst (Contains parts.captures) (sym (last_pin-append led.first led.steps (pin ∷ leads.steps))) leads.there)
          (EachNext-append parts.arcs led.first led.steps (pin ∷ leads.steps) led.next (step, leads.next)));
      wire = wire.wire;
    }

-- the walks before and after the step of a checked path
pub record AreWalks (parts : Parts) (source pin : PinNo) : Type 0 where
  pub led : IsLedTo parts.arcs parts.launches source
  pub leads : LeadsTo parts.arcs parts.captures pin

walks-through : (parts : Parts) (before : List PinNo) (source pin : PinNo) (after : List PinNo) → IsCheckedPath parts (before ++ source ∷ pin ∷ after) → AreWalks parts source pin
walks-through parts [] source pin after checked =
    let walk : IsWalkThrough parts source (pin ∷ after) = walk-from_checked parts source (pin ∷ after) checked in
    record {
      led = record { first = source; steps = []; begins = walk.begins; next = tt; ends = refl };
      leads = record { steps = after; next = walk.next.1; there = walk.ends };
    }
walks-through parts (x ∷ xs) source pin after checked =
    let walk : IsWalkThrough parts x (xs ++ source ∷ pin ∷ after) = walk-from_checked parts x (xs ++ source ∷ pin ∷ after) checked in
    let cut : xs ++ source ∷ pin ∷ after ≡ (xs ++ source ∷ []) ++ pin ∷ after = sym (append_assoc xs (source ∷ []) (pin ∷ after)) in
    let last : last_pin x (xs ++ source ∷ []) ≡ source = last_pin-append x xs (source ∷ []) in
    let next : EachNext parts.arcs x ((xs ++ source ∷ []) ++ pin ∷ after) = subst (EachNext parts.arcs x) cut walk.next in
    let rest : EachNext parts.arcs source (pin ∷ after) =
    subst (λ (p : PinNo). EachNext parts.arcs p (pin ∷ after)) last (EachNext-append_right parts.arcs x (xs ++ source ∷ []) (pin ∷ after) next) in
    record {
      led = record { first = x; steps = xs ++ source ∷ []; begins = walk.begins; next = EachNext-append_left parts.arcs x (xs ++ source ∷ []) (pin ∷ after) next; ends = last };
      leads = record { steps = after; next = rest.1; there = subst (Contains parts.captures) (last_pin-append x xs (source ∷ pin ∷ after)) walk.ends };
    }

pub led_by_wire : (parts : Parts) (pin : PinNo) → EndsWire parts pin → IsLedByWire parts pin
led_by_wire parts pin ends = record { source = ends.source; wire = ends.wire; led = (walks-through parts ends.before ends.source pin ends.after ends.checked).led }

pub leads_to_capture : (parts : Parts) (pin : PinNo) → EndsWire parts pin → LeadsTo parts.arcs parts.captures pin
leads_to_capture parts pin ends = (walks-through parts ends.before ends.source pin ends.after ends.checked).leads

pub site-from : (parts : Parts) (pin : PinNo) → IsLedByWire parts pin → LeadsTo parts.arcs parts.captures pin → (Contains parts.keeps pin → ⊥) → (LeadsTo parts.arcs parts.clocks pin → ⊥) → IsSite parts pin
site-from parts pin wire leads free off = record {
  ends = ends_wire-from parts pin wire leads;
  free = free;
  off_clock = λ steps next there. off (record { steps = steps; next = next; there = there });
}

pub site-off_clock : (parts : Parts) (pin : PinNo) → IsSite parts pin → LeadsTo parts.arcs parts.clocks pin → ⊥
site-off_clock parts pin site leads = site.off_clock leads.steps leads.next leads.there

-- a site is a pin of the parts
pub site-there : (parts : Parts) (pin : PinNo) → NamesItsPins parts → IsSite parts pin → pin.0 < parts.pins
site-there parts pin numbers site =
    All-contains (λ (arc : Arc). arc.to.0 < parts.pins) parts.arcs (record { from = site.ends.source; to = pin; wire = true }) numbers.to site.ends.wire

pub sites-skip : (parts : Parts) (n : ℕ) (sites : List PinNo) → AreSitesBelow parts n sites → (IsSite parts (record { 0 = n }) → ⊥) → AreSitesBelow parts (n + 1) sites
sites-skip parts n sites h isnt = record {
  sound = h.sound;
  below = All-weaker (λ (pin : PinNo). pin.0 < n) (λ (pin : PinNo). pin.0 < n + 1) (λ pin lt. omega arith) sites h.below;
  whole = λ pin site lt. by_case pin site lt (cases_eq pin.0 n);
  rising = h.rising;
}
  where
    by_case : (pin : PinNo) → IsSite parts pin → pin.0 < n + 1 → ((pin.0 ≡ n) ⊎ (pin.0 ≡ n → ⊥)) → Contains sites pin
    by_case pin site lt (inl same) = absurd (isnt (subst (IsSite parts) (same_pin pin (record { 0 = n }) same) site))
    by_case pin site lt (inr differs) = h.whole pin site (omega arith)

pub sites-push : (parts : Parts) (n : ℕ) (sites : List PinNo) → AreSitesBelow parts n sites → IsSite parts (record { 0 = n }) → AreSitesBelow parts (n + 1) (sites ++ (record { 0 = n }) ∷ [])
sites-push parts n sites h site = record {
  sound = All-push (IsSite parts) sites (record { 0 = n }) h.sound site;
  below = All-push (λ (pin : PinNo). pin.0 < n + 1) sites (record { 0 = n }) (All-weaker (λ (pin : PinNo). pin.0 < n) (λ (pin : PinNo). pin.0 < n + 1) (λ pin lt. omega arith) sites h.below) (omega arith);
  whole = λ pin is lt. by_case pin is lt (cases_eq pin.0 n);
  rising = λ j k a b lt is_a is_b. rising_case j k a b lt (slice_get-push sites (record { 0 = n }) j a is_a) (slice_get-push sites (record { 0 = n }) k b is_b);
}
  where
    by_case : (pin : PinNo) → IsSite parts pin → pin.0 < n + 1 → ((pin.0 ≡ n) ⊎ (pin.0 ≡ n → ⊥)) → Contains (sites ++ (record { 0 = n }) ∷ []) pin
    by_case pin is lt (inl same) = subst (Contains (sites ++ (record { 0 = n }) ∷ [])) (sym (same_pin pin (record { 0 = n }) same)) (Contains-push sites (record { 0 = n }))
    by_case pin is lt (inr differs) = Contains-append_left sites ((record { 0 = n }) ∷ []) pin (h.whole pin is (omega arith))

    rising_case : (j k : ℕ) (a b : PinNo) → j < k → ((slice_get sites j ≡ Some a) ⊎ ((j ≡ length sites) × ((record { 0 = n }) ≡ a))) →
        ((slice_get sites k ≡ Some b) ⊎ ((k ≡ length sites) × ((record { 0 = n }) ≡ b))) → a.0 < b.0
    rising_case j k a b lt (inl is_a) (inl is_b) = h.rising j k a b lt is_a is_b
    rising_case j k a b lt (inl is_a) (inr last) =
        let below : (get_or sites j a).0 < n = h.below j a (slice_get_within sites j a is_a) in
        let at : get_or sites j a ≡ a = get_or_from_slice_get sites j a a is_a in
        let e : (get_or sites j a).0 ≡ a.0 = ap (λ (p : PinNo). p.0) at in
        let f : n ≡ b.0 = ap (λ (p : PinNo). p.0) last.1 in
        omega arith
    rising_case j k a b lt (inr last) (inl is_b) = absurd (let within = slice_get_within sites k b is_b in let e = last.0 in omega arith)
    rising_case j k a b lt (inr last) (inr end) = absurd (let e = last.0 in let f = end.0 in omega arith)

-- rising numbers are at least their places
pub rising-least : (sites : List PinNo) → ((j k : ℕ) (a b : PinNo) → j < k → slice_get sites j ≡ Some a → slice_get sites k ≡ Some b → a.0 < b.0) →
    (k : ℕ) (pin : PinNo) → slice_get sites k ≡ Some pin → k ≤ pin.0
rising-least sites rising zero pin at = omega arith
rising-least sites rising (suc k) pin at =
    let within = slice_get_within sites (suc k) pin at in
    let before : slice_get sites k ≡ Some (get_or sites k pin) = slice_get-get_or sites k pin (omega arith) in
    let least : k ≤ (get_or sites k pin).0 = rising-least sites rising k (get_or sites k pin) before in
    let lt = rising k (suc k) (get_or sites k pin) pin (omega arith) before at in
    omega arith

pub rising-few : (pins : ℕ) (sites : List PinNo) → ((j k : ℕ) (a b : PinNo) → j < k → slice_get sites j ≡ Some a → slice_get sites k ≡ Some b → a.0 < b.0) →
    All (λ pin. pin.0 < pins) sites → length sites ≤ pins
rising-few pins [] rising below = omega arith
rising-few pins (x ∷ xs) rising below =
    let last : slice_get (x ∷ xs) (length xs) ≡ Some (get_or (x ∷ xs) (length xs) x) = slice_get-get_or (x ∷ xs) (length xs) x (omega arith) in
    let least = rising-least (x ∷ xs) rising (length xs) (get_or (x ∷ xs) (length xs) x) last in
    let most : (get_or (x ∷ xs) (length xs) x).0 < pins = below (length xs) x (omega arith) in
    omega arith

-- the table has the places below n
pub record IsSiteTableUpTo (sites : List PinNo) (n : ℕ) (table : List (Option SiteNo)) : Type 0 where
  pub tells : (pin : ℕ) (site : SiteNo) → get_or table pin None ≡ Some site → slice_get sites site.0 ≡ Some (record { 0 = pin })
  pub each : (k : ℕ) (pin : PinNo) → k < n → slice_get sites k ≡ Some pin → get_or table pin.0 None ≡ Some (record { 0 = k })

pub table-more : (sites : List PinNo) → ((j k : ℕ) (a b : PinNo) → j < k → slice_get sites j ≡ Some a → slice_get sites k ≡ Some b → a.0 < b.0) →
    (n : ℕ) (new : PinNo) (table : List (Option SiteNo)) → slice_get sites n ≡ Some new → new.0 < length table →
    IsSiteTableUpTo sites n table → IsSiteTableUpTo sites (n + 1) (set table new.0 (Some (record { 0 = n })))
table-more sites rising n new table at below h = record {
  tells = λ pin site is. tells_case pin site is (cases_eq pin new.0);
  each = λ k pin lt is. each_case k pin lt is (cases_eq k n);
}
  where
    tells_case : (pin : ℕ) (site : SiteNo) → get_or (set table new.0 (Some (record { 0 = n }))) pin None ≡ Some site → ((pin ≡ new.0) ⊎ (pin ≡ new.0 → ⊥)) →
        slice_get sites site.0 ≡ Some (record { 0 = pin })
    tells_case pin site is (inl same) =
        let here : (record { 0 = n }) ≡ site =
        same_Some (record { 0 = n }) site (sym (get_or-set_same table new.0 (Some (record { 0 = n })) None below) ∙ ap (λ k. get_or (set table new.0 (Some (record { 0 = n }))) k None) (sym same) ∙ is) in
        ap (λ (s : SiteNo). slice_get sites s.0) (sym here) ∙ at ∙ ap (λ (p : PinNo). Some p) (same_pin new (record { 0 = pin }) (sym same))
    tells_case pin site is (inr differs) = h.tells pin site (sym (get_or-set_other table new.0 pin (Some (record { 0 = n })) None differs) ∙ is)

    each_case : (k : ℕ) (pin : PinNo) → k < n + 1 → slice_get sites k ≡ Some pin → ((k ≡ n) ⊎ (k ≡ n → ⊥)) →
        get_or (set table new.0 (Some (record { 0 = n }))) pin.0 None ≡ Some (record { 0 = k })
    each_case k pin lt is (inl same) =
        let here : pin ≡ new = same_Some pin new (sym is ∙ ap (slice_get sites) same ∙ at) in
        ap (λ (p : PinNo). get_or (set table new.0 (Some (record { 0 = n }))) p.0 None) here
        ∙ get_or-set_same table new.0 (Some (record { 0 = n })) None below
        ∙ ap (λ (m : ℕ). let s : SiteNo = record { 0 = m } in Some s) (sym same)
    each_case k pin lt is (inr differs) =
        let order = rising k n pin new (omega arith) is at in
        get_or-set_other table new.0 pin.0 (Some (record { 0 = n })) None (omega arith) ∙ h.each k pin (omega arith) is

pub table-all : (sites : List PinNo) (n : ℕ) (table : List (Option SiteNo)) → length sites ≤ n → IsSiteTableUpTo sites n table → IsSiteTable sites table
table-all sites n table all h = record {
  tells = h.tells;
  each = λ k pin is. h.each k pin (let lt = slice_get_within sites k pin is in omega arith) is;
}

-- what the code reads of the arc at a place
pub is_led_wire-read : (launched : List Bool) (arcs : List Arc) (place : ℕ) (d : Arc) → place < length arcs →
    is_led_wire launched (slice_get arcs place) ≡ ((get_or arcs place d).wire && get_or launched (get_or arcs place d).from.0 false)
is_led_wire-read launched arcs place d below = ap (is_led_wire launched) (slice_get-get_or arcs place d below)

led_wire_parts : (launched : List Bool) (o : Option Arc) → is_led_wire launched o ≡ true → (arc : Arc) × (o ≡ Some arc) × (arc.wire ≡ true) × (get_or launched arc.from.0 false ≡ true)
led_wire_parts launched None is = cc
led_wire_parts launched (Some arc) is = let both = and_parts arc.wire (get_or launched arc.from.0 false) is in (arc, refl, both.0, both.1)

-- a led wire at one of the places of the pin's row
pub led_by_wire-from : (parts : Parts) (launched : List Bool) (pin : PinNo) (places : List ℕ) → NamesItsPins parts → AreExact parts.pins (IsLedTo parts.arcs parts.launches) launched →
    places ≡ places_into parts.arcs pin → any_led_wire launched parts.arcs places ≡ true → IsLedByWire parts pin
led_by_wire-from parts launched pin places numbers marks row some =
    let found = Any-from_list_any (λ place. is_led_wire launched (slice_get parts.arcs place)) places some in
    let has : Contains places found.1 = (found.0, found.2, found.3) in
    let there : IsArcAt To parts.arcs pin found.1 = arc_at To parts.arcs pin found.1 (subst (λ (xs : List ℕ). Contains xs found.1) row has) in
    let read = led_wire_parts launched (slice_get parts.arcs found.1) found.4 in
    let same : read.0 ≡ there.arc = same_Some read.0 there.arc (sym read.1 ∙ there.is) in
    let below : there.arc.from.0 < parts.pins = All-contains (λ (arc : Arc). arc.from.0 < parts.pins) parts.arcs there.arc numbers.from there.listed in
    let wire : there.arc.wire ≡ true = ap (λ (arc : Arc). arc.wire) (sym same) ∙ read.2 in
    let mark : get_or launched there.arc.from.0 false ≡ true = ap (λ (arc : Arc). get_or launched arc.from.0 false) (sym same) ∙ read.3 in
    let is : there.arc ≡ record { from = there.arc.from; to = pin; wire = true } =
    ap (λ (p : PinNo). let arc : Arc = record { from = there.arc.from; to = p; wire = there.arc.wire } in arc) there.meets
    ∙ ap (λ (w : Bool). let arc : Arc = record { from = there.arc.from; to = pin; wire = w } in arc) wire in
    record { source = there.arc.from; wire = subst (Contains parts.arcs) is there.listed; led = (marks.exact there.arc.from below).0 mark }

pub any_led_wire-from : (parts : Parts) (launched : List Bool) (pin : PinNo) (places : List ℕ) → NamesItsPins parts → AreExact parts.pins (IsLedTo parts.arcs parts.launches) launched →
    places ≡ places_into parts.arcs pin → IsLedByWire parts pin → any_led_wire launched parts.arcs places ≡ true
any_led_wire-from parts launched pin places numbers marks row wire =
    let arc : Arc = record { from = wire.source; to = pin; wire = true } in
    let below : wire.source.0 < parts.pins = All-contains (λ (a : Arc). a.from.0 < parts.pins) parts.arcs arc numbers.from wire.wire in
    let mark : get_or launched wire.source.0 false ≡ true = (marks.exact wire.source below).1 wire.led in
    let place = place_of_arc parts.arcs arc wire.wire in
    let has : Contains places place.0 = subst (λ (xs : List ℕ). Contains xs place.0) (sym row) (at_row To parts.arcs place.0 arc place.1) in
    let holds : is_led_wire launched (slice_get parts.arcs place.0) ≡ true = ap (is_led_wire launched) place.1 ∙ mark in
    list_any-from_Any (λ k. is_led_wire launched (slice_get parts.arcs k)) places (has.0, place.0, has.1, has.2, holds)

open-parts : (captured clocked kept : Bool) → (captured && (not clocked && not kept)) ≡ true → (captured ≡ true) × (clocked ≡ false) × (kept ≡ false)
open-parts true false false e = (refl, refl, refl)
open-parts true false true e = cc
open-parts true true kept e = cc
open-parts false clocked kept e = cc

open-from : (captured clocked kept : Bool) → captured ≡ true → clocked ≡ false → kept ≡ false → (captured && (not clocked && not kept)) ≡ true
open-from captured clocked kept e f g = rw (e, f, g) refl

-- whether a pin is a site, by its marks
pub site-exact : (parts : Parts) (marks : SiteMarks) (pin : PinNo) (places : List ℕ) → NamesItsPins parts → AreSiteMarks parts marks → pin.0 < parts.pins → places ≡ places_into parts.arcs pin →
    is_open marks pin ≡ true → (any_led_wire marks.launched.items parts.arcs places ≡ true → IsSite parts pin) × (IsSite parts pin → any_led_wire marks.launched.items parts.arcs places ≡ true)
site-exact parts marks pin places numbers are below row is_open = (
  (λ some.
      let tests = open-parts (get_or marks.captured.items pin.0 false) (get_or marks.clocked.items pin.0 false) (get_or marks.kept.items pin.0 false) is_open in
      site-from parts pin (led_by_wire-from parts marks.launched.items pin places numbers are.launched row some) ((are.captured.exact pin below).0 tests.0)
      (λ kept. let on = (are.kept.exact pin below).1 kept in let off = tests.2 in cc)
      (λ leads. let on = (are.clocked.exact pin below).1 leads in let off = tests.1 in cc)),
  (λ site. any_led_wire-from parts marks.launched.items pin places numbers are.launched row (led_by_wire parts pin site.ends)),
)

pub site-closed : (parts : Parts) (marks : SiteMarks) (pin : PinNo) → AreSiteMarks parts marks → pin.0 < parts.pins → is_open marks pin ≡ false → IsSite parts pin → ⊥
site-closed parts marks pin are below closed site =
    let captured = (are.captured.exact pin below).1 (leads_to_capture parts pin site.ends) in
    let clocked = false_from_ne_true (get_or marks.clocked.items pin.0 false) (λ e. site-off_clock parts pin site ((are.clocked.exact pin below).0 e)) in
    let kept = false_from_ne_true (get_or marks.kept.items pin.0 false) (λ e. site.free ((are.kept.exact pin below).0 e)) in
    let on = open-from (get_or marks.captured.items pin.0 false) (get_or marks.clocked.items pin.0 false) (get_or marks.kept.items pin.0 false) captured clocked kept in
    absurd cc

-- one graph has one list of sites
rising-tail : (x : PinNo) (xs : List PinNo) → AreRising (x ∷ xs) → AreRising xs
rising-tail x xs h = λ j k a b lt is_a is_b. h (suc j) (suc k) a b (omega arith) is_a is_b

rising-first : (x : PinNo) (xs : List PinNo) → AreRising (x ∷ xs) → (z : PinNo) → Contains xs z → x.0 < z.0
rising-first x xs h z has = h 0 (suc has.0) x z (omega arith) refl (slice_get_read xs (length xs) has.0 z refl has.1 (sym has.2))

in-tail : (x z : PinNo) (xs : List PinNo) → Contains (x ∷ xs) z → (z ≡ x → ⊥) → Contains xs z
in-tail x z xs has differs = by_place has.0 has.1 has.2
  where
    by_place : (k : ℕ) → k < length (x ∷ xs) → get_or (x ∷ xs) k z ≡ z → Contains xs z
    by_place zero lt at = absurd (differs (sym at))
    by_place (suc k) lt at = (k, (omega arith), at)

-- rising lists of the same pins are one list
pub rising-same : (xs ys : List PinNo) → AreRising xs → AreRising ys → ((z : PinNo) → Contains xs z → Contains ys z) → ((z : PinNo) → Contains ys z → Contains xs z) → xs ≡ ys
rising-same [] [] r s to back = refl
rising-same [] (y ∷ ys) r s to back = let has : Contains [] y = back y (0, (omega arith), refl) in absurd (let lt = has.1 in omega arith)
rising-same (x ∷ xs) [] r s to back = let has : Contains [] x = to x (0, (omega arith), refl) in absurd (let lt = has.1 in omega arith)
rising-same (x ∷ xs) (y ∷ ys) r s to back =
    let same : x ≡ y = same_pin x y (first (cases_order x.0 y.0)) in
    ap (λ (z : PinNo). z ∷ xs) same
    ∙ ap (λ (zs : List PinNo). y ∷ zs) (rising-same xs ys (rising-tail x xs r) (rising-tail y ys s)
    (λ z has. in-tail y z ys (to z (suc has.0, (let lt = has.1 in omega arith), has.2)) (λ e. let lt = rising-first x xs r z has in let n : x.0 ≡ y.0 = ap (λ (p : PinNo). p.0) same in let m : z.0 ≡ y.0 = ap (λ (p : PinNo). p.0) e in absurd (omega arith)))
    (λ z has. in-tail x z xs (back z (suc has.0, (let lt = has.1 in omega arith), has.2)) (λ e. let lt = rising-first y ys s z has in let n : x.0 ≡ y.0 = ap (λ (p : PinNo). p.0) same in let m : z.0 ≡ x.0 = ap (λ (p : PinNo). p.0) e in absurd (omega arith))))
  where
    first : ((x.0 ≡ y.0) ⊎ ((x.0 < y.0) ⊎ (y.0 < x.0))) → x.0 ≡ y.0
    first (inl e) = e
    first (inr (inl lt)) =
        let has : Contains ys x = in-tail y x ys (to x (0, (omega arith), refl)) (λ e. let n : x.0 ≡ y.0 = ap (λ (p : PinNo). p.0) e in absurd (omega arith)) in
        let more = rising-first y ys s x has in absurd (omega arith)
    first (inr (inr lt)) =
        let has : Contains xs y = in-tail x y xs (back y (0, (omega arith), refl)) (λ e. let n : y.0 ≡ x.0 = ap (λ (p : PinNo). p.0) e in absurd (omega arith)) in
        let more = rising-first x xs r y has in absurd (omega arith)

pub sites-unique : (parts : Parts) (xs ys : List PinNo) → AreSites parts xs → AreSites parts ys → xs ≡ ys
sites-unique parts xs ys h k =
    rising-same xs ys h.rising k.rising
    (λ z has. k.whole z (All-contains (IsSite parts) xs z h.sound has))
    (λ z has. h.whole z (All-contains (IsSite parts) ys z k.sound has))
