-- Sites by pin, how many there are, and how long a checked path is.
use Rattle.std.proofs.Common.{◌≡◌, ℕ, suc, ◌+◌, ◌-◌, ◌*◌, ◌<◌, ◌≤◌, ◌==◌, Bool, true, false, ltb, List, [], ◌∷◌, length, get_or, take, drop, refl, ap, ◌∙◌, subst, arith}
use Rattle.std.specs.Prelude.{Some, None, position, slice_get, All, Contains}
use Rattle.std.specs.List.{position_or_len}
use Rattle.std.proofs.lemmas.Bool.Decides.{nat_tests}
use Rattle.std.proofs.lemmas.List.Sums.{position_or_len_is}
use Rattle.std.proofs.lemmas.List.Elements.{All-contains, All-nil, All-cons}
use Rattle.std.proofs.lemmas.Option.{slice_get_within, slice_get-get_or, get_or_from_slice_get}
use Rattle.std.proofs.Math.Nat.{mul-le-mul_right}
use Rattle.std.proofs.lemmas.List.{take_all}
use Rattle.hold_base.proofs.Bools.{false-never}
use Rattle.hold_base.specs.declared.number.PinNo.{PinNo}
use Rattle.hold_graph.specs.declared.graph.Arc.{Arc}
use Rattle.hold_graph.specs.declared.graph.Parts.{Parts}
use Rattle.hold_graph.specs.Graph.{NamesItsPins}
use Rattle.hold_graph.specs.Cycles.{IsTopological}
use Rattle.hold_graph.specs.Path.{EachNext, last_pin, IsCheckedPath}
use Rattle.hold_graph.specs.SitePins.{IsSite, AreSites}
use Rattle.hold_graph.proofs.SiteLists.{rising-few, site-there}
use Rattle.hold_graph.proofs.Acyclic.{stands_before}
use Rattle.hold_proof.specs.inner.LeafTerms.{site_at}

pin-same : (a b : PinNo) → a.0 ≡ b.0 → a ≡ b
pin-same a b same = ap (λ (n : ℕ). record { 0 = n }) same

-- the place that passes first, and none where none passes
position-at : (p : PinNo → Bool) (xs : List PinNo) (place : ℕ) → place < length xs → position_or_len p xs ≡ place → position p xs ≡ Some place
position-at p xs place there is = let test : ltb place (length xs) ≡ true = grind (arith, nat_tests) in rw (is, test) refl

position-none : (p : PinNo → Bool) (xs : List PinNo) → position_or_len p xs ≡ length xs → position p xs ≡ None
position-none p xs is = let test : ltb (length xs) (length xs) ≡ false = grind (arith, nat_tests) in rw (is, test) refl

-- a pin that is a site stands at that place
pub site_at-Some : (parts : Parts) (sites : List PinNo) (pin : PinNo) (site : ℕ) → AreSites parts sites → slice_get sites site ≡ Some pin → site_at sites pin ≡ Some site
site_at-Some parts sites pin site are at =
    let there = slice_get_within sites site pin at in
    position-at (λ (s : PinNo). s.0 == pin.0) sites site there
    (position_or_len_is (λ (s : PinNo). s.0 == pin.0) sites site pin (omega (arith, there)) before (λ _. here))
  where
    here : ((get_or sites site pin).0 == pin.0) ≡ true
    here = let same = ap (λ (s : PinNo). s.0) (get_or_from_slice_get sites site pin pin at) in grind (arith, nat_tests)

    before : (k : ℕ) → k < site → ((get_or sites k pin).0 == pin.0) ≡ false
    before k below =
        let there = slice_get_within sites site pin at in
        let less = are.rising k site (get_or sites k pin) pin below (slice_get-get_or sites k pin (omega (arith, there))) at in
        grind (arith, nat_tests)

-- and one that is no site stands nowhere
pub site_at-None : (parts : Parts) (sites : List PinNo) (pin : PinNo) → AreSites parts sites → (IsSite parts pin → ⊥) → site_at sites pin ≡ None
site_at-None parts sites pin are no_site =
    position-none (λ (s : PinNo). s.0 == pin.0) sites (position_or_len_is (λ (s : PinNo). s.0 == pin.0) sites (length sites) pin (omega arith) apart (λ (h : length sites < length sites). absurd (omega arith)))
  where
    no_pin : (k : ℕ) → k < length sites → ((get_or sites k pin).0 == pin.0) ≡ true → ⊥
    no_pin k below test =
        let number : (get_or sites k pin).0 ≡ pin.0 = grind (arith, nat_tests) in
        no_site (subst (IsSite parts) (pin-same (get_or sites k pin) pin number) (are.sound k pin below))

    apart : (k : ℕ) → k < length sites → ((get_or sites k pin).0 == pin.0) ≡ false
    apart k below = false-never ((get_or sites k pin).0 == pin.0) ⊥ (no_pin k below) (λ never. never)

-- there are no more sites than pins
pub sites-few : (parts : Parts) (sites : List PinNo) → NamesItsPins parts → AreSites parts sites → length sites ≤ parts.pins
sites-few parts sites names are = rising-few parts.pins sites are.rising (λ k pin below. site-there parts (get_or sites k pin) names (are.sound k pin below))

-- a walk's first pin stands before its last by at least as many places as it has steps
record StandsBehind (order : List PinNo) (most steps : ℕ) (pin : PinNo) : Type 0 where
  place : ℕ
  is : slice_get order place ≡ Some pin
  room : place + steps ≤ most

stands_back : (pins : ℕ) (arcs : List Arc) (order : List PinNo) → IsTopological pins arcs order → (a : PinNo) (steps : List PinNo) (k : ℕ) → EachNext arcs a steps → slice_get order k ≡ Some (last_pin a steps) →
    StandsBehind order k (length steps) a
stands_back pins arcs order h a [] k next at = record { place = k; is = at; room = omega arith }
stands_back pins arcs order h a (b ∷ steps) k next at =
    let there = stands_back pins arcs order h b steps k next.1 at in
    let here = stands_before pins arcs order h a b there.place next.0 there.is in
    let room = there.room in
    let less = here.1 in
    record { place = here.0; is = here.2; room = omega (arith, room, less) }

stands-somewhere : (order : List PinNo) (pin : PinNo) → Contains order pin → (k : ℕ) × (k < length order) × (slice_get order k ≡ Some pin)
stands-somewhere order pin found =
    (found.0, found.1, slice_get-get_or order found.0 pin found.1 ∙ ap (λ p. Some p) (found.2))

-- so a checked path has no more pins than the graph
pub path-long : (parts : Parts) (order path : List PinNo) → NamesItsPins parts → IsTopological parts.pins parts.arcs order → IsCheckedPath parts path → length path ≤ parts.pins
path-long parts order [] names h checked = absurd checked
path-long parts order (a ∷ []) names h checked = absurd checked
path-long parts order (a ∷ b ∷ rest) names h checked =
    let last_below : (last_pin b rest).0 < parts.pins = All-contains (λ (pin : PinNo). pin.0 < parts.pins) parts.captures (last_pin b rest) names.captures (checked.1) in
    let at = stands-somewhere order (last_pin b rest) (h.each (last_pin b rest).0 last_below) in
    let back = stands_back parts.pins parts.arcs order h a (b ∷ rest) at.0 (checked.2) (at.2) in
    let room = back.room in
    let below = at.1 in
    let count = h.count in
    omega (arith, room, below, count)

-- the pins of a walk after its first are there
pub steps-below : (parts : Parts) (a : PinNo) (steps : List PinNo) → NamesItsPins parts → EachNext parts.arcs a steps → All (λ (pin : PinNo). pin.0 < parts.pins) steps
steps-below parts a [] names next = All-nil (λ (pin : PinNo). pin.0 < parts.pins)
steps-below parts a (b ∷ steps) names next =
    let arc = next.0 in
    let below : arc.arc.to.0 < parts.pins = All-contains (λ (r : Arc). r.to.0 < parts.pins) parts.arcs arc.arc names.to arc.listed in
    All-cons (λ (pin : PinNo). pin.0 < parts.pins) b steps (subst (λ (p : PinNo). p.0 < parts.pins) arc.to below) (steps-below parts b steps names next.1)

-- the variables of a site are there
pub site-room : (sites : List PinNo) (kinds site vars : ℕ) (pin : PinNo) → slice_get sites site ≡ Some pin → length sites * kinds ≤ vars → site * kinds + kinds ≤ vars
site-room sites kinds site vars pin at room =
    let there : suc site ≤ length sites = slice_get_within sites site pin at in
    let more = mul-le-mul_right kinds there in
    omega (arith, more, room)

-- the pins of a checked path after its first are there
pub rest-below : (parts : Parts) (path : List PinNo) → NamesItsPins parts → IsCheckedPath parts path → All (λ (pin : PinNo). pin.0 < parts.pins) (take (length path - 1) (drop 1 path))
rest-below parts [] names checked = absurd checked
rest-below parts (a ∷ []) names checked = absurd checked
rest-below parts (a ∷ b ∷ rest) names checked =
    let whole : take (length (a ∷ b ∷ rest) - 1) (b ∷ rest) ≡ b ∷ rest = take_all (length (a ∷ b ∷ rest) - 1) (b ∷ rest) (omega arith) in
    rw whole (steps-below parts a (b ∷ rest) names checked.2)
