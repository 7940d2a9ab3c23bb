-- Pins worked off one after another (IsWorkedOff): at the start, after one more, and at the end, where either each pin stands in a
-- topological order or pins hold one another up.
use Rattle.std.proofs.Common.{◌≡◌, ℕ, ◌+◌, ◌<◌, ◌≤◌, ◌==◌, true, false, ◌&&◌, List, [], ◌∷◌, ◌++◌, length, take, get_or, refl, ap, sym, ◌∙◌, subst, arith, ◌⊎◌, inl, inr}
use Rattle.std.specs.Prelude.{Some, slice_get, All, Contains, count_by}
use Rattle.std.proofs.lemmas.Bool.{eq-eqb, cases_lt, cases_eq, false_from_ne_true}
use Rattle.std.proofs.lemmas.List.{take_all, take_more, take-append-le, length-append, length-take, get_or-take}
use Rattle.std.proofs.lemmas.List.Elements.{All-weaker}
use Rattle.std.proofs.lemmas.Option.{slice_get_within, slice_get-get_or, get_or_from_slice_get, same_Some}
use Rattle.hold_base.proofs.Lists.{slice_get-append}
use Rattle.hold_base.specs.declared.number.PinNo.{PinNo}
use Rattle.hold_graph.specs.declared.graph.Arc.{Arc}
use Rattle.hold_graph.specs.Cycles.{IsTopological}
use Rattle.hold_graph.specs.inner.Waiting.{lists, waiting, IsReady, GoesOn, IsWorkedOff}
use Rattle.hold_graph.specs.inner.Trail.{IsHeldUp}
use Rattle.hold_graph.proofs.Acyclic.{stands_in_front}
use Rattle.hold_graph.proofs.ListSums.{count_by-all}
use Rattle.hold_graph.proofs.Ready.{ready-zero}
use Rattle.hold_graph.proofs.Waiting.{waiting-push, waiting-zero, waiting-some, IsWaitedFor, lists-contains}

-- no pin is worked off yet
pub worked_off-none : (arcs : List Arc) (counts : List ℕ) (order : List PinNo) → All (λ arc. arc.to.0 < length counts) arcs →
    ((pin : ℕ) → pin < length counts → get_or counts pin 0 ≡ waiting arcs [] pin) → IsReady counts order → IsWorkedOff arcs 0 counts order
worked_off-none arcs counts order ends made ready = record {
  ready = ready;
  within = omega arith;
  waits = made;
  forward = λ k arc at has.
      let below : arc.to.0 < length counts = subst (λ (a : Arc). a.to.0 < length counts) has.2 (ends has.0 arc has.1) in
      let none : waiting arcs [] arc.to.0 ≡ 0 = sym (made arc.to.0 below) ∙ ready-zero counts order ready k arc.to at in
      let never = waiting-zero arcs [] arc.to.0 arc none has refl in
      absurd (let lt = never.1 in omega arith);
}

Contains-take_le : (xs : List PinNo) (j k : ℕ) (x : PinNo) → j ≤ k → Contains (take j xs) x → Contains (take k xs) x
Contains-take_le xs j k x le has =
    let at = stands_in_front xs j x has in
    let within : at.0 < length xs = slice_get_within xs at.0 x at.2 in
    let len = length-take k xs in
    let lt : at.0 < k = let l = at.1 in omega arith in
    (at.0, omega arith, get_or-take k xs at.0 x lt ∙ get_or_from_slice_get xs at.0 x x at.2)

-- a pin that is worked off next isn't yet
next-new : (arcs : List Arc) (done : ℕ) (counts : List ℕ) (order : List PinNo) (pin : PinNo) → IsWorkedOff arcs done counts order → slice_get order done ≡ Some pin →
    lists (take done order) pin ≡ false
next-new arcs done counts order pin was at = false_from_ne_true (lists (take done order) pin) (λ is.
    let before = stands_in_front order done pin (lists-contains (take done order) pin is) in
    let e = was.ready.different before.0 done pin before.2 at in
    let lt = before.1 in
    omega arith)

-- the pin that is worked off next is there
pub next-below : (arcs : List Arc) (done : ℕ) (counts : List ℕ) (order : List PinNo) (pin : PinNo) → IsWorkedOff arcs done counts order → slice_get order done ≡ Some pin → pin.0 < length counts
next-below arcs done counts order pin was at =
    subst (λ (p : PinNo). p.0 < length counts) (get_or_from_slice_get order done pin pin at) (was.ready.below done pin (slice_get_within order done pin at))

-- its arcs are counted
pub next-enough : (arcs : List Arc) (done : ℕ) (counts : List ℕ) (order : List PinNo) (pin : PinNo) (p : ℕ) → IsWorkedOff arcs done counts order → slice_get order done ≡ Some pin → p < length counts →
    count_by (λ (arc : Arc). (arc.to.0 == p) && (arc.from.0 == pin.0)) arcs ≤ get_or counts p 0
next-enough arcs done counts order pin p was at lt =
    let waits = was.waits p lt in
    let parts = waiting-push arcs (take done order) pin p (next-new arcs done counts order pin was at) in
    omega arith

-- one more pin is worked off: the counts fall by its arcs, and the order goes on with the pins whose count is then 0
pub worked_off-more : (arcs : List Arc) (done : ℕ) (counts less : List ℕ) (order longer : List PinNo) (pin : PinNo) → All (λ arc. arc.to.0 < length counts) arcs →
    IsWorkedOff arcs done counts order → slice_get order done ≡ Some pin → length less ≡ length counts →
    ((p : ℕ) → p < length counts → get_or less p 0 + count_by (λ (arc : Arc). (arc.to.0 == p) && (arc.from.0 == pin.0)) arcs ≡ get_or counts p 0) →
    IsReady less longer → GoesOn order longer → IsWorkedOff arcs (done + 1) less longer
worked_off-more arcs done counts less order longer pin ends was at same falls ready on = record {
  ready = ready;
  within = let l = longer_length in let lt = here in omega arith;
  waits = waits_less;
  forward = λ k arc is has. by_case k arc is has (cases_lt k (length order));
}
  where
    here : done < length order
    here = slice_get_within order done pin at

    longer_length : length longer ≡ length order + length on.more
    longer_length = ap length on.is ∙ length-append order on.more

    front : (k : ℕ) → k ≤ length order → take k longer ≡ take k order
    front k le = ap (take k) on.is ∙ take-append-le k order on.more le

    worked : take (done + 1) longer ≡ take done order ++ pin ∷ []
    worked = front (done + 1) (let lt = here in omega arith) ∙ take_more order done pin here ∙ ap (λ (p : PinNo). take done order ++ p ∷ []) (get_or_from_slice_get order done pin pin at)

    waits_less : (p : ℕ) → p < length less → get_or less p 0 ≡ waiting arcs (take (done + 1) longer) p
    waits_less p lt =
        let a = falls p (omega arith) in
        let b = was.waits p (omega arith) in
        let c = waiting-push arcs (take done order) pin p (next-new arcs done counts order pin was at) in
        let d : waiting arcs (take (done + 1) longer) p ≡ waiting arcs (take done order ++ pin ∷ []) p = ap (λ (pins : List PinNo). waiting arcs pins p) worked in
        omega arith

    by_case : (k : ℕ) (arc : Arc) → slice_get longer k ≡ Some arc.to → Contains arcs arc → ((k < length order) ⊎ (length order ≤ k)) → Contains (take k longer) arc.from
    by_case k arc is has (inl before) =
        let old : slice_get order k ≡ Some (get_or order k pin) = slice_get-get_or order k pin before in
        let new : slice_get longer k ≡ Some (get_or order k pin) = ap (λ (pins : List PinNo). slice_get pins k) on.is ∙ slice_get-append order on.more k (get_or order k pin) old in
        let to : get_or order k pin ≡ arc.to = same_Some _ _ (sym new ∙ is) in
        subst (λ (pins : List PinNo). Contains pins arc.from) (sym (front k (omega arith))) (was.forward k arc (old ∙ ap (λ (p : PinNo). Some p) to) has)
    by_case k arc is has (inr behind) =
        let below : arc.to.0 < length counts = subst (λ (a : Arc). a.to.0 < length counts) has.2 (ends has.0 arc has.1) in
        let none : waiting arcs (take (done + 1) longer) arc.to.0 ≡ 0 = sym (waits_less arc.to.0 (omega arith)) ∙ ready-zero less longer ready k arc.to is in
        Contains-take_le longer (done + 1) k arc.from (let lt = here in omega arith) (waiting-zero arcs (take (done + 1) longer) arc.to.0 arc none has refl)

-- where no count is left, the order is topological
pub worked_off-topological : (pins : ℕ) (arcs : List Arc) (done : ℕ) (counts : List ℕ) (order : List PinNo) → length counts ≡ pins → All (λ n. n ≡ 0) counts →
    IsWorkedOff arcs done counts order → IsTopological pins arcs order
worked_off-topological pins arcs done counts order len none was = record {
  count = was.ready.count ∙ count_by-all (λ (n : ℕ). n == 0) counts (All-weaker (λ (n : ℕ). n ≡ 0) (λ (n : ℕ). (n == 0) ≡ true) (λ n e. eq-eqb n 0 e) counts none) ∙ len;
  below = λ k d lt. let below = was.ready.below k d lt in omega arith;
  each = λ pin lt. was.ready.each pin (omega arith) (none pin 0 (omega arith));
  different = was.ready.different;
  forward = was.forward;
}

-- where all pins of the order are worked off, a pin whose count is left is held up by one whose count is left
pub worked_off-held_up : (arcs : List Arc) (done : ℕ) (counts : List ℕ) (order : List PinNo) (pin : ℕ) → All (λ arc. arc.from.0 < length counts) arcs → length order ≤ done →
    IsWorkedOff arcs done counts order → pin < length counts → 0 < get_or counts pin 0 → IsHeldUp arcs counts pin
worked_off-held_up arcs done counts order pin begins all was lt some =
    let e = was.waits pin lt in
    let found : IsWaitedFor arcs (take done order) pin = waiting-some arcs (take done order) pin (omega arith) in
    let below : found.arc.from.0 < length counts = subst (λ (a : Arc). a.from.0 < length counts) found.has.2 (begins found.has.0 found.arc found.has.1) in
    record {
      arc = found.arc;
      listed = found.has;
      to = found.to;
      below = below;
      waits = by_case found below (cases_eq (get_or counts found.arc.from.0 0) 0);
    }
  where
    by_case : (found : IsWaitedFor arcs (take done order) pin) → found.arc.from.0 < length counts → ((get_or counts found.arc.from.0 0 ≡ 0) ⊎ (get_or counts found.arc.from.0 0 ≡ 0 → ⊥)) →
        0 < get_or counts found.arc.from.0 0
    by_case found below (inl none) = absurd (found.new (subst (λ (pins : List PinNo). Contains pins found.arc.from) (sym (take_all done order all)) (was.ready.each found.arc.from.0 below none)))
    by_case found below (inr waits) = omega arith
