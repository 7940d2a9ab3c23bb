-- The walk against the arcs (IsTrail): after one more step, and where it comes to a pin again; and a list that goes round,
-- turned so that its least pin comes first.
use Rattle.std.proofs.Common.{◌≡◌, ℕ, ◌+◌, ◌<◌, ◌≤◌, List, [], ◌∷◌, ◌++◌, length, take, drop, get_or, set, ap, sym, ◌∙◌, subst, arith, ◌⊎◌, inl, inr}
use Rattle.std.specs.Prelude.{Option, Some, None, slice_get, reverse, All}
use Rattle.std.proofs.lemmas.Bool.{cases_eq}
use Rattle.std.proofs.lemmas.List.{reverse-append, take-append-drop, drop_more, length-set, get_or-set_same, get_or-set_other, get_or_default}
use Rattle.std.proofs.lemmas.List.Elements.{All-append, All-drop, All-take, All-contains}
use Rattle.std.proofs.lemmas.Option.{slice_get_within, get_or_from_slice_get, same_Some, none-some}
use Rattle.hold_base.proofs.Lists.{slice_get-append, slice_get-push, slice_get-seam}
use Rattle.hold_base.specs.declared.number.PinNo.{PinNo}
use Rattle.hold_graph.specs.declared.graph.Arc.{Arc}
use Rattle.hold_graph.specs.Path.{HasArc, EachNext}
use Rattle.hold_graph.specs.Cycles.{AreDifferent, GoesRound, BeginsWithLeast, IsCycle}
use Rattle.hold_graph.specs.inner.Trail.{number_at, IsTrail}
use Rattle.hold_graph.proofs.Places.{same_pin}
use Rattle.hold_graph.proofs.Rounds.{GoesRound-trail, GoesRound-turned, AreDifferent-turned, AreDifferent-append_right, AreDifferent-reverse}

-- one more step, to a pin from which an arc leads to the one before
pub trail-more : (arcs : List Arc) (counts : List ℕ) (places : List (Option ℕ)) (trail : List PinNo) (pin before : PinNo) → All (λ arc. arc.from.0 < length counts) arcs → IsTrail arcs counts places trail pin →
    get_or places pin.0 None ≡ None → HasArc arcs before pin → 0 < get_or counts before.0 0 →
    IsTrail arcs counts (set places pin.0 (Some (length trail))) (trail ++ pin ∷ []) before
trail-more arcs counts places trail pin before begins was new has left = record {
  each = length-set places pin.0 (Some (length trail)) ∙ was.each;
  there = subst (λ (p : PinNo). p.0 < length counts) has.from (All-contains (λ (arc : Arc). arc.from.0 < length counts) arcs has.arc begins has.listed);
  left = left;
  next = subst (EachNext arcs before) (sym (reverse-append trail (pin ∷ []))) (has, was.next);
  own = λ place p at. own_case place p (slice_get-push trail pin place p at);
  real = λ p place at. real_case p place at (cases_eq p pin.0);
}
  where
    own_case : (place : ℕ) (p : PinNo) → ((slice_get trail place ≡ Some p) ⊎ ((place ≡ length trail) × (pin ≡ p))) → get_or (set places pin.0 (Some (length trail))) p.0 None ≡ Some place
    own_case place p (inl at) =
        let old = was.own place p at in
        get_or-set_other places pin.0 p.0 (Some (length trail)) None (λ e. none-some place (sym new ∙ ap (λ (k : ℕ). get_or places k None) (sym e) ∙ old)) ∙ old
    own_case place p (inr here) =
        ap (λ (q : PinNo). get_or (set places pin.0 (Some (length trail))) q.0 None) (sym here.1)
        ∙ get_or-set_same places pin.0 (Some (length trail)) None (let e = was.each in let t = was.there in omega arith) ∙ ap (λ (k : ℕ). Some k) (sym here.0)

    real_case : (p place : ℕ) → get_or (set places pin.0 (Some (length trail))) p None ≡ Some place → ((p ≡ pin.0) ⊎ (p ≡ pin.0 → ⊥)) → slice_get (trail ++ pin ∷ []) place ≡ Some (record { 0 = p })
    real_case p place at (inl same) =
        let q : PinNo = record { 0 = p } in
        let is : length trail ≡ place = same_Some (length trail) place
        (sym (get_or-set_same places pin.0 (Some (length trail)) None (let e = was.each in let t = was.there in omega arith)) ∙ ap (λ (k : ℕ). get_or (set places pin.0 (Some (length trail))) k None) (sym same) ∙ at) in
        ap (slice_get (trail ++ pin ∷ [])) (sym is) ∙ slice_get-seam trail [] pin ∙ ap (λ (x : PinNo). Some x) (same_pin pin q (sym same))
    real_case p place at (inr differs) =
        slice_get-append trail (pin ∷ []) place (record { 0 = p }) (was.real p place (sym (get_or-set_other places pin.0 p (Some (length trail)) None differs) ∙ at))

-- where the walk stands at a pin of the trail again, the trail is its front, the pin and the rest
pub record IsCut (trail : List PinNo) (place : ℕ) (pin : PinNo) : Type 0 where
  pub rest : drop place trail ≡ pin ∷ drop (place + 1) trail
  pub whole : take place trail ++ pin ∷ drop (place + 1) trail ≡ trail

cut_at : (trail : List PinNo) (place : ℕ) (pin : PinNo) → slice_get trail place ≡ Some pin → IsCut trail place pin
cut_at trail place pin at =
    let rest : drop place trail ≡ pin ∷ drop (place + 1) trail =
    drop_more trail place pin (slice_get_within trail place pin at) ∙ ap (λ (p : PinNo). p ∷ drop (place + 1) trail) (get_or_from_slice_get trail place pin pin at) in
    record { rest = rest; whole = ap (λ (pins : List PinNo). take place trail ++ pins) (sym rest) ∙ take-append-drop place trail }

pub trail-round : (arcs : List Arc) (counts : List ℕ) (places : List (Option ℕ)) (trail : List PinNo) (pin : PinNo) (place : ℕ) → IsTrail arcs counts places trail pin →
    get_or places pin.0 None ≡ Some place → GoesRound arcs (reverse (drop place trail))
trail-round arcs counts places trail pin place was at =
    let cut : IsCut trail place pin = cut_at trail place pin (was.real pin.0 place at) in
    subst (λ (pins : List PinNo). GoesRound arcs (reverse pins)) (sym cut.rest)
    (GoesRound-trail arcs pin (take place trail) (drop (place + 1) trail) (subst (λ (pins : List PinNo). EachNext arcs pin (reverse pins)) (sym cut.whole) was.next))

pub trail-different : (arcs : List Arc) (counts : List ℕ) (places : List (Option ℕ)) (trail : List PinNo) (pin : PinNo) (place : ℕ) → IsTrail arcs counts places trail pin → AreDifferent (reverse (drop place trail))
trail-different arcs counts places trail pin place was =
    let all : AreDifferent trail = λ j k p at_j at_k. same_Some j k (sym (was.own j p at_j) ∙ was.own k p at_k) in
    AreDifferent-reverse (drop place trail) (AreDifferent-append_right (take place trail) (drop place trail) (subst AreDifferent (sym (take-append-drop place trail)) all))

pub trail-within : (arcs : List Arc) (counts : List ℕ) (places : List (Option ℕ)) (trail : List PinNo) (pin : PinNo) (place : ℕ) → IsTrail arcs counts places trail pin →
    get_or places pin.0 None ≡ Some place → place < length trail
trail-within arcs counts places trail pin place was at = slice_get_within trail place _ (was.real pin.0 place at)

-- pins that go round, turned so that the least comes first, are a cycle
pub cycle-from_least : (arcs : List Arc) (pins : List PinNo) (least : ℕ) → GoesRound arcs pins → AreDifferent pins → least < length pins →
    ((k : ℕ) → k < length pins → number_at pins least ≤ number_at pins k) → IsCycle arcs (drop least pins ++ take least pins)
cycle-from_least arcs pins least round different lt lowest = record {
  different = AreDifferent-turned (take least pins) (drop least pins) (subst AreDifferent (sym (take-append-drop least pins)) different);
  round = GoesRound-turned arcs (take least pins) (drop least pins) (subst (GoesRound arcs) (sym (take-append-drop least pins)) round);
  least = subst (λ (xs : List PinNo). BeginsWithLeast (xs ++ take least pins)) (sym (drop_more pins least (record { 0 = 0 }) lt))
      (All-append (λ (pin : PinNo). number_at pins least ≤ pin.0) (drop (least + 1) pins) (take least pins)
      (All-drop (λ (pin : PinNo). number_at pins least ≤ pin.0) (least + 1) pins all) (All-take (λ (pin : PinNo). number_at pins least ≤ pin.0) least pins all));
}
  where
    all : All (λ pin. number_at pins least ≤ pin.0) pins
    all = λ k d lt. subst (λ (pin : PinNo). number_at pins least ≤ pin.0) (get_or_default pins k (record { 0 = 0 }) d lt) (lowest k lt)
