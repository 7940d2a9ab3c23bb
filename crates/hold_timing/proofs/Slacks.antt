-- From the worst time that comes to a capture to the least excess of the checked paths that end there.
use Rattle.std.proofs.Common.{◌≡◌, ◌+◌, ◌<◌, length, get_or, List, [], ◌∷◌, ap, sym, subst, ◌∙◌, arith, refl, w64}
use Rattle.std.specs.Prelude.{Option, Some, None, ℤ, Contains, FitsSigned}
use Rattle.std.proofs.lemmas.Int.{ints}
use Rattle.std.proofs.lemmas.List.Elements.{All-contains}
use Rattle.std.proofs.lemmas.Option.{same_Some, none-some}
use Rattle.hold_base.specs.declared.number.PinNo.{PinNo}
use Rattle.hold_base.specs.declared.time.Side.{Side}
use Rattle.hold_base.specs.declared.time.Side.TheVariants.{Early, Late}
use Rattle.hold_graph.specs.declared.graph.Arc.{Arc}
use Rattle.hold_graph.specs.declared.graph.Parts.{Parts}
use Rattle.hold_graph.specs.declared.problem.Spans.{Spans}
use Rattle.hold_graph.specs.declared.problem.Problem.{Problem}
use Rattle.hold_graph.specs.Graph.{NamesItsPins}
use Rattle.hold_graph.specs.Path.{IsCheckedPath, end_pin}
use Rattle.hold_graph.specs.Problem.{IsWithin}
use Rattle.hold_graph.specs.Sums.{Buffers, path_sum}
use Rattle.hold_graph.specs.Met.{excess}
use Rattle.hold_timing.specs.Worst.{IsAsBad, IsPathTo, IsWorstOf, IsArrival, IsSlackAt, required_at}
use Rattle.hold_timing.specs.inner.Pass.{coming, required_limit, slack_of, slack_from, step_limit, sum_limit}
use Rattle.hold_timing.proofs.Turns.{coming-worst}

-- the excess of a path is what is left between its sum and what the check asks for
pub excess-slack : (side : Side) (problem : Problem) (spans : Spans) (buffers : Buffers) (pin : PinNo) (path : List PinNo) → IsPathTo problem.graph pin path →
    excess side problem spans buffers path ≡ slack_of side (path_sum side problem.graph spans buffers path) (required_at side problem spans pin)
excess-slack side problem spans buffers pin [] h = absurd h.0
excess-slack Early problem spans buffers pin (a ∷ rest) h =
    subst (λ (q : PinNo). excess Early problem spans buffers (a ∷ rest) ≡ slack_of Early (path_sum Early problem.graph spans buffers (a ∷ rest)) (required_at Early problem spans q))
    h.0.2 (omega (arith, ints))
excess-slack Late problem spans buffers pin (a ∷ rest) h =
    subst (λ (q : PinNo). excess Late problem spans buffers (a ∷ rest) ≡ slack_of Late (path_sum Late problem.graph spans buffers (a ∷ rest)) (required_at Late problem spans q))
    h.0.2 (omega (arith, ints))

slack_from-bound : (side : Side) (comes : Option ℤ) (x required : ℤ) → IsAsBad side comes x → IsAsBad Early (slack_from side comes required) (slack_of side x required)
slack_from-bound side None x required h = h
slack_from-bound Early (Some time) x required h = omega (arith, ints)
slack_from-bound Late (Some time) x required h = omega (arith, ints)

slack_from-some : (side : Side) (comes : Option ℤ) (required least : ℤ) → slack_from side comes required ≡ Some least →
    (time : ℤ) × (comes ≡ Some time) × (slack_of side time required ≡ least)
slack_from-some side None required least e = absurd (none-some least e)
slack_from-some side (Some time) required least e = (time, refl, same_Some _ _ e)

-- of the worst time the slack is the least excess
pub slack-least : (side : Side) (problem : Problem) (spans : Spans) (buffers : Buffers) (pin : PinNo) (comes : Option ℤ) →
    IsWorstOf side (IsPathTo problem.graph pin) (path_sum side problem.graph spans buffers) comes →
    IsSlackAt side problem spans buffers pin (slack_from side comes (required_at side problem spans pin))
slack-least side problem spans buffers pin comes worst = record {
  attained = λ least is.
      let some = slack_from-some side comes (required_at side problem spans pin) least is in
      let one = worst.attained some.0 some.1 in (
        one.0,
        one.1,
        excess-slack side problem spans buffers pin one.0 one.1 ∙ ap (λ (x : ℤ). slack_of side x (required_at side problem spans pin)) one.2 ∙ some.2,
      );
  bound = λ path to.
      subst (IsAsBad Early (slack_from side comes (required_at side problem spans pin))) (sym (excess-slack side problem spans buffers pin path to))
      (slack_from-bound side comes (path_sum side problem.graph spans buffers path) (required_at side problem spans pin) (worst.bound path to));
}

pub slack-fits : (side : Side) (time required : ℤ) → IsWithin (sum_limit + step_limit) time → IsWithin required_limit required → FitsSigned w64 (slack_of side time required)
slack-fits Early time required near asked = omega (arith, ints)
slack-fits Late time required near asked = omega (arith, ints)

-- where the arrivals are right, so is the slack of what comes by them
pub slack_right : (side : Side) (problem : Problem) (spans : Spans) (buffers : Buffers) (pin : PinNo) (arrivals : List (Option ℤ)) (comes answer : Option ℤ) (required : ℤ) →
    length spans.arcs ≡ length problem.graph.arcs → NamesItsPins problem.graph →
    ((q : PinNo) → q.0 < problem.graph.pins → IsArrival side problem spans buffers q (get_or arrivals q.0 None)) →
    comes ≡ coming side problem.graph spans buffers arrivals pin → required ≡ required_at side problem spans pin → answer ≡ slack_from side comes required →
    IsSlackAt side problem spans buffers pin answer
slack_right side problem spans buffers pin arrivals comes answer required each numbers right is asked left =
    let worst = coming-worst side problem.graph spans buffers pin arrivals each
    (λ q has. right q
    (let below : has.arc.from.0 < problem.graph.pins = All-contains (λ (arc : Arc). arc.from.0 < problem.graph.pins) problem.graph.arcs has.arc numbers.from has.listed in
    let e = ap (λ (p : PinNo). p.0) has.from in omega arith)) in
    subst (IsSlackAt side problem spans buffers pin)
    (sym (left ∙ ap (λ (c : Option ℤ). slack_from side c required) is
    ∙ ap (slack_from side (coming side problem.graph spans buffers arrivals pin)) asked))
    (slack-least side problem spans buffers pin (coming side problem.graph spans buffers arrivals pin) worst)

-- a checked path ends at a capture
pub checked_to : (parts : Parts) (path : List PinNo) → IsCheckedPath parts path → Contains parts.captures (end_pin path) × IsPathTo parts (end_pin path) path
checked_to parts [] h = absurd h
checked_to parts (a ∷ []) h = absurd h
checked_to parts (a ∷ b ∷ rest) h = (h.1, ((h.0, h.2, refl), omega arith))

-- and a path to a capture is checked
pub to_checked : (parts : Parts) (pin : PinNo) (path : List PinNo) → Contains parts.captures pin → IsPathTo parts pin path → IsCheckedPath parts path
to_checked parts pin [] has h = absurd h.0
to_checked parts pin (a ∷ []) has h = let two = h.1 in absurd (omega arith)
to_checked parts pin (a ∷ b ∷ rest) has h = (h.0.0, subst (Contains parts.captures) (sym h.0.2) has, h.0.1)
