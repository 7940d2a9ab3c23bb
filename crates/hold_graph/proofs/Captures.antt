-- From what is left at each capture, by the tables of one side, to the paths of that side.
use Rattle.std.proofs.Common.{◌≡◌, ℕ, List, map, refl, sym, ◌∙◌, subst}
use Rattle.std.specs.Prelude.{Option, Some, ℤ, pos, neg_ℤ, ◌<ℤ◌, Contains, All}
use Rattle.std.proofs.lemmas.List.Elements.{All-contains}
use Rattle.hold_base.specs.declared.number.PinNo.{PinNo}
use Rattle.hold_base.specs.declared.time.Side.{Side}
use Rattle.hold_graph.specs.declared.graph.Arc.{Arc}
use Rattle.hold_graph.specs.declared.graph.Parts.{Parts}
use Rattle.hold_graph.specs.declared.problem.Spans.{Spans}
use Rattle.hold_graph.specs.declared.problem.Problem.{Problem}
use Rattle.hold_graph.specs.Graph.{NamesItsPins}
use Rattle.hold_graph.specs.Problem.{IsValidCorner}
use Rattle.hold_graph.specs.inner.Arrival.{weight, coming, left_at, left_by, base_of, AreTables, IsEnough, IsMetAt, IsShort, IsSettled, IsFound}
use Rattle.hold_graph.proofs.Excess.{met_from, found_excess, IsExcess}

left_by-left_at : (side : Side) (parts : Parts) (spans : Spans) (period : ℤ) (into : List (Option ℕ)) (best ends checks : List (Option ℤ)) (capture : PinNo)
    (arcs : List Arc) (steps : List ℤ) (base : ℤ) → arcs ≡ parts.arcs → steps ≡ map (weight side) spans.arcs → base ≡ base_of side period →
    left_by arcs steps base into best ends checks capture ≡ left_at side parts spans period into best ends checks capture
left_by-left_at side parts spans period into best ends checks capture arcs steps base is_arcs is_steps is_base = rw (is_arcs, is_steps, is_base) refl

-- where enough is left at each capture, each path meets the side's check
pub met_by : (side : Side) (problem : Problem) (spans : Spans) (into : List (Option ℕ)) (starts best ends checks : List (Option ℤ)) →
    AreTables side problem.graph spans into starts best ends checks → IsValidCorner problem spans → NamesItsPins problem.graph →
    (arcs : List Arc) (steps : List ℤ) (base : ℤ) (captures : List PinNo) →
    arcs ≡ problem.graph.arcs → steps ≡ map (weight side) spans.arcs → base ≡ base_of side problem.period → captures ≡ problem.graph.captures →
    All (λ (capture : PinNo). IsEnough (left_by arcs steps base into best ends checks capture)) captures → IsMetAt side problem spans
met_by side problem spans into starts best ends checks tables valid numbers arcs steps base captures is_arcs is_steps is_base is_captures enough =
    met_from side problem spans into starts best ends checks tables valid numbers
    (λ c listed v is. All-contains (λ (capture : PinNo). IsEnough (left_by arcs steps base into best ends checks capture)) captures c enough
    (subst (λ (xs : List PinNo). Contains xs c) (sym is_captures) listed) v
    (left_by-left_at side problem.graph spans problem.period into best ends checks c arcs steps base is_arcs is_steps is_base ∙ is))

-- a path was found for any sum that comes to the capture
abbrev pub FoundFor : Side → Spans → List (Option ℤ) → List (Option ℕ) → List (Option ℤ) → List PinNo → PinNo → ℕ → List Arc → Type 0
FoundFor side spans starts into best path capture pins arcs =
    (sum : ℤ) → IsSettled side pins arcs spans starts into best → coming side arcs spans into best capture ≡ Some sum → IsFound side arcs spans starts path capture sum

-- where something is missing at a capture, the path found there falls short by it
pub short_by : (side : Side) (problem : Problem) (spans : Spans) (into : List (Option ℕ)) (starts best ends checks : List (Option ℤ)) →
    AreTables side problem.graph spans into starts best ends checks → IsValidCorner problem spans → NamesItsPins problem.graph →
    (pins : ℕ) (arcs : List Arc) (steps : List ℤ) (base : ℤ) (captures : List PinNo) → pins ≡ problem.graph.pins →
    arcs ≡ problem.graph.arcs → steps ≡ map (weight side) spans.arcs → base ≡ base_of side problem.period → captures ≡ problem.graph.captures →
    (path : List PinNo) (capture : PinNo) (short : ℤ) → Contains captures capture →
    left_by arcs steps base into best ends checks capture ≡ Some (neg_ℤ short) → pos 0 <ℤ short →
    FoundFor side spans starts into best path capture pins arcs → IsShort side problem spans path short
short_by side problem spans into starts best ends checks tables valid numbers pins arcs steps base captures is_pins is_arcs is_steps is_base is_captures path capture short listed missing above found =
    let there : FoundFor side spans starts into best path capture problem.graph.pins problem.graph.arcs =
    subst (λ (xs : List Arc). FoundFor side spans starts into best path capture problem.graph.pins xs) is_arcs
    (subst (λ (n : ℕ). FoundFor side spans starts into best path capture n arcs) is_pins found) in
    let e : IsExcess side problem spans path (neg_ℤ short) =
    found_excess side problem spans into starts best ends checks tables valid numbers path capture (neg_ℤ short)
    (subst (λ (xs : List PinNo). Contains xs capture) is_captures listed)
    (sym (left_by-left_at side problem.graph spans problem.period into best ends checks capture arcs steps base is_arcs is_steps is_base) ∙ missing)
    (λ sum is. there sum tables.settled is) in
    record { checked = e.checked; above = above; by = e.is }
