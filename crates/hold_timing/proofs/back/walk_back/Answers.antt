use Rattle.std.proofs.Common.{◌≡◌, ℕ, ◌+◌, ◌<◌, ◌∷◌, ◌++◌, [], ap, sym, ◌∙◌, get_or, length, subst, arith, rules, refl, false}
use Rattle.std.specs.Prelude.{List, Option, Some, None, ℤ, All, reverse, slice_get}
use Rattle.std.proofs.lemmas.List.{reverse-append, get_or_default}
use Rattle.std.proofs.lemmas.List.Elements.{All-contains}
use Rattle.std.proofs.lemmas.Option.{slice_get-get_or}
use Rattle.hold_base.specs.declared.number.PinNo.{PinNo}
use Rattle.hold_graph.specs.declared.graph.Arc.{Arc}
use Rattle.hold_graph.specs.declared.graph.Parts.{Parts}
use Rattle.hold_graph.specs.Sites.{buffers_of}
use Rattle.hold_timing.specs.inner.Pass.{sum_limit, step_limit}
use Rattle.hold_timing.proofs.Bounds.{within-weaker}
use Rattle.hold_timing.proofs.Turns.{arc_there, coming-worst}
use Rattle.hold_timing.proofs.WayBack.{rank-falls, IsBack, back_first, back_more, back_end, step_back, right_before}
use Rattle.hold_timing.proofs.back.walk_back.Goals as goal

pub loop-by-init : goal.loop-by-init
loop-by-init c = record {
  there = c.requires.capture;
  listed = c.came_by-by.ensures.listed;
  back = λ sites are right total comes.
      subst (λ (found : List PinNo). IsBack c.args.side c.args.problem.now.graph c.args.spans.now (buffers_of (length c.args.problem.now.costs) sites c.args.counts.now) c.args.arrivals.now
      c.args.capture total c.args.capture found c.came_by-by.result) (sym (ap (λ (xs : List PinNo). reverse xs) c.new-path.ensures.items))
      (back_first c.args.side c.args.problem.now.graph c.args.spans.now (buffers_of (length c.args.problem.now.costs) sites c.args.counts.now) c.args.arrivals.now c.args.capture total
      c.coming_to-coming.result c.came_by-by.result (c.coming_to-coming.ensures.value sites are) (c.coming_to-coming.ensures.value sites are ∙ comes) (c.came_by-by.ensures.by sites are));
}

pub bounds-arcs-place : goal.bounds-arcs-place
bounds-arcs-place c =
    (step_back c.args.problem.now.graph.arcs c.as_slice-arcs.result.now c.loop-by.pin c.in-Some.place (record { from = record { 0 = 0 }; to = record { 0 = 0 }; wire = false })
    (c.as_slice-arcs.ensures ∙ ap (λ (parts : Parts). parts.arcs) c.parts.ensures.same) (c.loop-by.invariant.listed c.in-Some.place c.in-Some.is)).0

pub loop-by-smaller : goal.loop-by-smaller
loop-by-smaller c =
    let step = step_back c.args.problem.now.graph.arcs c.as_slice-arcs.result.now c.loop-by.pin c.in-Some.place (record { from = record { 0 = 0 }; to = record { 0 = 0 }; wire = false })
    (c.as_slice-arcs.ensures ∙ ap (λ (parts : Parts). parts.arcs) c.parts.ensures.same) (c.loop-by.invariant.listed c.in-Some.place c.in-Some.is) in
    rank-falls c.args.problem.now.graph.pins c.args.problem.now.graph.arcs c.args.order.now c.requires.order _ c.loop-by.pin c.loop-by.invariant.there
    (arc_there c.args.problem.now.graph.arcs c.in-Some.place _ c.loop-by.pin step.1 step.2)

pub loop-by-preserved : goal.loop-by-preserved
loop-by-preserved c =
    let step = step_back c.args.problem.now.graph.arcs c.as_slice-arcs.result.now c.loop-by.pin c.in-Some.place (record { from = record { 0 = 0 }; to = record { 0 = 0 }; wire = false })
    (c.as_slice-arcs.ensures ∙ ap (λ (parts : Parts). parts.arcs) c.parts.ensures.same) (c.loop-by.invariant.listed c.in-Some.place c.in-Some.is) in
    let from = (right_before c.args.problem.now.graph c.parts.ensures.numbers _ c.loop-by.pin (arc_there c.args.problem.now.graph.arcs c.in-Some.place _ c.loop-by.pin step.1 step.2)) in
    let pushed = sym (ap (λ (xs : List PinNo). reverse xs) c.in_ok-push.ensures.items ∙ reverse-append c.loop-by.path.items (c.loop-by.pin ∷ [])) in
    record {
      there = from;
      listed = c.came_by-by-in-Some.ensures.listed;
      back = λ sites are right total comes.
          let Way : Option ℕ → Type 0 = λ by. IsBack c.args.side c.args.problem.now.graph c.args.spans.now (buffers_of (length c.args.problem.now.costs) sites c.args.counts.now) c.args.arrivals.now c.args.capture total
          c.loop-by.pin (reverse c.loop-by.path.items) by in
          let Onto : List PinNo → Type 0 = λ rest. IsBack c.args.side c.args.problem.now.graph c.args.spans.now (buffers_of (length c.args.problem.now.costs) sites c.args.counts.now) c.args.arrivals.now c.args.capture total
          (get_or c.as_slice-arcs.result.now c.in-Some.place (record { from = record { 0 = 0 }; to = record { 0 = 0 }; wire = false })).from rest c.came_by-by-in-Some.result in
          subst Onto pushed
          (back_more c.args.side c.args.problem.now.graph c.args.spans.now (buffers_of (length c.args.problem.now.costs) sites c.args.counts.now) c.args.arrivals.now c.args.capture total
          c.loop-by.pin (reverse c.loop-by.path.items) c.in-Some.place _ _ c.came_by-by-in-Some.result c.requires.corner.arcs_each
          (λ q p has. right q (right_before c.args.problem.now.graph c.parts.ensures.numbers q p has)) step.1 refl (c.came_by-by-in-Some.ensures.by sites are)
          (subst Way c.in-Some.is (c.loop-by.invariant.back sites are right total comes)));
    }

pub returns : goal.returns
returns c = λ sites are right.
    let none : c.loop-by.by ≡ None = search rules in
    back_end c.args.side c.args.problem.now.graph c.args.spans.now (buffers_of (length c.args.problem.now.costs) sites c.args.counts.now) c.args.arrivals.now c.args.capture c.loop-by.pin
    (reverse c.loop-by.path.items) c.reverse.new.self.items c.loop-by.by
    (coming-worst c.args.side c.args.problem.now.graph c.args.spans.now (buffers_of (length c.args.problem.now.costs) sites c.args.counts.now) c.args.capture c.args.arrivals.now c.requires.corner.arcs_each
    (λ q has. right q (right_before c.args.problem.now.graph c.parts.ensures.numbers q c.args.capture has)))
    (c.loop-by.invariant.back sites are right) none
    (c.reverse.ensures.items ∙ ap (λ (xs : List PinNo). reverse xs) c.in_ok-push-2.ensures.items ∙ reverse-append c.loop-by.path.items (c.loop-by.pin ∷ []))

pub came_by-by-requires-clause-time : goal.came_by-by-requires-clause-time
came_by-by-requires-clause-time c = λ t is. c.coming_to-coming.ensures.within sum_limit c.requires.within t is

pub came_by-by-requires-in-Some-clause-time : goal.came_by-by-requires-in-Some-clause-time
came_by-by-requires-in-Some-clause-time c = λ t is. within-weaker sum_limit (sum_limit + step_limit) t (omega arith) (c.requires.within _ t is)
