use Rattle.std.proofs.Common.{◌≡◌, List, map, ap, sym, ◌∙◌, arith, length, subst}
use Rattle.std.specs.Prelude.{ℤ, All, neg_ℤ}
use Rattle.hold_base.specs.declared.time.Interval.{Interval}
use Rattle.std.proofs.lemmas.List.{length-map}
use Rattle.hold_graph.specs.declared.graph.Arc.{Arc}
use Rattle.hold_graph.specs.declared.graph.Parts.{Parts}
use Rattle.hold_graph.specs.Problem.{IsWithin}
use Rattle.hold_base.specs.Limits.{launch_limit, time_limit}
use Rattle.hold_graph.specs.inner.Arrival.{AreWithin, weight, checks_of}
use Rattle.hold_graph.proofs.Bounds.{weights-within, negated-within, table-within, checks-within}
use Rattle.hold_graph.proofs.tables.tables_of.Goals as goal

pub arrivals-requires-clause-steps : goal.arrivals-requires-clause-steps
arrivals-requires-clause-steps c =
    subst (All (IsWithin launch_limit)) (sym (c.as_slice-5.ensures.value ∙ c.in_ok-steps.ensures ∙ ap (λ (spans : List Interval). map (weight c.args.side) spans) c.as_slice.ensures))
    (weights-within c.args.side time_limit launch_limit c.args.spans.now.arcs (omega arith) c.requires.corner.arcs)

pub arrivals-requires-clause-starts : goal.arrivals-requires-clause-starts
arrivals-requires-clause-starts c =
    subst (AreWithin launch_limit) (sym c.as_slice-6.ensures.value)
    (table-within launch_limit c.parts-parts.result.now.pins _ _ c.in_ok-starts.starts.items c.in_ok-starts.ensures.len c.in_ok-starts.ensures.least
    (subst (All (IsWithin launch_limit)) (sym (c.as_slice-4.ensures.value ∙ c.in_ok-launch.ensures ∙ ap (λ (spans : List Interval). map (weight c.args.side) spans) c.as_slice-2.ensures))
    (weights-within c.args.side launch_limit launch_limit c.args.spans.now.launch (omega arith) c.requires.corner.launch)))

pub returns-clause-sized : goal.returns-clause-sized
returns-clause-sized c =
    let pins : c.parts-parts.result.now.pins ≡ c.args.line.now.pins = ap (λ (parts : Parts). parts.pins) c.parts-parts.ensures.same ∙ sym c.requires.line.pins in
    let arcs : length c.args.line.now.arcs.now ≡ length c.args.problem.now.graph.arcs = ap (λ (xs : List Arc). length xs) c.requires.line.arcs in
    let steps : c.in_ok-steps.steps.items ≡ map (weight c.args.side) c.args.spans.now.arcs = c.in_ok-steps.ensures ∙ ap (λ (spans : List Interval). map (weight c.args.side) spans) c.as_slice.ensures in
    let count : length c.in_ok-steps.steps.items ≡ length c.args.spans.now.arcs = ap (λ (xs : List ℤ). length xs) steps ∙ length-map c.args.spans.now.arcs (weight c.args.side) in
    let each : length c.args.spans.now.arcs ≡ length c.args.problem.now.graph.arcs = c.requires.corner.arcs_each in
    record {
      steps_each = count ∙ each ∙ sym arcs;
      starts_each = c.in_ok-starts.ensures.len ∙ pins;
      best_each = c.in_ok-best.ensures.len;
      ends_each = c.in_ok-ends.ensures.len ∙ pins;
      checks_each = c.in_ok-checks.ensures.len ∙ pins;
      steps = subst (All (IsWithin launch_limit)) (sym steps) (weights-within c.args.side time_limit launch_limit c.args.spans.now.arcs (omega arith) c.requires.corner.arcs);
      best = c.in_ok-best.ensures.within;
      ends = table-within launch_limit c.parts-parts.result.now.pins _ _ c.in_ok-ends.ends.items c.in_ok-ends.ensures.len c.in_ok-ends.ensures.least
          (subst (All (IsWithin launch_limit)) (sym (c.as_slice-9.ensures.value ∙ c.in_ok-capture.ensures ∙ ap (λ (spans : List Interval). map (weight c.opposite.result) spans) c.as_slice-7.ensures))
          (weights-within c.opposite.result time_limit launch_limit c.args.spans.now.capture (omega arith) c.requires.corner.capture));
      checks = table-within launch_limit c.parts-parts.result.now.pins _ _ c.in_ok-checks.checks.items c.in_ok-checks.ensures.len c.in_ok-checks.ensures.least
          (subst (All (IsWithin launch_limit)) (sym (c.as_slice-12.ensures.value ∙ c.in_ok-check.ensures ∙ ap (λ (times : List ℤ). map neg_ℤ times) (c.as_slice-10.ensures ∙ c.checks.ensures)))
          (negated-within time_limit launch_limit (checks_of c.args.side c.args.spans.now) (omega arith) (checks-within c.args.side c.args.problem.now c.args.spans.now c.requires.corner)));
    }
