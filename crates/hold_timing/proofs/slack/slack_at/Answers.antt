use Rattle.std.proofs.Common.{◌≡◌, ◌+◌, ◌∙◌, ap, sym, subst, length, arith, w64, to_z, of_z}
use Rattle.std.specs.Prelude.{Option, Some, ℤ, FitsSigned}
use Rattle.std.proofs.lemmas.Int.{ints, to_z-of_z}
use Rattle.hold_graph.specs.Problem.{IsWithin}
use Rattle.hold_graph.specs.Sites.{buffers_of}
use Rattle.hold_timing.specs.inner.Pass.{required_limit, slack_of, slack_from, step_limit, sum_limit}
use Rattle.hold_timing.proofs.Slacks.{slack-fits, slack_right}
use Rattle.hold_timing.proofs.slack.slack_at.Goals as goal

pub slack-requires-clause-coming : goal.slack-requires-clause-coming
slack-requires-clause-coming c =
    let near : IsWithin (sum_limit + step_limit) c.in-Some.coming = c.coming_to.ensures.within sum_limit c.requires.within c.in-Some.coming c.in-Some.is in
    let in_range : FitsSigned w64 c.in-Some.coming = omega (arith, ints) in
    subst (IsWithin (sum_limit + step_limit)) (sym (to_z-of_z w64 c.in-Some.coming in_range)) near

pub returns-in-Some : goal.returns-in-Some
returns-in-Some c = λ sites are right.
    let near : IsWithin (sum_limit + step_limit) c.in-Some.coming = c.coming_to.ensures.within sum_limit c.requires.within c.in-Some.coming c.in-Some.is in
    let in_range : FitsSigned w64 c.in-Some.coming = omega (arith, ints) in
    let asked : IsWithin required_limit c.args.required = c.requires.near in
    let asked_in : FitsSigned w64 c.args.required = omega (arith, ints) in
    let left : c.slack.result ≡ slack_of c.args.side c.in-Some.coming c.args.required = rw (to_z-of_z w64 c.in-Some.coming in_range, to_z-of_z w64 c.args.required asked_in) at c.slack.ensures in
    let fits : FitsSigned w64 c.slack.result = subst (FitsSigned w64) (sym left) (slack-fits c.args.side c.in-Some.coming c.args.required near c.requires.near) in
    slack_right c.args.side c.args.problem.now c.args.spans.now (buffers_of (length c.args.problem.now.costs) sites c.args.counts.now) c.args.capture c.args.arrivals.now
    c.coming_to.result (Some (to_z w64 (of_z w64 c.slack.result))) c.args.required c.requires.corner.arcs_each c.parts-parts.ensures.numbers right (c.coming_to.ensures.value sites are) c.requires.required
    (ap (λ (z : ℤ). Some z) (to_z-of_z w64 c.slack.result fits ∙ left) ∙ ap (λ (o : Option ℤ). slack_from c.args.side o c.args.required) (sym c.in-Some.is))

pub returns-in-None : goal.returns-in-None
returns-in-None c = λ sites are right.
    slack_right c.args.side c.args.problem.now c.args.spans.now (buffers_of (length c.args.problem.now.costs) sites c.args.counts.now) c.args.capture c.args.arrivals.now
    c.coming_to.result _ c.args.required c.requires.corner.arcs_each c.parts-parts.ensures.numbers right (c.coming_to.ensures.value sites are) c.requires.required
    (ap (λ (o : Option ℤ). slack_from c.args.side o c.args.required) (sym c.in-None.is))
