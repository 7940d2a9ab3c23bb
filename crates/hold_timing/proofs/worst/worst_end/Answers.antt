use Rattle.std.proofs.Common.{◌≡◌, ◌+◌, ◌∙◌, ◌⊎◌, ap, sym, subst, arith, length, get_or, w64}
use Rattle.std.specs.Prelude.{List, Option, Some, pos, slice_get, FitsSigned}
use Rattle.std.proofs.lemmas.Int.{ints, to_z-of_z}
use Rattle.std.proofs.lemmas.Option.{slice_get-get_or}
use Rattle.hold_base.specs.declared.number.PinNo.{PinNo}
use Rattle.hold_graph.specs.declared.graph.Parts.{Parts}
use Rattle.hold_graph.specs.Problem.{IsWithin}
use Rattle.hold_graph.specs.Sites.{buffers_of}
use Rattle.hold_timing.specs.declared.end.End.{End}
use Rattle.hold_timing.specs.Ends.{IsBefore}
use Rattle.hold_timing.specs.Worst.{required_at}
use Rattle.hold_timing.specs.inner.Pass.{required_limit}
use Rattle.hold_timing.proofs.Asked.{required_read, required_length}
use Rattle.hold_timing.proofs.WorstEnds.{among_none, among_more, among_all}
use Rattle.hold_timing.proofs.worst.worst_end.Goals as goal

pub slack_at-slack-requires-clause-required : goal.slack_at-slack-requires-clause-required
slack_at-slack-requires-clause-required c =
    let is = c.as_slice-captures.ensures ∙ ap (λ (parts : Parts). parts.captures) c.parts.ensures.same in
    let near : IsWithin required_limit (get_or c.args.required.now c.loop-place.place (pos 0)) = c.requires.near c.loop-place.place (pos 0)
    (required_length (required_at c.args.side c.args.problem.now c.args.spans.now) c.args.problem.now.graph.captures c.as_slice-captures.result.now c.args.required.now c.loop-place.place
    c.requires.asked is c.loop-place-test.true) in
    let in_range : FitsSigned w64 (get_or c.args.required.now c.loop-place.place (pos 0)) = omega (arith, ints) in
    to_z-of_z w64 (get_or c.args.required.now c.loop-place.place (pos 0)) in_range
    ∙ required_read (required_at c.args.side c.args.problem.now c.args.spans.now) c.args.problem.now.graph.captures c.as_slice-captures.result.now c.args.required.now c.loop-place.place _ (pos 0)
    c.requires.asked is c.loop-place-test.true

pub slack_at-slack-requires-clause-near : goal.slack_at-slack-requires-clause-near
slack_at-slack-requires-clause-near c =
    let is = c.as_slice-captures.ensures ∙ ap (λ (parts : Parts). parts.captures) c.parts.ensures.same in
    let near : IsWithin required_limit (get_or c.args.required.now c.loop-place.place (pos 0)) = c.requires.near c.loop-place.place (pos 0)
    (required_length (required_at c.args.side c.args.problem.now c.args.spans.now) c.args.problem.now.graph.captures c.as_slice-captures.result.now c.args.required.now c.loop-place.place
    c.requires.asked is c.loop-place-test.true) in
    let in_range : FitsSigned w64 (get_or c.args.required.now c.loop-place.place (pos 0)) = omega (arith, ints) in
    subst (IsWithin required_limit) (sym (to_z-of_z w64 (get_or c.args.required.now c.loop-place.place (pos 0)) in_range)) near

pub loop-place-preserved : goal.loop-place-preserved
loop-place-preserved c = λ sites are right.
    let is = c.as_slice-captures.ensures ∙ ap (λ (parts : Parts). parts.captures) c.parts.ensures.same in
    among_more c.args.side c.args.problem.now c.args.spans.now (buffers_of (length c.args.problem.now.costs) sites c.args.counts.now) c.loop-place.place
    (get_or c.as_slice-captures.result.now c.loop-place.place (record { 0 = 0 })) c.loop-place.worst c.worse_end-worst.result c.slack_at-slack.result
    (subst (λ (xs : List PinNo). slice_get xs c.loop-place.place ≡ Some (get_or c.as_slice-captures.result.now c.loop-place.place (record { 0 = 0 }))) is
    (slice_get-get_or c.as_slice-captures.result.now c.loop-place.place (record { 0 = 0 }) c.loop-place-test.true))
    (c.loop-place.invariant sites are right) (c.slack_at-slack.ensures sites are right)
    (subst (λ (o : Option End). (c.worse_end-worst.result ≡ c.loop-place.worst) ⊎ (c.worse_end-worst.result ≡ o)) c.end_at.ensures c.worse_end-worst.ensures.one)
    c.worse_end-worst.ensures.left
    (subst (λ (o : Option End). (end : End) → IsBefore o end → IsBefore c.worse_end-worst.result end) c.end_at.ensures c.worse_end-worst.ensures.right)

pub returns : goal.returns
returns c = λ sites are right.
    let is = c.as_slice-captures.ensures ∙ ap (λ (parts : Parts). parts.captures) c.parts.ensures.same in
    let len = ap (λ (xs : List PinNo). length xs) is in
    let all = c.loop-place-test.false in
    among_all c.args.side c.args.problem.now c.args.spans.now (buffers_of (length c.args.problem.now.costs) sites c.args.counts.now) c.loop-place.place c.loop-place.worst
    (omega (arith, len, all)) (c.loop-place.invariant sites are right)
