use Rattle.std.proofs.Common.{rules, ◌∙◌, FitsSigned}
use Rattle.std.proofs.lemmas.Int.{to_z-of_z}
use mir.Syntax.{w64}
use Rattle.hold_proof.proofs.SiteLemmas.{rest-below}
use Rattle.hold_proof.proofs.ExcessLemmas.{excess-late}
use Rattle.hold_proof.proofs.excess.free_excess.Goals as goal

pub free_sum-sum-requires-clause-there : goal.free_sum-sum-requires-clause-there
free_sum-sum-requires-clause-there c = rest-below c.args.problem.now.graph c.args.pins.now c.requires.names c.requires.checked

pub returns-in-Late-clause-excess : goal.returns-in-Late-clause-excess
returns-in-Late-clause-excess c =
    let fits : FitsSigned w64 c.late_left.result = search rules in
    let sum_fits : FitsSigned w64 c.free_sum-sum.result.0 = search rules in
    let period_fits : FitsSigned w64 c.args.problem.now.period = search rules in
    to_z-of_z w64 c.late_left.result fits
    ∙ excess-late c.args.problem.now c.args.spans.now c.args.side c.args.pins.now c.args.launches.now.listed.items c.args.captures.now.listed.items (record { 0 = 0 }) c.free_sum-sum.result.1 c.free_sum-sum.result.0 _ _
    c.late_left.result c.in-Late.is c.in-len1-up.len_at_least c.requires.launches.listed_are c.requires.captures.listed_are c.free_sum-sum.ensures.sum c.free_sum-sum.ensures.end c.late_left.ensures.value
    (to_z-of_z w64 c.args.problem.now.period period_fits) (to_z-of_z w64 c.free_sum-sum.result.0 sum_fits)
