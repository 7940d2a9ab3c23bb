use Rattle.std.proofs.Common.{◌<◌, set, ap, ◌∙◌, arith}
use Rattle.std.specs.Prelude.{All}
use Rattle.std.proofs.lemmas.List.{get_or_default}
use Rattle.hold_graph.specs.Sites.{cost_of}
use Rattle.hold_proof.proofs.CostLemmas.{changed-takes, changed-is, changed-room}
use Rattle.hold_proof.proofs.cost.changed_cost.Goals as goal

pub overflow_sub-result : goal.overflow_sub-result
overflow_sub-result c =
    changed-takes c.args.costs.now c.args.counts.now c.args.var c.args.cost c.from.result c.cost_of_var-each.result c.requires.cost c.cost_of_var-each.ensures c.from.ensures

pub overflow_add-result : goal.overflow_add-result
overflow_add-result c =
    let bytes : All (λ n. n < 256) c.args.counts.now = λ k d below. rw (get_or_default c.args.counts.now k d 0 below) (let byte = c.type_inv.counts k in omega (arith, byte)) in
    let byte = c.ranges.count in
    let room = changed-room c.args.costs.now c.args.counts.now c.args.var c.from-2.result c.args.cost c.cost_of_var-each.result c.requires.cost c.cost_of_var-each.ensures c.requires.costs bytes c.requires.few
    (omega (arith, c.from-2.ensures, byte)) in
    omega (arith, room)

pub returns : goal.returns
returns c =
    changed-is c.args.costs.now c.args.counts.now c.args.var c.from-2.result c.args.cost c.from.result c.cost_of_var-each.result c.requires.cost c.cost_of_var-each.ensures c.from.ensures c.requires.there
    ∙ ap (λ n. cost_of c.args.costs.now (set c.args.counts.now c.args.var n)) c.from-2.ensures
