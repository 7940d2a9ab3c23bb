use Rattle.std.proofs.Common.{◌≡◌, ℕ, ◌<◌, ◌∙◌, length, ap, arith}
use Rattle.std.specs.Prelude.{List}
use Rattle.hold_graph.proofs.costs.cost.Goals as goal

pub prove-unreachable-requires : goal.prove-unreachable-requires
prove-unreachable-requires c =
    c.if-prove.true (ap (λ (xs : List ℕ). length xs) c.as_slice-counts.ensures.same ∙ c.variable_count-variables.ensures.counts c.args.counts.now c.requires.counts)

pub sum_of-requires-clause-kinds : goal.sum_of-requires-clause-kinds
sum_of-requires-clause-kinds c = λ some.
    let kinds : 0 < length c.args.problem.now.costs = c.variable_count-variables.ensures.kinds (let same = c.if-prove.false in omega arith) in
    let costs = ap (λ (xs : List ℕ). length xs) c.as_slice.ensures in
    omega (arith, kinds, costs)
