use Rattle.std.proofs.Common.{◌≡◌, ◌*◌, length, rules, ap, ◌∙◌, arith, FitsSigned, to_z, of_z}
use Rattle.std.specs.Prelude.{List, ℤ, pos, ◌*ℤ◌}
use Rattle.std.proofs.lemmas.Int.{ints, to_z-of_z}
use Rattle.std.proofs.lemmas.List.{length-replicate}
use Rattle.std.proofs.Math.Nat.{mul-le-mul_left}
use mir.Syntax.{w128}
use Rattle.hold_proof.specs.inner.Forms.{norm}
use Rattle.hold_proof.proofs.ChangeLemmas.{length-raised, settled-sum_size}
use Rattle.hold_proof.proofs.FormLemmas.{norm-replicate}
use Rattle.hold_proof.proofs.WorkLemmas.{leaf-beta, leaf-clear}
use Rattle.hold_proof.proofs.closing.beta.Goals as goal

pub settle_leaf-gaps-requires-clause-each : goal.settle_leaf-gaps-requires-clause-each
settle_leaf-gaps-requires-clause-each c =
    let long = length-raised _ _ _ _ c.add_leaf-free.ensures.raised in
    let start = ap (λ (l : List ℤ). length l) c.requires.clear ∙ length-replicate (length c.args.basis.now.sites.now * length c.args.basis.now.problem.now.costs) (pos 0) in
    let costs = ap (λ l. length c.args.basis.now.sites.now * length l) c.requires.costs in
    omega (arith, long, start, costs)

pub settle_leaf-gaps-requires-clause-over : goal.settle_leaf-gaps-requires-clause-over
settle_leaf-gaps-requires-clause-over c =
    let long = length-raised _ _ _ _ c.add_leaf-free.ensures.raised in
    rw long c.requires.over

pub settle_leaf-gaps-requires-clause-norm : goal.settle_leaf-gaps-requires-clause-norm
settle_leaf-gaps-requires-clause-norm c =
    let start = ap norm c.requires.clear ∙ norm-replicate (length c.args.basis.now.sites.now * length c.args.basis.now.problem.now.costs) in
    let grown = c.add_leaf-free.ensures.raised.norm in
    omega (arith, start, grown)

pub overflow_add-result : goal.overflow_add-result
overflow_add-result c =
    let free_fits : FitsSigned w128 c.add_leaf-free.result = search rules in
    let gaps_fits : FitsSigned w128 c.settle_leaf-gaps.result = search rules in
    let times_fits : FitsSigned w128 c.times.result = search rules in
    let from_fits : FitsSigned w128 c.from.result = search rules in
    let free = to_z-of_z w128 c.add_leaf-free.result free_fits in
    let gaps = to_z-of_z w128 c.settle_leaf-gaps.result gaps_fits in
    let times : to_z w128 (of_z w128 c.times.result) ≡ pos (c.args.cost * c.args.over.now.scale) =
    to_z-of_z w128 c.times.result times_fits ∙ c.times.ensures ∙ ap (λ z. z *ℤ pos c.args.over.now.scale) (to_z-of_z w128 c.from.result from_fits ∙ c.from.ensures) in
    let most = mul-le-mul_left c.args.cost c.requires.over.scale in
    let word = c.ranges.cost in
    let start = ap norm c.requires.clear ∙ norm-replicate (length c.args.basis.now.sites.now * length c.args.basis.now.problem.now.costs) in
    let grown = c.add_leaf-free.ensures.raised.norm in
    let size = settled-sum_size _ _ _ _ _ _ _ _ c.settle_leaf-gaps.ensures in
    let low = c.add_leaf-free.ensures.size.low in
    let high = c.add_leaf-free.ensures.size.high in
    omega (arith, ints, free, gaps, times, most, word, start, grown, size, low, high)

pub overflow_sub-result : goal.overflow_sub-result
overflow_sub-result c =
    let free_fits : FitsSigned w128 c.add_leaf-free.result = search rules in
    let gaps_fits : FitsSigned w128 c.settle_leaf-gaps.result = search rules in
    let times_fits : FitsSigned w128 c.times.result = search rules in
    let from_fits : FitsSigned w128 c.from.result = search rules in
    let free = to_z-of_z w128 c.add_leaf-free.result free_fits in
    let gaps = to_z-of_z w128 c.settle_leaf-gaps.result gaps_fits in
    let times : to_z w128 (of_z w128 c.times.result) ≡ pos (c.args.cost * c.args.over.now.scale) =
    to_z-of_z w128 c.times.result times_fits ∙ c.times.ensures ∙ ap (λ z. z *ℤ pos c.args.over.now.scale) (to_z-of_z w128 c.from.result from_fits ∙ c.from.ensures) in
    let most = mul-le-mul_left c.args.cost c.requires.over.scale in
    let word = c.ranges.cost in
    let start = ap norm c.requires.clear ∙ norm-replicate (length c.args.basis.now.sites.now * length c.args.basis.now.problem.now.costs) in
    let grown = c.add_leaf-free.ensures.raised.norm in
    let size = settled-sum_size _ _ _ _ _ _ _ _ c.settle_leaf-gaps.ensures in
    let low = c.add_leaf-free.ensures.size.low in
    let high = c.add_leaf-free.ensures.size.high in
    omega (arith, ints, free, gaps, times, most, word, start, grown, size, low, high)

pub returns-clause-beta : goal.returns-clause-beta
returns-clause-beta c =
    let free_fits : FitsSigned w128 c.add_leaf-free.result = search rules in
    let gaps_fits : FitsSigned w128 c.settle_leaf-gaps.result = search rules in
    let times_fits : FitsSigned w128 c.times.result = search rules in
    let from_fits : FitsSigned w128 c.from.result = search rules in
    let free = to_z-of_z w128 c.add_leaf-free.result free_fits in
    let gaps = to_z-of_z w128 c.settle_leaf-gaps.result gaps_fits in
    let times : to_z w128 (of_z w128 c.times.result) ≡ pos (c.args.cost * c.args.over.now.scale) =
    to_z-of_z w128 c.times.result times_fits ∙ c.times.ensures ∙ ap (λ z. z *ℤ pos c.args.over.now.scale) (to_z-of_z w128 c.from.result from_fits ∙ c.from.ensures) in
    let most = mul-le-mul_left c.args.cost c.requires.over.scale in
    let word = c.ranges.cost in
    let start = ap norm c.requires.clear ∙ norm-replicate (length c.args.basis.now.sites.now * length c.args.basis.now.problem.now.costs) in
    let grown = c.add_leaf-free.ensures.raised.norm in
    let size = settled-sum_size _ _ _ _ _ _ _ _ c.settle_leaf-gaps.ensures in
    let low = c.add_leaf-free.ensures.size.low in
    let high = c.add_leaf-free.ensures.size.high in
    leaf-beta c.args.basis.now.problem.now c.args.basis.now.sites.now c.args.basis.now.paths.now c.args.leaf.now c.args.over.now c.args.factors.now.items c.add_leaf-free.new.factors.items c.settle_leaf-gaps.new.factors.items
    c.settle_leaf-gaps.result c.add_leaf-free.result _ c.args.cost c.requires.basis.valid c.requires.fit c.requires.over c.requires.costs c.requires.scale c.requires.cost c.requires.clear
    c.add_leaf-free.ensures.raised c.settle_leaf-gaps.ensures c.add_leaf-free.ensures.free (omega (arith, ints, free, gaps, times, most, word, start, grown, size, low, high))

pub returns-clause-clear : goal.returns-clause-clear
returns-clause-clear c =
    leaf-clear c.args.basis.now.problem.now c.args.basis.now.sites.now c.args.basis.now.paths.now c.args.leaf.now _ _ _ _ _ _ _ _ c.requires.basis.valid c.requires.clear c.add_leaf-free.ensures.raised c.settle_leaf-gaps.ensures
