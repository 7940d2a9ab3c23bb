use Rattle.std.proofs.Common.{arith}
use Rattle.std.proofs.lemmas.Int.{ints}
use Rattle.hold_proof.proofs.ChangeLemmas.{length-settled, settled-same, settled-sum_size}
use Rattle.hold_proof.proofs.WorkLemmas.{leaf-settled}
use Rattle.hold_proof.proofs.settling.settle_leaf.Goals as goal

pub settle_chains-chains-requires-clause-each : goal.settle_chains-chains-requires-clause-each
settle_chains-chains-requires-clause-each c =
    let long = length-settled _ _ _ _ _ _ _ _ c.settle_paths-paths.ensures in
    omega (arith, long, c.requires.each)

pub settle_chains-chains-requires-clause-over : goal.settle_chains-chains-requires-clause-over
settle_chains-chains-requires-clause-over c =
    let long = length-settled _ _ _ _ _ _ _ _ c.settle_paths-paths.ensures in
    rw long c.requires.over

pub settle_chains-chains-requires-clause-norm : goal.settle_chains-chains-requires-clause-norm
settle_chains-chains-requires-clause-norm c =
    let fell = c.settle_paths-paths.ensures.norm in
    omega (arith, fell, c.requires.norm)

pub overflow_add-result : goal.overflow_add-result
overflow_add-result c =
    let both = leaf-settled c.args.basis.now.problem.now c.args.basis.now.sites.now c.args.basis.now.paths.now c.args.leaf.now c.args.over.now c.as_slice.result.now c.as_slice-2.result.now _ _ _ _ _
    c.requires.costs c.as_slice.ensures c.as_slice-2.ensures c.settle_paths-paths.ensures c.settle_chains-chains.ensures in
    let size = settled-sum_size _ _ _ _ _ _ _ _ both in
    omega (arith, ints, size, c.requires.norm)

pub returns : goal.returns
returns c =
    let both = leaf-settled c.args.basis.now.problem.now c.args.basis.now.sites.now c.args.basis.now.paths.now c.args.leaf.now c.args.over.now c.as_slice.result.now c.as_slice-2.result.now _ _ _ _ _
    c.requires.costs c.as_slice.ensures c.as_slice-2.ensures c.settle_paths-paths.ensures c.settle_chains-chains.ensures in
    let size = settled-sum_size _ _ _ _ _ _ _ _ both in
    settled-same _ _ _ _ _ _ _ _ _ both (omega (arith, ints, size, c.requires.norm))
