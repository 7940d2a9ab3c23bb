use Rattle.std.proofs.Common.{◌*◌, length, rules, ap, ◌∙◌, subst, arith, FitsSigned}
use Rattle.std.specs.Prelude.{ℕ, List, ℤ, pos}
use Rattle.std.proofs.lemmas.Int.{ints, to_z-of_z}
use Rattle.std.proofs.lemmas.List.{length-replicate}
use mir.Syntax.{w128}
use Rattle.hold_base.specs.Limits.{kinds_limit}
use Rattle.hold_base.specs.declared.number.PathNo.{PathNo}
use Rattle.hold_base.specs.declared.number.SiteNo.{SiteNo}
use Rattle.hold_proof.specs.inner.Basis.{total}
use Rattle.hold_proof.specs.inner.Changes.{IsRaised, path_unit}
use Rattle.hold_proof.specs.inner.Forms.{norm}
use Rattle.hold_proof.specs.inner.LeafTerms.{chains_free, chains_terms, paths_free, paths_terms}
use Rattle.hold_proof.proofs.ChangeLemmas.{length-raised}
use Rattle.hold_proof.proofs.FormLemmas.{norm-replicate}
use Rattle.hold_proof.proofs.WorkLemmas.{fit-light, leaf-raised}
use Rattle.hold_proof.proofs.weighing.add_leaf.Goals as goal

pub add_paths-paths-requires-clause-weight : goal.add_paths-paths-requires-clause-weight
add_paths-paths-requires-clause-weight c =
    let light = fit-light c.args.basis.now.problem.now c.args.basis.now.sites.now c.args.basis.now.paths.now c.args.leaf.now c.requires.fit in
    let few = light.paths in
    let same = ap (λ (l : List (PathNo × ℕ)). total l) c.as_slice.ensures in
    omega (arith, few, same)

pub add_paths-paths-requires-clause-room : goal.add_paths-paths-requires-clause-room
add_paths-paths-requires-clause-room c =
    let light = fit-light c.args.basis.now.problem.now c.args.basis.now.sites.now c.args.basis.now.paths.now c.args.leaf.now c.requires.fit in
    let few = light.paths in
    let same = ap (λ (l : List (PathNo × ℕ)). total l) c.as_slice.ensures in
    let start = ap norm c.requires.clear ∙ norm-replicate (length c.args.basis.now.sites.now * length c.args.basis.now.problem.now.costs) in
    omega (arith, few, same, start)

pub add_chains-chains-requires-clause-each : goal.add_chains-chains-requires-clause-each
add_chains-chains-requires-clause-each c =
    let long = length-raised _ _ _ _ c.add_paths-paths.ensures.raised in
    let start = ap (λ (l : List ℤ). length l) c.requires.clear ∙ length-replicate (length c.args.basis.now.sites.now * length c.args.basis.now.problem.now.costs) (pos 0) in
    omega (arith, long, start)

pub add_chains-chains-requires-clause-weight : goal.add_chains-chains-requires-clause-weight
add_chains-chains-requires-clause-weight c =
    let light = fit-light c.args.basis.now.problem.now c.args.basis.now.sites.now c.args.basis.now.paths.now c.args.leaf.now c.requires.fit in
    let few = light.chains in
    let same = ap (λ (l : List (SiteNo × ℕ)). total l) c.as_slice-2.ensures in
    omega (arith, few, same)

pub add_chains-chains-requires-clause-room : goal.add_chains-chains-requires-clause-room
add_chains-chains-requires-clause-room c =
    let light = fit-light c.args.basis.now.problem.now c.args.basis.now.sites.now c.args.basis.now.paths.now c.args.leaf.now c.requires.fit in
    let few = light.paths in
    let fewer = light.chains in
    let same = ap (λ (l : List (PathNo × ℕ)). total l) c.as_slice.ensures in
    let other = ap (λ (l : List (SiteNo × ℕ)). total l) c.as_slice-2.ensures in
    let start = ap norm c.requires.clear ∙ norm-replicate (length c.args.basis.now.sites.now * length c.args.basis.now.problem.now.costs) in
    let grown = c.add_paths-paths.ensures.raised.norm in
    omega (arith, few, fewer, same, other, start, grown)

pub overflow_add-result : goal.overflow_add-result
overflow_add-result c =
    let fits : FitsSigned w128 c.add_paths-paths.result = search rules in
    let other_fits : FitsSigned w128 c.add_chains-chains.result = search rules in
    let first = to_z-of_z w128 c.add_paths-paths.result fits in
    let second = to_z-of_z w128 c.add_chains-chains.result other_fits in
    let light = fit-light c.args.basis.now.problem.now c.args.basis.now.sites.now c.args.basis.now.paths.now c.args.leaf.now c.requires.fit in
    let few = light.paths in
    let fewer = light.chains in
    let same = ap (λ (l : List (PathNo × ℕ)). total l) c.as_slice.ensures in
    let other = ap (λ (l : List (SiteNo × ℕ)). total l) c.as_slice-2.ensures in
    let low = c.add_paths-paths.ensures.size.low in
    let high = c.add_paths-paths.ensures.size.high in
    let bottom = c.add_chains-chains.ensures.size.low in
    let top = c.add_chains-chains.ensures.size.high in
    omega (arith, ints, first, second, few, fewer, same, other, low, high, bottom, top)

pub returns-clause-raised : goal.returns-clause-raised
returns-clause-raised c =
    leaf-raised c.args.basis.now.problem.now c.args.basis.now.sites.now c.args.basis.now.paths.now c.args.leaf.now c.args.factors.now.items c.add_paths-paths.new.factors.items _ c.requires.fit
    (subst (λ (l : List (PathNo × ℕ)). IsRaised (paths_terms c.args.basis.now.problem.now c.args.basis.now.sites.now c.args.basis.now.paths.now l) (total l * path_unit) c.args.factors.now.items c.add_paths-paths.new.factors.items)
    c.as_slice.ensures c.add_paths-paths.ensures.raised)
    (subst (λ (l : List (SiteNo × ℕ)). IsRaised (chains_terms (length c.args.basis.now.problem.now.costs) l) (total l * kinds_limit) c.add_paths-paths.new.factors.items c.add_chains-chains.new.factors.items)
    c.as_slice-2.ensures c.add_chains-chains.ensures.raised)

pub returns-clause-free : goal.returns-clause-free
returns-clause-free c =
    let fits : FitsSigned w128 c.add_paths-paths.result = search rules in
    let other_fits : FitsSigned w128 c.add_chains-chains.result = search rules in
    let first = to_z-of_z w128 c.add_paths-paths.result fits in
    let second = to_z-of_z w128 c.add_chains-chains.result other_fits in
    let light = fit-light c.args.basis.now.problem.now c.args.basis.now.sites.now c.args.basis.now.paths.now c.args.leaf.now c.requires.fit in
    let few = light.paths in
    let fewer = light.chains in
    let same = ap (λ (l : List (PathNo × ℕ)). total l) c.as_slice.ensures in
    let other = ap (λ (l : List (SiteNo × ℕ)). total l) c.as_slice-2.ensures in
    let low = c.add_paths-paths.ensures.size.low in
    let high = c.add_paths-paths.ensures.size.high in
    let bottom = c.add_chains-chains.ensures.size.low in
    let top = c.add_chains-chains.ensures.size.high in
    let free = c.add_paths-paths.ensures.free ∙ ap (paths_free c.args.basis.now.problem.now c.args.basis.now.paths.now) c.as_slice.ensures in
    let rest = c.add_chains-chains.ensures.free ∙ ap (chains_free c.args.basis.now.problem.now.max_chain) c.as_slice-2.ensures in
    omega (arith, ints, first, second, few, fewer, same, other, low, high, bottom, top, free, rest)

pub returns-clause-size : goal.returns-clause-size
returns-clause-size c =
    let fits : FitsSigned w128 c.add_paths-paths.result = search rules in
    let other_fits : FitsSigned w128 c.add_chains-chains.result = search rules in
    let first = to_z-of_z w128 c.add_paths-paths.result fits in
    let second = to_z-of_z w128 c.add_chains-chains.result other_fits in
    let light = fit-light c.args.basis.now.problem.now c.args.basis.now.sites.now c.args.basis.now.paths.now c.args.leaf.now c.requires.fit in
    let few = light.paths in
    let fewer = light.chains in
    let same = ap (λ (l : List (PathNo × ℕ)). total l) c.as_slice.ensures in
    let other = ap (λ (l : List (SiteNo × ℕ)). total l) c.as_slice-2.ensures in
    let low = c.add_paths-paths.ensures.size.low in
    let high = c.add_paths-paths.ensures.size.high in
    let bottom = c.add_chains-chains.ensures.size.low in
    let top = c.add_chains-chains.ensures.size.high in
    record { low = omega (arith, ints, first, second, few, fewer, same, other, low, high, bottom, top); high = omega (arith, ints, first, second, few, fewer, same, other, low, high, bottom, top) }
