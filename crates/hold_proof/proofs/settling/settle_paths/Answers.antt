use Rattle.std.proofs.Common.{get_or, arith}
use Rattle.std.specs.Prelude.{ℕ, slice_get}
use Rattle.std.proofs.lemmas.Int.{ints}
use Rattle.std.proofs.lemmas.List.{get_or_default}
use Rattle.hold_base.specs.declared.number.PathNo.{PathNo}
use Rattle.hold_proof.specs.inner.LeafTerms.{listed_vars}
use Rattle.hold_proof.proofs.ChangeLemmas.{length-settled, settled-more, settled-same, settled-sum_size}
use Rattle.hold_proof.proofs.settling.settle_paths.Goals as goal

pub settle_listed-sum-requires-clause-each : goal.settle_listed-sum-requires-clause-each
settle_listed-sum-requires-clause-each c =
    let long = length-settled _ _ _ _ _ _ _ _ c.loop-term.invariant in
    omega (arith, long, c.requires.each)

pub settle_listed-sum-requires-clause-over : goal.settle_listed-sum-requires-clause-over
settle_listed-sum-requires-clause-over c =
    let long = length-settled _ _ _ _ _ _ _ _ c.loop-term.invariant in
    rw long c.requires.over

pub settle_listed-sum-requires-clause-norm : goal.settle_listed-sum-requires-clause-norm
settle_listed-sum-requires-clause-norm c =
    let fell = c.loop-term.invariant.norm in
    omega (arith, fell, c.requires.norm)

pub overflow_add-sum : goal.overflow_add-sum
overflow_add-sum c =
    let term = get_or c.args.terms.now c.loop-term.term-index (record { 0 = record { 0 = 0 }; 1 = 0 }) in
    let next = settled-more c.args.over.now.costs.now c.args.over.now.scale c.args.over.now.low.now c.args.over.now.high.now
    (λ (term : PathNo × ℕ). listed_vars c.args.basis.now.problem.now c.args.basis.now.sites.now (slice_get c.args.basis.now.paths.now term.0.0))
    c.args.terms.now c.loop-term.term-index term _ _ _ _ _ c.loop-term-test.true (get_or_default c.args.terms.now c.loop-term.term-index _ term c.loop-term-test.true) c.loop-term.invariant c.settle_listed-sum.ensures in
    let size = settled-sum_size _ _ _ _ _ _ _ _ next in
    omega (arith, ints, size)

pub loop-term-preserved : goal.loop-term-preserved
loop-term-preserved c =
    let term = get_or c.args.terms.now c.loop-term.term-index (record { 0 = record { 0 = 0 }; 1 = 0 }) in
    let next = settled-more c.args.over.now.costs.now c.args.over.now.scale c.args.over.now.low.now c.args.over.now.high.now
    (λ (term : PathNo × ℕ). listed_vars c.args.basis.now.problem.now c.args.basis.now.sites.now (slice_get c.args.basis.now.paths.now term.0.0))
    c.args.terms.now c.loop-term.term-index term _ _ _ _ _ c.loop-term-test.true (get_or_default c.args.terms.now c.loop-term.term-index _ term c.loop-term-test.true) c.loop-term.invariant c.settle_listed-sum.ensures in
    let size = settled-sum_size _ _ _ _ _ _ _ _ next in
    settled-same _ _ _ _ _ _ _ _ _ next (omega (arith, ints, size))
