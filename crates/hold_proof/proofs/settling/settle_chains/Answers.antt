use Rattle.std.proofs.Common.{◌≤◌, suc, length, get_or, sym, ◌∙◌, arith}
use Rattle.std.specs.Prelude.{ℕ, Some}
use Rattle.std.proofs.lemmas.Int.{ints}
use Rattle.std.proofs.lemmas.List.{get_or_default}
use Rattle.std.proofs.Math.Nat.{mul-le-mul_right}
use Rattle.hold_base.specs.declared.number.SiteNo.{SiteNo}
use Rattle.hold_proof.specs.inner.LeafTerms.{site_vars}
use Rattle.hold_proof.proofs.ChangeLemmas.{length-settled, settled-more, settled-same, settled-sum_size}
use Rattle.hold_proof.proofs.settling.settle_chains.Goals as goal

pub settle_site-sum-requires-clause-there : goal.settle_site-sum-requires-clause-there
settle_site-sum-requires-clause-there c =
    let long = length-settled _ _ _ _ _ _ _ _ c.loop-term.invariant in
    let term = get_or c.args.terms.now c.loop-term.term-index (record { 0 = record { 0 = 0 }; 1 = 0 }) in
    let there : suc term.0.0 ≤ length c.args.basis.now.sites.now = c.requires.there c.loop-term.term-index (record { 0 = record { 0 = 0 }; 1 = 0 }) c.loop-term-test.true in
    let room = mul-le-mul_right (length c.args.over.now.costs.now) there in
    omega (arith, long, room, c.requires.each)

pub settle_site-sum-requires-clause-low_each : goal.settle_site-sum-requires-clause-low_each
settle_site-sum-requires-clause-low_each c =
    let long = length-settled _ _ _ _ _ _ _ _ c.loop-term.invariant in
    c.requires.over.low_each ∙ sym long

pub settle_site-sum-requires-clause-high_each : goal.settle_site-sum-requires-clause-high_each
settle_site-sum-requires-clause-high_each c =
    let long = length-settled _ _ _ _ _ _ _ _ c.loop-term.invariant in
    c.requires.over.high_each ∙ sym long

pub settle_site-sum-requires-clause-norm : goal.settle_site-sum-requires-clause-norm
settle_site-sum-requires-clause-norm c =
    let fell = c.loop-term.invariant.norm in
    omega (arith, fell, c.requires.norm)

pub overflow_add-sum : goal.overflow_add-sum
overflow_add-sum c =
    let term = get_or c.args.terms.now c.loop-term.term-index (record { 0 = record { 0 = 0 }; 1 = 0 }) in
    let next = settled-more c.args.over.now.costs.now c.args.over.now.scale c.args.over.now.low.now c.args.over.now.high.now
    (λ (term : SiteNo × ℕ). site_vars (length c.args.over.now.costs.now) (Some term.0.0))
    c.args.terms.now c.loop-term.term-index term _ _ _ _ _ c.loop-term-test.true (get_or_default c.args.terms.now c.loop-term.term-index _ term c.loop-term-test.true) c.loop-term.invariant c.settle_site-sum.ensures in
    let size = settled-sum_size _ _ _ _ _ _ _ _ next in
    omega (arith, ints, size)

pub loop-term-preserved : goal.loop-term-preserved
loop-term-preserved c =
    let term = get_or c.args.terms.now c.loop-term.term-index (record { 0 = record { 0 = 0 }; 1 = 0 }) in
    let next = settled-more c.args.over.now.costs.now c.args.over.now.scale c.args.over.now.low.now c.args.over.now.high.now
    (λ (term : SiteNo × ℕ). site_vars (length c.args.over.now.costs.now) (Some term.0.0))
    c.args.terms.now c.loop-term.term-index term _ _ _ _ _ c.loop-term-test.true (get_or_default c.args.terms.now c.loop-term.term-index _ term c.loop-term-test.true) c.loop-term.invariant c.settle_site-sum.ensures in
    let size = settled-sum_size _ _ _ _ _ _ _ _ next in
    settled-same _ _ _ _ _ _ _ _ _ next (omega (arith, ints, size))
