use Rattle.std.proofs.Common.{◌≡◌, ◌+◌, ◌*◌, ◌<◌, ◌≤◌, length, get_or, refl, rules, ap, ◌∙◌, arith, FitsSigned}
use Rattle.std.specs.Prelude.{unsigned_abs, pos}
use Rattle.std.proofs.lemmas.Int.{ints, to_z-of_z}
use Rattle.std.proofs.lemmas.List.{get_or_read}
use Rattle.std.proofs.lemmas.List.Elements.{AllZip-get_or}
use mir.Syntax.{w128}
use Rattle.hold_proof.specs.inner.Gaps.{gap}
use Rattle.hold_proof.proofs.FormLemmas.{norm-at}
use Rattle.hold_proof.proofs.ChangeLemmas.{length-settled, settled_site-more, settled-sum_size, settled-same}
use Rattle.hold_proof.proofs.gaps.settle_site.Goals as goal

pub gap-sum-requires-clause-factor : goal.gap-sum-requires-clause-factor
gap-sum-requires-clause-factor c =
    let fits : FitsSigned w128 c.index.result.now = search rules in
    let same = ap unsigned_abs (to_z-of_z w128 c.index.result.now fits) in
    let long = length-settled _ _ _ _ _ _ _ _ c.loop-place.invariant in
    let there : c.args.site.0 * length c.args.costs.now + c.loop-place.place < length c.loop-place.factors.items = omega (arith, long) in
    let read = ap unsigned_abs (get_or_read c.loop-place.factors.items (c.args.site.0 * length c.args.costs.now + c.loop-place.place) c.index.result.now there c.index.ensures (pos 0)) in
    let at = norm-at c.loop-place.factors.items (c.args.site.0 * length c.args.costs.now + c.loop-place.place) in
    let fell = c.loop-place.invariant.norm in
    omega (arith, same, read, at, fell)

pub gap-sum-requires-clause-order : goal.gap-sum-requires-clause-order
gap-sum-requires-clause-order c =
    AllZip-get_or (λ low high. low ≤ high) c.args.low.now c.args.high.now (c.args.site.0 * length c.args.costs.now + c.loop-place.place) 0 0 c.requires.ordered (omega arith)

pub overflow_add-sum : goal.overflow_add-sum
overflow_add-sum c =
    let fits : FitsSigned w128 c.index.result.now = search rules in
    let long = length-settled _ _ _ _ _ _ _ _ c.loop-place.invariant in
    let there : c.args.site.0 * length c.args.costs.now + c.loop-place.place < length c.loop-place.factors.items = omega (arith, long) in
    let read = get_or_read c.loop-place.factors.items (c.args.site.0 * length c.args.costs.now + c.loop-place.place) c.index.result.now there c.index.ensures (pos 0) in
    let value = c.gap-sum.ensures ∙ ap (λ f. gap (c.args.scale * get_or c.args.costs.now c.loop-place.place 0) f
    (get_or c.args.low.now (c.args.site.0 * length c.args.costs.now + c.loop-place.place) 0)
    (get_or c.args.high.now (c.args.site.0 * length c.args.costs.now + c.loop-place.place) 0)) (to_z-of_z w128 c.index.result.now fits ∙ read) in
    let order = AllZip-get_or (λ low high. low ≤ high) c.args.low.now c.args.high.now (c.args.site.0 * length c.args.costs.now + c.loop-place.place) 0 0 c.requires.ordered (omega arith) in
    let next = settled_site-more c.args.costs.now c.args.scale c.args.low.now c.args.high.now c.args.site.0 c.loop-place.place _ _ _ _ c.gap-sum.result
    c.loop-place-test.true there (omega (arith, long)) (omega arith) order (c.requires.most (c.args.site.0 * length c.args.costs.now + c.loop-place.place) 0 (omega arith))
    c.loop-place.invariant refl value in
    let size = settled-sum_size _ _ _ _ _ _ _ _ next in
    omega (arith, ints, size)

pub loop-place-preserved : goal.loop-place-preserved
loop-place-preserved c =
    let fits : FitsSigned w128 c.index.result.now = search rules in
    let long = length-settled _ _ _ _ _ _ _ _ c.loop-place.invariant in
    let there : c.args.site.0 * length c.args.costs.now + c.loop-place.place < length c.loop-place.factors.items = omega (arith, long) in
    let read = get_or_read c.loop-place.factors.items (c.args.site.0 * length c.args.costs.now + c.loop-place.place) c.index.result.now there c.index.ensures (pos 0) in
    let value = c.gap-sum.ensures ∙ ap (λ f. gap (c.args.scale * get_or c.args.costs.now c.loop-place.place 0) f
    (get_or c.args.low.now (c.args.site.0 * length c.args.costs.now + c.loop-place.place) 0)
    (get_or c.args.high.now (c.args.site.0 * length c.args.costs.now + c.loop-place.place) 0)) (to_z-of_z w128 c.index.result.now fits ∙ read) in
    let order = AllZip-get_or (λ low high. low ≤ high) c.args.low.now c.args.high.now (c.args.site.0 * length c.args.costs.now + c.loop-place.place) 0 0 c.requires.ordered (omega arith) in
    let next = settled_site-more c.args.costs.now c.args.scale c.args.low.now c.args.high.now c.args.site.0 c.loop-place.place _ _ _ _ c.gap-sum.result
    c.loop-place-test.true there (omega (arith, long)) (omega arith) order (c.requires.most (c.args.site.0 * length c.args.costs.now + c.loop-place.place) 0 (omega arith))
    c.loop-place.invariant refl value in
    let size = settled-sum_size _ _ _ _ _ _ _ _ next in
    settled-same _ _ _ _ _ _ _ _ _ next (omega (arith, ints, size))

pub returns : goal.returns
returns c =
    let all : c.loop-place.place ≡ length c.args.costs.now = omega arith in
    rw all at c.loop-place.invariant
