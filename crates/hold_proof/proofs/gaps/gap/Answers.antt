use Rattle.std.proofs.Common.{◌≡◌, ◌*◌, ap, ◌∙◌, rules, arith, FitsSigned}
use Rattle.std.specs.Prelude.{pos, ◌*ℤ◌, unsigned_abs}
use Rattle.std.proofs.lemmas.Int.{ints, to_z-of_z}
use Rattle.std.proofs.Math.Nat.{mul-le-mul_right}
use mir.Syntax.{w128}
use Rattle.hold_proof.specs.inner.Gaps.{gap}
use Rattle.hold_proof.proofs.GapLemmas.{gap-value, gap-size}
use Rattle.hold_proof.proofs.Magnitudes.{bounded}
use Rattle.hold_proof.proofs.gaps.gap.Goals as goal

pub overflow_sub-result : goal.overflow_sub-result
overflow_sub-result c =
    let from_fits : FitsSigned w128 c.from.result = search rules in
    let step_fits : FitsSigned w128 c.times-step.result = search rules in
    let alone : c.times-step.result ≡ pos (c.args.scale * c.args.cost) =
    c.times-step.ensures ∙ ap (λ z. z *ℤ pos c.args.cost) (to_z-of_z w128 c.from.result from_fits ∙ c.from.ensures) in
    let wide = mul-le-mul_right c.args.cost c.requires.scale in
    let factor = bounded c.args.factor (unsigned_abs c.args.factor) (omega arith) in
    let value = gap-value (c.args.scale * c.args.cost) c.args.low c.args.high c.from-2.result c.args.factor _ _ c.least_times.result c.times.result c.least_times.ensures
    (omega (arith, ints, alone, wide, factor)) c.times.ensures (to_z-of_z w128 c.times-step.result step_fits ∙ alone) c.from-2.ensures in
    let size = bounded (gap (c.args.scale * c.args.cost) c.args.factor c.args.low c.args.high) (16 * unsigned_abs c.args.factor)
    (gap-size (c.args.scale * c.args.cost) c.args.factor c.args.low c.args.high c.requires.order c.requires.high) in
    omega (arith, ints, value, size)

pub returns : goal.returns
returns c =
    let from_fits : FitsSigned w128 c.from.result = search rules in
    let step_fits : FitsSigned w128 c.times-step.result = search rules in
    let alone : c.times-step.result ≡ pos (c.args.scale * c.args.cost) =
    c.times-step.ensures ∙ ap (λ z. z *ℤ pos c.args.cost) (to_z-of_z w128 c.from.result from_fits ∙ c.from.ensures) in
    let wide = mul-le-mul_right c.args.cost c.requires.scale in
    let factor = bounded c.args.factor (unsigned_abs c.args.factor) (omega arith) in
    let value = gap-value (c.args.scale * c.args.cost) c.args.low c.args.high c.from-2.result c.args.factor _ _ c.least_times.result c.times.result c.least_times.ensures
    (omega (arith, ints, alone, wide, factor)) c.times.ensures (to_z-of_z w128 c.times-step.result step_fits ∙ alone) c.from-2.ensures in
    let size = bounded (gap (c.args.scale * c.args.cost) c.args.factor c.args.low c.args.high) (16 * unsigned_abs c.args.factor)
    (gap-size (c.args.scale * c.args.cost) c.args.factor c.args.low c.args.high c.requires.order c.requires.high) in
    omega (arith, ints, value, size)
