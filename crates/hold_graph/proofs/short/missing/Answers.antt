use Rattle.std.proofs.Common.{ap, ◌∙◌, arith, ◌^◌}
use Rattle.std.specs.Prelude.{Some, ℤ, pos, ◌<ℤ◌}
use Rattle.std.proofs.lemmas.Int.{ints}
use Rattle.hold_graph.specs.Problem.{IsWithin}
use Rattle.hold_graph.proofs.short.missing.Goals as goal

pub overflow_sub-result : goal.overflow_sub-result
overflow_sub-result c =
    let near : IsWithin (2 ^ 57) c.in-Some.rest = c.requires c.in-Some.rest c.in-Some.is in
    omega (arith, ints)

pub returns-in-Some-clause-some : goal.returns-in-Some-clause-some
returns-in-Some-clause-some c =
    let near : IsWithin (2 ^ 57) c.in-Some.rest = c.requires c.in-Some.rest c.in-Some.is in
    let below : c.in-Some.rest <ℤ pos 0 = grind (arith, ints) in
    (c.in-Some.is ∙ ap (λ (z : ℤ). Some z) (omega (arith, ints)), omega (arith, ints))
