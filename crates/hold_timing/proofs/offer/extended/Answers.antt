use Rattle.std.proofs.Common.{ap, sym, ◌∙◌, arith}
use Rattle.std.specs.Prelude.{Option, Some, ℤ}
use Rattle.std.proofs.lemmas.Int.{ints}
use Rattle.hold_graph.specs.Problem.{IsWithin}
use Rattle.hold_timing.specs.inner.Pass.{sum_limit, extended}
use Rattle.hold_timing.proofs.offer.extended.Goals as goal

pub overflow_add-result : goal.overflow_add-result
overflow_add-result c =
    let near : IsWithin sum_limit c.in-Some.time = c.requires.time c.in-Some.time c.in-Some.is in
    let step = c.requires.step in
    omega (arith, ints)

pub returns-in-Some : goal.returns-in-Some
returns-in-Some c =
    let near : IsWithin sum_limit c.in-Some.time = c.requires.time c.in-Some.time c.in-Some.is in
    let step = c.requires.step in
    ap (λ (z : ℤ). Some z) (omega (arith, ints)) ∙ ap (λ (o : Option ℤ). extended o c.args.step) (sym c.in-Some.is)
