use Rattle.std.proofs.Common.{◌∙◌, get_or, arith}
use Rattle.std.specs.Prelude.{pos, FitsSigned}
use Rattle.std.proofs.lemmas.Int.{to_z-of_z, ints}
use mir.Syntax.{w64}
use Rattle.hold_graph.specs.Problem.{IsWithin}
use Rattle.hold_base.specs.Limits.{launch_limit}
use Rattle.hold_graph.proofs.Pass.{offer_read}
use Rattle.hold_graph.proofs.arrival.offer.Goals as goal

pub extended-requires-clause-sum : goal.extended-requires-clause-sum
extended-requires-clause-sum c = λ s is. c.requires.best _ s is

pub returns-in-Some : goal.returns-in-Some
returns-in-Some c =
    let below = c.requires.place _ c.in-Some.is in
    let step : IsWithin launch_limit (get_or c.args.steps.now c.in-Some.place (pos 0)) = c.requires.steps c.in-Some.place (pos 0) (let each = c.requires.each in omega arith) in
    let in_range : FitsSigned w64 (get_or c.args.steps.now c.in-Some.place (pos 0)) = omega (arith, ints) in
    (rw (to_z-of_z w64 (get_or c.args.steps.now c.in-Some.place (pos 0)) in_range) at c.extended.ensures)
    ∙ offer_read c.args.arcs.now c.args.steps.now c.args.best.now c.args.place c.in-Some.place _ c.in-Some.is below
