use Rattle.std.proofs.Common.{◌∙◌, sym, subst, arith, w64}
use Rattle.std.specs.Prelude.{None, FitsSigned}
use Rattle.std.proofs.lemmas.Int.{ints, to_z-of_z}
use Rattle.std.proofs.lemmas.List.{get_or_default}
use Rattle.hold_base.specs.Limits.{time_limit}
use Rattle.hold_graph.specs.Problem.{IsWithin}
use Rattle.hold_timing.proofs.required.time_at.Goals as goal

pub returns-in-Some-clause-within : goal.returns-in-Some-clause-within
returns-in-Some-clause-within c =
    let near : IsWithin time_limit c.in-Some.time = c.requires.within c.args.pin.0 c.in-Some.time (get_or_default c.args.table.now c.args.pin.0 None _ c.requires.there ∙ c.in-Some.is) in
    let in_range : FitsSigned w64 c.in-Some.time = omega (arith, ints) in
    subst (IsWithin time_limit) (sym (to_z-of_z w64 c.in-Some.time in_range)) near
