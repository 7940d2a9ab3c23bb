use Rattle.std.proofs.Common.{◌≡◌, ◌++◌, map, drop}
use Rattle.hold_plain.specs.Keys.{driven, fed}
use Rattle.hold_plain.specs.Problem.{steps_from}
use Rattle.hold_plain.proofs.arcs.steps_of.Given as goal

abbrev pub invariant-loop-place : goal.invariant-loop-place
invariant-loop-place l =
    l.steps.items ++ steps_from (map driven l.uses) (map fed l.uses) l.place (drop l.place l.uses) ≡ steps_from (map driven l.uses) (map fed l.uses) 0 l.uses
