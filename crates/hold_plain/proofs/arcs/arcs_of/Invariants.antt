use Rattle.std.proofs.Common.{◌≡◌, ◌++◌, map, drop}
use Rattle.hold_plain.specs.Keys.{driven, fed}
use Rattle.hold_plain.specs.Problem.{arcs_from}
use Rattle.hold_plain.proofs.arcs.arcs_of.Given as goal

abbrev pub invariant-loop-place : goal.invariant-loop-place
invariant-loop-place l =
    l.arcs.items ++ arcs_from (map driven l.uses) (map fed l.uses) l.place (drop l.place l.uses) ≡ arcs_from (map driven l.uses) (map fed l.uses) 0 l.uses
