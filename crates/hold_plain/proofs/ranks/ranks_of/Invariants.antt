use Rattle.std.proofs.Common.{◌≡◌, map, take}
use Rattle.hold_plain.specs.inner.Problem.{rank_of}
use Rattle.hold_plain.proofs.ranks.ranks_of.Given as goal

abbrev pub invariant-loop-pin : goal.invariant-loop-pin
invariant-loop-pin l = l.ranks.items ≡ map rank_of (take l.pin-index l.uses)
