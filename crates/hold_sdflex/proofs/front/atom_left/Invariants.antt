use Rattle.std.proofs.Common.{◌≡◌, drop}
use Rattle.hold_sdflex.specs.inner.Waiting.{atom_left}
use Rattle.hold_sdflex.proofs.Counting.{shift}
use Rattle.hold_sdflex.proofs.front.atom_left.Given as goal

abbrev pub invariant-loop-place : goal.invariant-loop-place
invariant-loop-place l = shift l.place (atom_left l.taken (drop l.place l.bytes)) ≡ atom_left l.first_taken l.bytes
