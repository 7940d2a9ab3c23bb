use Rattle.std.proofs.Common.{◌≡◌, [], map, drop, length}
use Rattle.hold_job.specs.Doubles.{again, same_ends}
use Rattle.hold_job.specs.inner.Ends.{same_pair, ends_of}
use Rattle.hold_job.proofs.doubles.arc_again.Given as goal

-- what is left leads to what the whole does
abbrev pub invariant-loop-place : goal.invariant-loop-place
invariant-loop-place l = record {
  rest : again same_pair l.seen.keys (map ends_of (drop l.place l.arcs)) ≡ again same_ends [] l.arcs;
  count : length l.seen.keys ≡ l.place;
}
