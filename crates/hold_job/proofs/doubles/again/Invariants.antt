use Rattle.std.proofs.Common.{◌≡◌, [], map, drop, length, bytes_eq}
use Rattle.hold_job.specs.Doubles.{again}
use Rattle.hold_job.proofs.doubles.again.Given as goal

-- what is left leads to what the whole does
abbrev pub invariant-loop-place : goal.invariant-loop-place
invariant-loop-place g l = record {
  rest : again bytes_eq l.seen (map g.T.Named.name_in (drop l.place l.items)) ≡ again bytes_eq [] (map g.T.Named.name_in l.items);
  count : length l.seen ≡ l.place;
}
