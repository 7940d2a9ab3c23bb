use Rattle.std.proofs.Common.{◌≡◌, [], drop, length}
use Rattle.toml.specs.View.{items_view}
use Rattle.hold_job.specs.Lists.{in_turn}
use Rattle.hold_job.specs.Entries.{corner_of}
use Rattle.hold_job.proofs.corners.corners_in.Given as goal

-- what was read so far leads to what the whole gives
abbrev pub invariant-loop-place : goal.invariant-loop-place
invariant-loop-place l = record {
  rest : in_turn corner_of l.so_far.items (items_view (drop l.place l.items.items)) ≡ in_turn corner_of [] (items_view l.items.items);
  count : length l.so_far.items ≡ l.place;
}
