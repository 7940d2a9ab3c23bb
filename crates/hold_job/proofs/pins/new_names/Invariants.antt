use Rattle.std.proofs.Common.{◌≡◌, [], ◌++◌, drop, length}
use Rattle.toml.specs.View.{items_view}
use Rattle.hold_job.specs.Lists.{in_turn}
use Rattle.hold_job.specs.Names.{new_name}
use Rattle.hold_job.proofs.pins.new_names.Given as goal

-- what was read so far leads to what the whole gives, and those seen are the taken names and those read
abbrev pub invariant-loop-place : goal.invariant-loop-place
invariant-loop-place l = record {
  rest : in_turn (λ earlier. new_name (l.fn.taken ++ earlier)) l.so_far.items (items_view (drop l.place l.items.items)) ≡ in_turn (λ earlier. new_name (l.fn.taken ++ earlier)) [] (items_view l.items.items);
  count : length l.so_far.items ≡ l.place;
  seen : l.seen ≡ l.fn.taken ++ l.so_far.items;
}
