use Rattle.std.proofs.Common.{◌≡◌, drop, length}
use Rattle.toml.specs.View.{items_view}
use Rattle.hold_job.specs.Lists.{in_turn, each}
use Rattle.hold_job.proofs.list.each.Given as goal

-- what was read so far leads to what the whole gives
abbrev pub invariant-loop-place : goal.invariant-loop-place
invariant-loop-place g l = record {
  rest : in_turn (λ earlier. g.F.Form.form l.form) l.so_far.items (items_view (drop l.place l.items.items)) ≡ each (g.F.Form.form l.form) (items_view l.items.items);
  count : length l.so_far.items ≡ l.place;
}
