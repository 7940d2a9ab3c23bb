use Rattle.std.proofs.Common.{◌≡◌, ℕ, length, drop, None}
use Rattle.hold_graph.specs.Sums.{items_at}
use Rattle.hold_proof.specs.inner.Places.{next_place, links_left, greatest_after}
use Rattle.hold_proof.proofs.places.Places.greatest_at.Given as goal

abbrev pub invariant-loop-at : goal.invariant-loop-at
invariant-loop-at l =
    (from : ℕ)
    × (l.at ≡ next_place l.self.listed.items from l.fn.pin)
    × (greatest_after l.greatest (items_at (drop from l.self.listed.items) (drop from l.times) l.fn.pin) ≡ greatest_after None (items_at l.self.listed.items l.times l.fn.pin))

abbrev pub decreases-loop-at : goal.decreases-loop-at
decreases-loop-at l = links_left (length l.self.listed.items) l.at
