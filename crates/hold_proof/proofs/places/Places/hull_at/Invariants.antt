use Rattle.std.proofs.Common.{◌≡◌, ℕ, length, drop, None}
use Rattle.hold_graph.specs.Sums.{items_at}
use Rattle.hold_proof.specs.inner.Places.{next_place, links_left, hull_after}
use Rattle.hold_proof.proofs.places.Places.hull_at.Given as goal

abbrev pub invariant-loop-at : goal.invariant-loop-at
invariant-loop-at l =
    (from : ℕ)
    × (l.at ≡ next_place l.self.listed.items from l.fn.pin)
    × (hull_after l.hull (items_at (drop from l.self.listed.items) (drop from l.spans) l.fn.pin) ≡ hull_after None (items_at l.self.listed.items l.spans l.fn.pin))

abbrev pub decreases-loop-at : goal.decreases-loop-at
decreases-loop-at l = links_left (length l.self.listed.items) l.at
