use Rattle.std.proofs.Common.{◌≡◌, ◌+◌, ◌≤◌, Some, length, drop}
use Rattle.hold_proof.specs.inner.Forest.{tree_count}
use Rattle.hold_proof.proofs.shape.is_one_tree.Given as goal

abbrev pub invariant-loop-at : goal.invariant-loop-at
invariant-loop-at l = (tree_count (drop l.at l.nodes) ≡ Some l.trees) × (l.trees + l.at ≤ length l.nodes)

abbrev pub decreases-loop-at : goal.decreases-loop-at
decreases-loop-at l = l.at
