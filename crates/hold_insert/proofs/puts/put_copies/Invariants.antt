use Rattle.std.proofs.Common.{◌≡◌, ◌++◌}
use Rattle.std.specs.Prelude.{replicate}
use Rattle.hold_insert.specs.Chains.{in_front_of}
use Rattle.hold_insert.specs.inner.Grown.{insertions_of}
use Rattle.hold_insert.proofs.puts.put_copies.Given as goal

-- what is left makes all copies
abbrev pub invariant-loop-left : goal.invariant-loop-left
invariant-loop-left l = insertions_of l.puts.items ++ in_front_of l.pin (replicate l.left l.kind) ≡ insertions_of l.initial.puts.items ++ in_front_of l.pin (replicate l.count l.kind)

abbrev pub decreases-loop-left : goal.decreases-loop-left
decreases-loop-left l = l.left
