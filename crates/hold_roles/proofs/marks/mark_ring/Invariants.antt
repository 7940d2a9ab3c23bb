use Rattle.std.specs.List.{count_by}
use Rattle.hold_roles.specs.inner.Marks.{is_open}
use Rattle.hold_roles.proofs.MarkLemmas.{IsRinging}
use Rattle.hold_roles.proofs.marks.mark_ring.Given as goal

abbrev pub invariant-loop-next : goal.invariant-loop-next
invariant-loop-next l = IsRinging l.slots l.fn.marks l.marks l.fn.start.0 l.at.0

abbrev pub decreases-loop-next : goal.decreases-loop-next
decreases-loop-next l = count_by is_open l.marks
