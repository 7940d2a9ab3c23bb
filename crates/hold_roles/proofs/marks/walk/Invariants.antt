use Rattle.std.specs.List.{count_by}
use Rattle.hold_roles.proofs.MarkLemmas.{IsWalking, is_new}
use Rattle.hold_roles.proofs.marks.walk.Given as goal

abbrev pub invariant-loop-next : goal.invariant-loop-next
invariant-loop-next l = IsWalking l.slots l.fn.marks l.marks l.trail.items l.fn.start.0 l.at.0

abbrev pub decreases-loop-next : goal.decreases-loop-next
decreases-loop-next l = count_by is_new l.marks
