use Rattle.std.proofs.Common.{drop}
use Rattle.hold_roles.proofs.MarkLemmas.{IsSettling}
use Rattle.hold_roles.proofs.marks.settle.Given as goal

abbrev pub invariant-loop-net : goal.invariant-loop-net
invariant-loop-net l = IsSettling l.mark l.trail l.fn.marks (drop l.net-index l.trail) l.marks
