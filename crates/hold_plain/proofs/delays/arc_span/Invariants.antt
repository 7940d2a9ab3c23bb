use Rattle.std.proofs.Common.{◌≡◌, drop}
use Rattle.hold_plain.specs.Cells.{arc_span}
use Rattle.hold_plain.proofs.delays.arc_span.Given as goal

abbrev pub invariant-loop-arc : goal.invariant-loop-arc
invariant-loop-arc l = arc_span l.from l.to (drop l.arc-index l.arcs) ≡ arc_span l.from l.to l.arcs
