use Rattle.std.proofs.Common.{◌≡◌, ◌++◌, drop}
use Rattle.hold_vparse.specs.inner.Flat.{seen_wires}
use Rattle.hold_vparse.specs.Lines.{wire_lines}
use Rattle.hold_vparse.proofs.lines.wire_lines_in.Given as goal

abbrev pub invariant-loop-item : goal.invariant-loop-item
invariant-loop-item l = seen_wires l.list.items ++ wire_lines (drop l.item-index l.items) ≡ wire_lines l.items
