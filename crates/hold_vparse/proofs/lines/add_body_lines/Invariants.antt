use Rattle.std.proofs.Common.{◌≡◌, ◌++◌, drop}
use Rattle.hold_vparse.specs.inner.Flat.{seen_ports}
use Rattle.hold_vparse.specs.Lines.{body_lines}
use Rattle.hold_vparse.proofs.lines.add_body_lines.Given as goal

abbrev pub invariant-loop-item : goal.invariant-loop-item
invariant-loop-item l = seen_ports l.list.items ++ body_lines (drop l.item-index l.items) ≡ seen_ports l.fn.list.items ++ body_lines l.items
