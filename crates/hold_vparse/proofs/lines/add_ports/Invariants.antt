use Rattle.std.proofs.Common.{◌≡◌, ◌++◌, drop, map}
use Rattle.hold_vparse.specs.inner.Flat.{seen_ports, seen_range}
use Rattle.hold_vparse.specs.Lines.{port_line, lines_of_item}
use Rattle.hold_vparse.proofs.lines.add_ports.Given as goal

abbrev pub invariant-loop-name : goal.invariant-loop-name
invariant-loop-name l = seen_ports l.list.items ++ map (port_line l.direction (seen_range l.range)) (drop l.name-index l.name-items) ≡ seen_ports l.fn.list.items ++ lines_of_item l.item
