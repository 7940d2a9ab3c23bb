use Rattle.std.proofs.Common.{◌≡◌, ◌++◌, drop, map}
use Rattle.hold_vparse.specs.inner.Flat.{seen_wires, seen_range}
use Rattle.hold_vparse.specs.Lines.{wire_line, wires_of_item}
use Rattle.hold_vparse.proofs.lines.add_wires.Given as goal

abbrev pub invariant-loop-name : goal.invariant-loop-name
invariant-loop-name l = seen_wires l.list.items ++ map (wire_line (seen_range l.range)) (drop l.name-index l.name-items) ≡ seen_wires l.fn.list.items ++ wires_of_item l.item
