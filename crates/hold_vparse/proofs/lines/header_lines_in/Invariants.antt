use Rattle.std.proofs.Common.{◌≡◌, ◌++◌, drop}
use Rattle.hold_vparse.specs.inner.Flat.{seen_ports, seen_range}
use Rattle.hold_vparse.specs.Lines.{header_lines, next_lines}
use Rattle.hold_vparse.proofs.lines.header_lines_in.Given as goal

abbrev pub invariant-loop-port : goal.invariant-loop-port
invariant-loop-port l = seen_ports l.list.items ++ next_lines l.direction (seen_range l.range) (drop l.port-index l.port-items) ≡ header_lines l.header
