use Rattle.std.proofs.Common.{◌++◌, subst}
use Rattle.hold_vparse.specs.inner.Bounds.{Hold}
use Rattle.hold_vparse.specs.Lines.{header_lines, body_lines, wire_lines}
use Rattle.hold_vparse.specs.inner.Ranges.{port_ranges, wire_ranges}
use Rattle.hold_vparse.proofs.NetRangeLemmas.{lines_whole}
use Rattle.hold_vparse.proofs.net_ranges.line_ranges.Goals as goal

pub returns : goal.returns
returns c =
    let header = c.args.tree.now.header in
    lines_whole c.port_places.new.table c.wire_places.new.table c.in_ok-ports.ports.items c.in_ok-wires.wires.items (port_ranges (header_lines header ++ body_lines c.args.tree.now.items)) (wire_ranges (wire_lines c.args.tree.now.items)) c.of.result
    (subst (λ is. Hold c.port_places.new.table c.in_ok-ports.ports.items (port_ranges (header_lines header ++ body_lines is))) c.as_slice-items.ensures c.in_ok-ports.ensures)
    c.in_ok-wires.ensures.grown
    (subst (λ is. Hold c.wire_places.new.table c.in_ok-wires.wires.items (wire_ranges (wire_lines is))) c.as_slice-items.ensures c.in_ok-wires.ensures.places) c.of.ensures
