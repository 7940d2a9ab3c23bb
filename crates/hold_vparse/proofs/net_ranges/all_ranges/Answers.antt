use Rattle.std.proofs.Common.{◌++◌, refl}
use Rattle.hold_vparse.specs.inner.Flat.{seen_wires}
use Rattle.hold_vparse.specs.Lines.{header_lines, body_lines, wire_lines}
use Rattle.hold_vparse.specs.inner.Ranges.{port_ranges, wire_ranges}
use Rattle.hold_vparse.proofs.NetRangeLemmas.{few_nets, whole_ranges}
use Rattle.hold_vparse.proofs.net_ranges.all_ranges.Goals as goal

pub fill-requires : goal.fill-requires
fill-requires c =
    few_nets c.args.tree.now c.in_ok-ranges.ranges c.add_port_nets.new.ranges c.add_other_nets.new.ranges c.args.count (port_ranges (header_lines c.args.tree.now.header ++ body_lines c.args.tree.now.items)) (wire_ranges (wire_lines c.args.tree.now.items))
    (seen_wires c.args.wires.now) c.args.header.now c.in_ok-ranges.ensures c.in_ok-add_port_nets.ensures c.in_ok-add_other_nets.ensures c.requires.wires c.requires.header c.requires.count

pub returns : goal.returns
returns c =
    whole_ranges c.args.tree.now c.in_ok-ranges.ranges c.add_port_nets.new.ranges c.add_other_nets.new.ranges c.args.count (port_ranges (header_lines c.args.tree.now.header ++ body_lines c.args.tree.now.items)) (wire_ranges (wire_lines c.args.tree.now.items))
    (seen_wires c.args.wires.now) c.args.header.now c.in_ok-ranges.ensures c.in_ok-add_port_nets.ensures c.in_ok-add_other_nets.ensures c.requires.wires c.requires.header c.requires.count
    c.fill.new.self c.in_ok-fill.ensures refl refl
