use Rattle.std.proofs.Common.{◌≡◌, ap, ◌∙◌}
use Rattle.std.specs.Prelude.{flat_map}
use Rattle.hold_netlist.specs.Pins.{connection_count}
use Rattle.hold_roles.specs.Drivers.{assign_drive, inst_drives, port_drives}
use Rattle.hold_roles.proofs.SlotLemmas.{three-parts}
use Rattle.hold_roles.proofs.drivers.fill.Goals as goal

pub returns : goal.returns
returns c =
    let count : c.connection_count-first.result ≡ connection_count c.args.netlist.now.insts = c.connection_count-first.ensures ∙ ap connection_count c.insts.ensures in
    let one = rw c.insts-2.ensures at c.put_insts.ensures in
    let two = rw (c.ports.ensures, c.wires.ensures, count) at c.put_ports.ensures in
    let three = rw c.assigns.ensures at c.put_assigns.ensures in
    three-parts c.args.slots.now c.put_insts.new.slots c.put_ports.new.slots c.put_assigns.new.slots
    (inst_drives c.args.library.now 0 c.args.netlist.now.insts) (port_drives (connection_count c.args.netlist.now.insts) 0 c.args.netlist.now.ports c.args.netlist.now.wires)
    (flat_map assign_drive c.args.netlist.now.assigns) one two three
