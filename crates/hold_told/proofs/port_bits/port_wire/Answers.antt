use Rattle.std.proofs.Common.{◌∙◌}
use Rattle.hold_told.proofs.PortLemmas.{port-named}
use Rattle.hold_told.proofs.port_bits.port_wire.Goals as goal

pub returns : goal.returns
returns c = port-named c.args.netlist.now c.know_valid.ensures c.args.name.now c.find.result (c.find.ensures ∙ c.requires.ports.each c.args.name.now)
