use Rattle.hold_told.proofs.PortLemmas.{ranged-names, whole-names}
use Rattle.hold_told.proofs.port_bits.port_bit.Goals as goal

pub returns-in-Some : goal.returns-in-Some
returns-in-Some c = whole-names c.args.netlist.now c.args.text.now c.in-Some.net c.in-Some.ensures

pub returns-in-None : goal.returns-in-None
returns-in-None c = ranged-names c.args.netlist.now c.args.text.now c.ranged_bit.result c.in-None.ensures c.ranged_bit.ensures
