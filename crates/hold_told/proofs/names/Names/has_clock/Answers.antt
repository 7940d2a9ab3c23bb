use Rattle.hold_told.proofs.PinNameLemmas.{here-clock, here-within, no_inst-no_clock}
use Rattle.hold_told.proofs.names.Names.has_clock.Goals as goal

pub cell-requires : goal.cell-requires
cell-requires c =
    here-within c.args.bound.now c.netlist-netlist.result.now c.netlist-netlist.ensures c.know_valid.ensures.names c.bytes.result.now c.args.inst.now c.args.pin.now c.bytes.ensures c.in-Some.number c.in-Some.ensures

pub returns-in-Some : goal.returns-in-Some
returns-in-Some c =
    here-clock c.args.bound.now c.netlist-netlist.result.now c.netlist-netlist.ensures c.know_valid.ensures.names c.bytes.result.now c.args.inst.now c.args.pin.now c.bytes.ensures c.in-Some.number c.in-Some.ensures
    c.cell.result.now c.cell.ensures c.is_clock.result c.is_clock.ensures

pub returns-in-None : goal.returns-in-None
returns-in-None c =
    no_inst-no_clock c.args.bound.now c.netlist-netlist.result.now c.netlist-netlist.ensures c.know_valid.ensures.names c.bytes.result.now c.args.inst.now c.args.pin.now c.bytes.ensures c.in-None.ensures
