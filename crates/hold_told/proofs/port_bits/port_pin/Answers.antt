use Rattle.std.proofs.Common.{List, length, ap, arith}
use Rattle.hold_base.specs.declared.number.PinNo.{PinNo}
use Rattle.hold_build.proofs.CountLemmas.{pins_few}
use Rattle.hold_netlist.specs.declared.inst.Inst.{Inst}
use Rattle.hold_netlist.specs.Pins.{pin_count}
use Rattle.hold_netlist.proofs.NumberingLemmas.{length-table}
use Rattle.hold_told.proofs.PlaceLemmas.{last-read}
use Rattle.hold_told.proofs.PortLemmas.{bit-below, no_port, port-found}
use Rattle.hold_told.proofs.port_bits.port_pin.Goals as goal

pub index-requires : goal.index-requires
index-requires c =
    let long = length-table pin_count c.args.netlist.now.insts c.args.names.now.first_pins.items c.requires.first_pins in
    omega (arith, long, ap (λ (l : List Inst). length l) c.insts.ensures, c.args.names.now.first_pins.ok.0)

pub overflow_add-result : goal.overflow_add-result
overflow_add-result c =
    let first = last-read pin_count c.args.netlist.now.insts c.insts.result.now c.args.names.now.first_pins.items c.index.result.now c.requires.first_pins c.insts.ensures c.index.ensures in
    omega (arith, first, bit-below c.args.netlist.now c.args.text.now c.in-Some.net c.in-Some.ensures, pins_few c.args.netlist.now c.know_valid.ensures)

pub returns-in-Some-clause-found : goal.returns-in-Some-clause-found
returns-in-Some-clause-found c =
    port-found c.args.netlist.now c.args.text.now c.in-Some.net c.in-Some.ensures c.index.result.now
    (last-read pin_count c.args.netlist.now.insts c.insts.result.now c.args.names.now.first_pins.items c.index.result.now c.requires.first_pins c.insts.ensures c.index.ensures)

pub returns-in-Some-clause-within : goal.returns-in-Some-clause-within
returns-in-Some-clause-within c = λ p e.
    let first = last-read pin_count c.args.netlist.now.insts c.insts.result.now c.args.names.now.first_pins.items c.index.result.now c.requires.first_pins c.insts.ensures c.index.ensures in
    omega (arith, first, bit-below c.args.netlist.now c.args.text.now c.in-Some.net c.in-Some.ensures, ap (λ (q : PinNo). q.0) e)

pub returns-in-None-clause-found : goal.returns-in-None-clause-found
returns-in-None-clause-found c = no_port c.args.netlist.now c.args.text.now c.in-None.ensures
