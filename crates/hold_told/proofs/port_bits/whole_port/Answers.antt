use Rattle.std.proofs.Common.{refl, arith, sym, ◌∙◌}
use Rattle.hold_netlist.specs.Bits.{width_of}
use Rattle.hold_netlist.proofs.NumberingLemmas.{length-table}
use Rattle.hold_told.proofs.PinNameLemmas.{never}
use Rattle.hold_told.proofs.PlaceLemmas.{first-read, item-is, read-within}
use Rattle.hold_told.proofs.PortLemmas.{port-within, whole-found, whole-none, whole-wide}
use Rattle.hold_told.proofs.port_bits.whole_port.Goals as goal

pub returns-in_default : goal.returns-in_default
returns-in_default c = whole-none c.args.netlist.now c.know_valid.ensures c.args.text.now (λ k port. never ((c.in_default.ensures k).0 port))

pub bounds-wires-at : goal.bounds-wires-at
bounds-wires-at c =
    let within = port-within c.args.netlist.now c.know_valid.ensures c.args.text.now c.in-Some.port ((c.in-Some.ensures c.in-Some.port).1 refl) in
    read-within c.wires.result.now c.args.netlist.now.wires c.in-Some.port c.wires.ensures within

pub returns-then-width-ne1 : goal.returns-then-width-ne1
returns-then-width-ne1 c =
    let port = (c.in-Some.ensures c.in-Some.port).1 refl in
    let within = port-within c.args.netlist.now c.know_valid.ensures c.args.text.now c.in-Some.port port in
    let lt = read-within c.wires.result.now c.args.netlist.now.wires c.in-Some.port c.wires.ensures within in
    let at = item-is c.wires.result.now c.args.netlist.now.wires c.in-Some.port c.index-wires-at.result c.wires.ensures lt c.index-wires-at.is in
    whole-wide c.args.netlist.now c.know_valid.ensures c.args.text.now c.in-Some.port port c.index-wires-at.result at (λ one. c.if-width-ne1.true (c.width.ensures.width ∙ one))

pub index-requires : goal.index-requires
index-requires c =
    let within = port-within c.args.netlist.now c.know_valid.ensures c.args.text.now c.in-Some.port ((c.in-Some.ensures c.in-Some.port).1 refl) in
    let long = length-table width_of c.args.netlist.now.wires c.args.names.now.first_bits.items c.requires.first_bits in
    omega (arith, within, long, c.args.names.now.first_bits.ok.0)

pub returns : goal.returns
returns c =
    let port = (c.in-Some.ensures c.in-Some.port).1 refl in
    let within = port-within c.args.netlist.now c.know_valid.ensures c.args.text.now c.in-Some.port port in
    let lt = read-within c.wires.result.now c.args.netlist.now.wires c.in-Some.port c.wires.ensures within in
    let at = item-is c.wires.result.now c.args.netlist.now.wires c.in-Some.port c.index-wires-at.result c.wires.ensures lt c.index-wires-at.is in
    whole-found c.args.netlist.now c.know_valid.ensures c.args.text.now c.in-Some.port port c.index-wires-at.result at
    (sym c.width.ensures.width ∙ c.if-width-ne1.false) c.index.result.now
    (first-read width_of c.args.netlist.now.wires c.args.names.now.first_bits.items c.in-Some.port c.index.result.now c.requires.first_bits (omega (arith, within)) c.index.ensures)
