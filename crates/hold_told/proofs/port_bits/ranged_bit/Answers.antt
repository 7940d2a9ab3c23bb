use Rattle.std.proofs.Common.{◌<◌, ◌+◌, get_or, refl, arith}
use Rattle.std.specs.Prelude.{◌^◌}
use Rattle.hold_netlist.specs.Bits.{bits_of, width_of}
use Rattle.hold_netlist.proofs.NumberingLemmas.{IsNumbered-below, length-table}
use Rattle.hold_told.proofs.PinNameLemmas.{never}
use Rattle.hold_told.proofs.PlaceLemmas.{first-read, item-read, read-within}
use Rattle.hold_told.proofs.PortLemmas.{bit-numbered, bits-few, outside-none, port-within, ranged-found, scalar-none, unported-none}
use Rattle.hold_told.proofs.port_bits.ranged_bit.Goals as goal

pub returns-in_default-port_wire : goal.returns-in_default-port_wire
returns-in_default-port_wire c =
    let small : c.in-Some.index < 2 ^ 64 = c.in-Some.ensures.small in
    unported-none c.args.netlist.now c.know_valid.ensures c.args.text.now c.in-Some.name.now c.in-Some.index small c.in-Some.ensures.some (λ k port. never ((c.in_default-port_wire.ensures k).0 port))

pub bounds-wires-at : goal.bounds-wires-at
bounds-wires-at c =
    let port = (c.in-Some-port_wire.ensures c.in-Some-port_wire.port).1 refl in
    let within = port-within c.args.netlist.now c.know_valid.ensures c.in-Some.name.now c.in-Some-port_wire.port port in
    read-within c.wires.result.now c.args.netlist.now.wires c.in-Some-port_wire.port c.wires.ensures within

pub bounds-wires-at-in-Some-port_wire : goal.bounds-wires-at-in-Some-port_wire
bounds-wires-at-in-Some-port_wire c =
    let port = (c.in-Some-port_wire.ensures c.in-Some-port_wire.port).1 refl in
    let within = port-within c.args.netlist.now c.know_valid.ensures c.in-Some.name.now c.in-Some-port_wire.port port in
    read-within c.wires.result.now c.args.netlist.now.wires c.in-Some-port_wire.port c.wires.ensures within

pub returns-in_default-range : goal.returns-in_default-range
returns-in_default-range c =
    let small : c.in-Some.index < 2 ^ 64 = c.in-Some.ensures.small in
    let port = (c.in-Some-port_wire.ensures c.in-Some-port_wire.port).1 refl in
    let within = port-within c.args.netlist.now c.know_valid.ensures c.in-Some.name.now c.in-Some-port_wire.port port in
    let lt = read-within c.wires.result.now c.args.netlist.now.wires c.in-Some-port_wire.port c.wires.ensures within in
    let at = item-read c.wires.result.now c.args.netlist.now.wires c.in-Some-port_wire.port c.index-wires-at.result c.wires.ensures lt in
    scalar-none c.args.netlist.now c.know_valid.ensures c.args.text.now c.in-Some.name.now c.in-Some.index small c.in-Some.ensures.some c.in-Some-port_wire.port port (get_or c.wires.result.now c.in-Some-port_wire.port c.index-wires-at.result) at c.in_default-range.is

pub index-requires : goal.index-requires
index-requires c =
    let port = (c.in-Some-port_wire.ensures c.in-Some-port_wire.port).1 refl in
    let within = port-within c.args.netlist.now c.know_valid.ensures c.in-Some.name.now c.in-Some-port_wire.port port in
    let long = length-table width_of c.args.netlist.now.wires c.args.names.now.first_bits.items c.requires.first_bits in
    omega (arith, within, long, c.args.names.now.first_bits.ok.0)

pub overflow_add-result : goal.overflow_add-result
overflow_add-result c =
    let small : c.in-Some.index < 2 ^ 64 = c.in-Some.ensures.small in
    let port = (c.in-Some-port_wire.ensures c.in-Some-port_wire.port).1 refl in
    let within = port-within c.args.netlist.now c.know_valid.ensures c.in-Some.name.now c.in-Some-port_wire.port port in
    let lt = read-within c.wires.result.now c.args.netlist.now.wires c.in-Some-port_wire.port c.wires.ensures within in
    let at = item-read c.wires.result.now c.args.netlist.now.wires c.in-Some-port_wire.port c.index-wires-at.result c.wires.ensures lt in
    let first = first-read width_of c.args.netlist.now.wires c.args.names.now.first_bits.items c.in-Some-port_wire.port c.index.result.now c.requires.first_bits (omega (arith, within)) c.index.ensures in
    let numbered = bit-numbered c.args.netlist.now c.know_valid.ensures c.args.text.now c.in-Some.name.now c.in-Some.index small c.in-Some.ensures.some c.in-Some-port_wire.port port (get_or c.wires.result.now c.in-Some-port_wire.port c.index-wires-at.result) at (c.in-Some-range.left, c.in-Some-range.right) c.in-Some-range.is c.in-Some-bit_at.bit c.index.result.now first ((c.in-Some-bit_at.ensures c.in-Some-bit_at.bit).1 refl) in
    let below : c.index.result.now + c.in-Some-bit_at.bit < bits_of c.args.netlist.now.wires = IsNumbered-below width_of c.args.netlist.now.wires _ c.in-Some-port_wire.port c.in-Some-bit_at.bit numbered in
    let few = bits-few c.args.netlist.now c.know_valid.ensures in
    omega arith

pub returns-in-Some-bit_at : goal.returns-in-Some-bit_at
returns-in-Some-bit_at c =
    let small : c.in-Some.index < 2 ^ 64 = c.in-Some.ensures.small in
    let port = (c.in-Some-port_wire.ensures c.in-Some-port_wire.port).1 refl in
    let within = port-within c.args.netlist.now c.know_valid.ensures c.in-Some.name.now c.in-Some-port_wire.port port in
    let lt = read-within c.wires.result.now c.args.netlist.now.wires c.in-Some-port_wire.port c.wires.ensures within in
    let at = item-read c.wires.result.now c.args.netlist.now.wires c.in-Some-port_wire.port c.index-wires-at.result c.wires.ensures lt in
    let first = first-read width_of c.args.netlist.now.wires c.args.names.now.first_bits.items c.in-Some-port_wire.port c.index.result.now c.requires.first_bits (omega (arith, within)) c.index.ensures in
    ranged-found c.args.netlist.now c.know_valid.ensures c.args.text.now c.in-Some.name.now c.in-Some.index small c.in-Some.ensures.some c.in-Some-port_wire.port port (get_or c.wires.result.now c.in-Some-port_wire.port c.index-wires-at.result) at (c.in-Some-range.left, c.in-Some-range.right) c.in-Some-range.is c.in-Some-bit_at.bit c.index.result.now first c.in-Some-bit_at.ensures

pub returns-in-None : goal.returns-in-None
returns-in-None c =
    let small : c.in-Some.index < 2 ^ 64 = c.in-Some.ensures.small in
    let port = (c.in-Some-port_wire.ensures c.in-Some-port_wire.port).1 refl in
    let within = port-within c.args.netlist.now c.know_valid.ensures c.in-Some.name.now c.in-Some-port_wire.port port in
    let lt = read-within c.wires.result.now c.args.netlist.now.wires c.in-Some-port_wire.port c.wires.ensures within in
    let at = item-read c.wires.result.now c.args.netlist.now.wires c.in-Some-port_wire.port c.index-wires-at.result c.wires.ensures lt in
    outside-none c.args.netlist.now c.know_valid.ensures c.args.text.now c.in-Some.name.now c.in-Some.index small c.in-Some.ensures.some c.in-Some-port_wire.port port (get_or c.wires.result.now c.in-Some-port_wire.port c.index-wires-at.result) at (c.in-Some-range.left, c.in-Some-range.right) c.in-Some-range.is (λ bit h. never ((c.in-None.ensures bit).0 h))
