use Rattle.std.proofs.Common.{◌++◌, take, length, ap, sym, ◌∙◌, arith}
use Rattle.std.proofs.lemmas.List.{append-nil}
use Rattle.hold_netlist.proofs.PinTextLemmas.{bit_name-first, bit_name-past}
use Rattle.hold_netlist.proofs.netlist.Netlist.put_port_bit.Goals as goal

pub returns-in_ok-put_net_bit : goal.returns-in_ok-put_net_bit
returns-in_ok-put_net_bit c =
    c.in_ok-put_net_bit.ensures.ok ∙ ap (λ t. c.args.out.now.items ++ t) (sym (bit_name-first c.args.self.now.wires (length c.args.self.now.ports) c.args.bit (omega (arith, c.if-bit-port_bits.true, c.port_bits.ensures))))

pub returns-else-bit-port_bits : goal.returns-else-bit-port_bits
returns-else-bit-port_bits c =
    let past = bit_name-past (take (length c.args.self.now.ports) c.args.self.now.wires) c.args.bit (omega (arith, c.if-bit-port_bits.false, c.port_bits.ensures)) in
    sym (ap (λ t. c.args.out.now.items ++ t) past ∙ append-nil c.args.out.now.items)
