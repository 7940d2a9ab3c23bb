use Rattle.std.proofs.Common.{◌++◌, List, refl, ap, sym, ◌∙◌, get_or}
use Rattle.std.proofs.lemmas.List.{append-nil}
use Rattle.hold_netlist.specs.declared.wire.Wire.{Wire}
use Rattle.hold_netlist.proofs.PinTextLemmas.{bit_name-here, bit_name-past}
use Rattle.hold_netlist.proofs.netlist.Netlist.put_net_bit.Goals as goal

pub returns-in_ok-put_wire_bit : goal.returns-in_ok-put_wire_bit
returns-in_ok-put_wire_bit c =
    let here = c.index-wires-place.is ∙ ap (λ (ws : List Wire). get_or ws c.in-Some.place c.index-wires-place.result) c.wires.ensures in
    record { ok = c.in_ok-put_wire_bit.ensures ∙ ap (λ t. c.args.out.now.items ++ t) (sym (bit_name-here c.args.self.now.wires c.args.net.0 c.in-Some.place c.in-Some.n c.index-wires-place.result c.in-Some.ensures.found here)) }

pub returns-in_default : goal.returns-in_default
returns-in_default c =
    let past = bit_name-past c.args.self.now.wires c.args.net.0 (c.in_default.ensures.none.0 refl) in
    record { ok = sym (ap (λ t. c.args.out.now.items ++ t) past ∙ append-nil c.args.out.now.items) }
