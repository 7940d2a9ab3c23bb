use Rattle.std.proofs.Common.{◌++◌, List, refl, ap, sym, ◌∙◌, get_or}
use Rattle.std.proofs.lemmas.List.{append-nil}
use Rattle.hold_netlist.specs.declared.wire.Wire.{Wire}
use Rattle.hold_vwrite.proofs.BitLemmas.{bit_text-here, bit_text-past}
use Rattle.hold_vwrite.proofs.bits.put_bit.Goals as goal

pub returns-in_ok-put_bit_of_wire : goal.returns-in_ok-put_bit_of_wire
returns-in_ok-put_bit_of_wire c =
    let here = c.index-wires-place.is ∙ ap (λ (ws : List Wire). get_or ws c.in-Some.place c.index-wires-place.result) c.wires.ensures in
    c.in_ok-put_bit_of_wire.ensures ∙ ap (λ t. c.args.out.now.items ++ t) (sym (bit_text-here c.args.netlist.now.wires c.args.bit.0 c.in-Some.place c.in-Some.n c.index-wires-place.result c.in-Some.ensures.found here))

pub returns-in_default : goal.returns-in_default
returns-in_default c =
    let past = bit_text-past c.args.netlist.now.wires c.args.bit.0 (c.in_default.ensures.none.0 refl) in
    sym (ap (λ t. c.args.out.now.items ++ t) past ∙ append-nil c.args.out.now.items)
