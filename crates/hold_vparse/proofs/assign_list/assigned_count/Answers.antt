use Rattle.std.proofs.Common.{ap, sym, ◌∙◌, length, map}
use Rattle.std.specs.List.{range_with_len}
use Rattle.hold_vparse.specs.Declares.{part_bits, sources, tied_bits, net_bit}
use Rattle.hold_vparse.proofs.NetlistLemmas.{length-tied_bits}
use Rattle.hold_vparse.proofs.assign_list.assigned_count.Goals as goal

pub returns-in-Net-clause-count : goal.returns-in-Net-clause-count
returns-in-Net-clause-count c =
    c.min.ensures ∙ sym (length-tied_bits c.part-left.result.first c.part-left.result.count c.part-right.result.first c.part-right.result.count)
    ∙ ap (λ bits. length (tied_bits bits (map net_bit (range_with_len c.part-right.result.first c.part-right.result.count)))) c.part-left.ensures.bits
    ∙ ap (λ bits. length (tied_bits (part_bits c.args.layout.now.wires.now c.args.assignment.now.left) (map net_bit bits))) c.part-right.ensures.bits
    ∙ ap (λ r. length (tied_bits (part_bits c.args.layout.now.wires.now c.args.assignment.now.left) (sources c.args.layout.now.wires.now r))) (sym c.in-Net.is)
