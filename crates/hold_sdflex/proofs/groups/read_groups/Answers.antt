use Rattle.hold_sdflex.proofs.OneGroup.{one_group_of}
use Rattle.hold_sdflex.proofs.groups.read_groups.Goals as goal

pub invariant_of-result : goal.invariant_of-result
invariant_of-result c = one_group_of c.args.text.now c.in_ok-pieces.pieces.items c.in_ok-pieces.ensures.found
