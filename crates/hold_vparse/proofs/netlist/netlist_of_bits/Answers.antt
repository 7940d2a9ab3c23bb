use Rattle.std.proofs.Common.{◌∙◌}
use Rattle.hold_vparse.specs.inner.Flat.{targets, seen_instances}
use Rattle.hold_vparse.proofs.DesignLemmas.{assigns_fit, insts_fit}
use Rattle.hold_vparse.proofs.netlist.netlist_of_bits.Goals as goal

pub inst_list-requires : goal.inst_list-requires
inst_list-requires c =
    insts_fit c.args.parts.now.tree.now c.requires.clear c.deref-2.result.now (seen_instances c.args.parts.now.instances.now) (c.deref-2.ensures.value ∙ c.requires.wires) c.args.parts.now.all_instances

pub has_too_many_assigns-requires : goal.has_too_many_assigns-requires
has_too_many_assigns-requires c =
    assigns_fit c.args.parts.now.tree.now c.requires.clear c.deref-2.result.now (targets c.args.parts.now.assignments.now) (c.deref-2.ensures.value ∙ c.requires.wires) c.args.parts.now.all_assignments

pub assign_list-requires : goal.assign_list-requires
assign_list-requires c =
    assigns_fit c.args.parts.now.tree.now c.requires.clear c.deref-2.result.now (targets c.args.parts.now.assignments.now) (c.deref-2.ensures.value ∙ c.requires.wires) c.args.parts.now.all_assignments
