use Rattle.std.proofs.Common.{◌∙◌, ap, is_none}
use Rattle.hold_netlist.specs.NameTable.{number_of}
use Rattle.hold_netlist.proofs.DoubleLemmas.{new_name, old_name}
use Rattle.hold_netlist.proofs.doubles.see.Goals as goal

pub returns-then-branch-clause-fault : goal.returns-then-branch-clause-fault
returns-then-branch-clause-fault c =
    new_name c.args.name.now c.args.seen.now _ (c.in_ok-add.ensures.new ∙ ap (λ n. is_none (number_of n c.args.seen.now)) c.bytes.ensures) c.if-branch.true

pub returns-clause-fault : goal.returns-clause-fault
returns-clause-fault c =
    old_name c.args.name.now c.in_ok-double.double c.args.seen.now _ (c.in_ok-add.ensures.new ∙ ap (λ n. is_none (number_of n c.args.seen.now)) c.bytes.ensures) c.if-branch.false
    (c.in_ok-double.ensures ∙ c.bytes-2.ensures)
