use Rattle.std.proofs.Common.{ap, sym, ◌∙◌}
use Rattle.hold_vparse.specs.BitFaults.{misfit_left, misfit_right}
use Rattle.hold_vparse.specs.inner.Found.{merged, found_ident}
use Rattle.hold_vparse.specs.Soonest.{soonest}
use Rattle.hold_vparse.proofs.SoonestLemmas.{soonest-append}
use Rattle.hold_vparse.proofs.bit_faults.misfit_of_assignment.Goals as goal

pub returns : goal.returns
returns c =
    c.soonest_of.ensures ∙ ap (λ o. merged o (found_ident c.misfit_of_right.result)) c.misfit_of_left.ensures
    ∙ ap (merged (soonest (misfit_left c.args.nets.now.nets.now c.args.assignment.now))) c.misfit_of_right.ensures
    ∙ sym (soonest-append (misfit_left c.args.nets.now.nets.now c.args.assignment.now) (misfit_right c.args.nets.now.nets.now c.args.assignment.now.right))
