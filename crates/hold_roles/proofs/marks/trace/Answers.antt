use Rattle.std.proofs.Common.{List, subst, sym}
use Rattle.hold_base.specs.declared.number.NetNo.{NetNo}
use Rattle.hold_roles.specs.inner.Marks.{OpensIn, drivers_in}
use Rattle.hold_roles.proofs.MarkLemmas.{settles-closed}
use Rattle.hold_roles.proofs.marks.trace.Goals as goal

pub returns-clause-marked : goal.returns-clause-marked
returns-clause-marked c = c.settle-2.ensures.marked (drivers_in c.args.slots.now)
    (settles-closed c.args.slots.now c.walk.new.marks c.in_ok-at.at.0 _ c.ending-mark.result c.in_ok-at.ensures.walked (sym c.if-is_open.ensures) c.ending-mark.ensures)
    (subst (λ (l : List NetNo). OpensIn l c.walk.new.marks) (sym c.deref-2.ensures.value) c.in_ok-at.ensures.trail)
