use Rattle.std.proofs.Common.{◌<◌, List, arith, refl, subst, sym}
use Rattle.std.specs.List.{count_by}
use Rattle.hold_roles.specs.declared.marks.Mark.{Mark}
use Rattle.hold_roles.specs.declared.marks.Mark.TheVariants.{Open, Ring}
use Rattle.hold_roles.specs.inner.Marks.{is_open}
use Rattle.hold_roles.proofs.MarkLemmas.{IsRinging, closing-end, count-set, ringing-start, ringing-step, ringing-within}
use Rattle.hold_roles.proofs.marks.mark_ring.Goals as goal

pub loop-next-init : goal.loop-next-init
loop-next-init c = ringing-start c.args.slots.now c.args.marks.now c.args.start.0 c.requires.walked c.requires.open c.requires.each

pub onward_if_open-requires-clause-slot : goal.onward_if_open-requires-clause-slot
onward_if_open-requires-clause-slot c =
    omega (arith, ringing-within c.args.slots.now c.args.marks.now c.loop-next.marks c.args.start.0 c.loop-next.at.0 c.loop-next.invariant, c.loop-next.invariant.each)

pub onward_if_open-requires-clause-mark : goal.onward_if_open-requires-clause-mark
onward_if_open-requires-clause-mark c = ringing-within c.args.slots.now c.args.marks.now c.loop-next.marks c.args.start.0 c.loop-next.at.0 c.loop-next.invariant

pub loop-next-smaller : goal.loop-next-smaller
loop-next-smaller c = subst (λ (marks : List Mark). count_by is_open marks < count_by is_open c.loop-next.marks) (sym c.set.ensures)
    (count-set is_open c.loop-next.marks c.loop-next.at.0 Open Ring c.in-Some.ensures.some.0 refl refl)

pub loop-next-preserved : goal.loop-next-preserved
loop-next-preserved c = subst (λ (marks : List Mark). IsRinging c.args.slots.now c.args.marks.now marks c.args.start.0 c.in-Some.next.0) (sym c.set.ensures)
    (ringing-step c.args.slots.now c.args.marks.now c.loop-next.marks c.args.start.0 c.loop-next.at.0 c.in-Some.next.0 c.loop-next.invariant c.in-Some.ensures.some.0 c.in-Some.ensures.some.1)

pub returns-clause-settles : goal.returns-clause-settles
returns-clause-settles c = closing-end c.args.slots.now c.loop-next.marks c.args.start.0 c.loop-next.at.0 c.loop-next.invariant.closing c.in_default.ensures.none
