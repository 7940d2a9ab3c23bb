use Rattle.std.proofs.Common.{◌<◌, List, refl, subst, sym}
use Rattle.std.specs.List.{count_by}
use Rattle.hold_roles.specs.declared.marks.Mark.{Mark}
use Rattle.hold_roles.specs.declared.marks.Mark.TheVariants.{New, Open}
use Rattle.hold_roles.proofs.MarkLemmas.{IsWalking, count-set, is_new, walking-end, walking-start, walking-start_known, walking-step}
use Rattle.hold_roles.proofs.marks.walk.Goals as goal

pub loop-next-init : goal.loop-next-init
loop-next-init c = walking-start c.args.slots.now c.args.marks.now c.args.trail.now.items c.args.start.0 c.requires.marked c.requires.each c.requires.start c.requires.clear

pub loop-next-smaller : goal.loop-next-smaller
loop-next-smaller c = subst (λ (marks : List Mark). count_by is_new marks < count_by is_new c.loop-next.marks) (sym c.set.ensures)
    (count-set is_new c.loop-next.marks c.loop-next.at.0 New Open c.in-Some.ensures.some.0 refl refl)

pub loop-next-preserved : goal.loop-next-preserved
loop-next-preserved c = subst (λ (marks : List Mark). IsWalking c.args.slots.now c.args.marks.now marks c.push.new.self.items c.args.start.0 c.in-Some.next.0) (sym c.set.ensures)
    (walking-step c.args.slots.now c.args.marks.now c.loop-next.marks c.loop-next.trail.items c.push.new.self.items c.args.start.0 c.loop-next.at c.in-Some.next
    c.requires.links c.loop-next.invariant c.in-Some.ensures.some.0 c.in-Some.ensures.some.1 c.in_ok-push.ensures.items)

pub returns-clause-walked : goal.returns-clause-walked
returns-clause-walked c = walking-end c.args.slots.now c.args.marks.now c.loop-next.marks c.loop-next.trail.items c.args.start.0 c.loop-next.at.0 c.loop-next.invariant c.in_default.ensures.none

pub returns-clause-start : goal.returns-clause-start
returns-clause-start c =
    let walked = walking-end c.args.slots.now c.args.marks.now c.loop-next.marks c.loop-next.trail.items c.args.start.0 c.loop-next.at.0 c.loop-next.invariant c.in_default.ensures.none in
    walking-start_known c.args.slots.now c.args.marks.now c.loop-next.marks c.loop-next.trail.items c.args.start.0 c.loop-next.at.0 c.loop-next.invariant walked.stopped
