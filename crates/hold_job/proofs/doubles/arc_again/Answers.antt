use Rattle.hold_job.proofs.Again.{ends_old, ends_new}
use Rattle.hold_job.proofs.doubles.arc_again.Goals as goal

pub returns-then-not-branch : goal.returns-then-not-branch
returns-then-not-branch c =
    ends_old c.args.arcs.now c.loop-place.place c.index-arcs-place.result c.loop-place.seen.keys c.in_ok-ends_of.field-0 c.in_ok-insert.field-0
    c.loop-place-test.true c.index-arcs-place.is c.in_ok-ends_of.ensures c.in_ok-insert.ensures.added c.if-not-branch.true
    c.loop-place.invariant.count c.loop-place.invariant.rest

pub loop-place-preserved : goal.loop-place-preserved
loop-place-preserved c =
    let next = ends_new c.args.arcs.now c.loop-place.place c.index-arcs-place.result c.loop-place.seen.keys c.insert.new.self.keys c.in_ok-ends_of.field-0 c.in_ok-insert.field-0
    c.loop-place-test.true c.index-arcs-place.is c.in_ok-ends_of.ensures c.in_ok-insert.ensures.added c.if-not-branch.false c.in_ok-insert.ensures.keys
    c.loop-place.invariant.count c.loop-place.invariant.rest in
    record { rest = next.rest; count = next.count }
