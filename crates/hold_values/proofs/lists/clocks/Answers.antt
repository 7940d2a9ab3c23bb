use Rattle.std.specs.Prelude.{Option}
use Rattle.hold_base.specs.declared.number.PinNo.{PinNo}
use Rattle.hold_base.specs.declared.time.Interval.{Interval}
use Rattle.hold_values.specs.Given.{IfAny, IsGivenClock}
use Rattle.hold_values.proofs.ListLemmas.{values-more}
use Rattle.hold_values.proofs.lists.clocks.Goals as goal

pub loop-pin-preserved : goal.loop-pin-preserved
loop-pin-preserved c =
    rw (c.in_ok-push.ensures.items)
    (values-more (λ (pin : PinNo) (span : Option Interval). IfAny (IsGivenClock c.args.bound.now c.args.job.now c.args.corner.0 pin) span) c.args.pins.now c.loop-pin.pin-index _ c.loop-pin.clocks.items c.clock_at.result
    c.loop-pin-test.true c.loop-pin.invariant c.clock_at.ensures)
