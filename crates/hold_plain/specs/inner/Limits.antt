-- IsTimed u: the delay, the check and the arrival of a pin, where it has them, are within the limit of 10 us, and spans have their ends in order.
use Rattle.hold_graph.specs.Problem.{IsSpan}
use Rattle.hold_base.specs.Limits.{time_limit}
use Rattle.hold_plain.specs.declared.pin_use.PinUse.{PinUse}
use Rattle.hold_plain.specs.Limits.{IfKnown, IsCheckInLimit}

pub record IsTimed (u : PinUse) : Type 0 where
  pub delay : IfKnown (IsSpan time_limit) u.delay
  pub check : IfKnown IsCheckInLimit u.check
  pub arrival : IfKnown (IsSpan time_limit) u.arrival
