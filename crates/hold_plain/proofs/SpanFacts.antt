-- The times of a pin are within the limits where all that is known of it is; a time that isn't known is 0.
use Rattle.std.proofs.Common.{arith}
use Rattle.std.specs.Prelude.{Option, Some, None}
use Rattle.std.proofs.lemmas.Int.{ints}
use Rattle.hold_base.specs.declared.time.Interval.{Interval}
use Rattle.hold_graph.specs.Problem.{IsSpan, IsWithin}
use Rattle.hold_base.specs.Limits.{time_limit, launch_limit}
use Rattle.hold_plain.specs.declared.cell.Check.{Check}
use Rattle.hold_plain.specs.declared.pin_use.PinUse.{PinUse}
use Rattle.hold_plain.specs.declared.pin_use.PinRole.{PinRole}
use Rattle.hold_plain.specs.declared.pin_use.PinRole.TheVariants.{Input, Output, Clock, Data, Launch, InPort, OutPort, Stray}
use Rattle.hold_plain.specs.inner.Limits.{IsTimed}
use Rattle.hold_plain.specs.Limits.{IfKnown, IsCheckInLimit}
use Rattle.hold_plain.specs.Problem.{zero_span, known_or, step_as, step_span, sum_of, clock_span, launch_span, no_check, setup_of, hold_of}

zero_within : IsSpan time_limit zero_span
zero_within = record {
  ordered = omega (arith, ints);
  least = record { low = omega (arith, ints); high = omega (arith, ints) };
  greatest = record { low = omega (arith, ints); high = omega (arith, ints) };
}

known_within : (o : Option Interval) → IfKnown (IsSpan time_limit) o → IsSpan time_limit (known_or zero_span o)
known_within None known = zero_within
known_within (Some span) known = known

step_within : (role : PinRole) (u : PinUse) → IsTimed u → IsSpan time_limit (step_as role u)
step_within Input u timed = zero_within
step_within Output u timed = known_within u.delay timed.delay
step_within Clock u timed = zero_within
step_within Data u timed = zero_within
step_within Launch u timed = zero_within
step_within InPort u timed = zero_within
step_within OutPort u timed = zero_within
step_within Stray u timed = zero_within

pub step_span_within : (u : PinUse) → IsTimed u → IsSpan time_limit (step_span u)
step_span_within u timed = step_within u.role u timed

pub clock_span_within : (u : PinUse) → IsTimed u → IsSpan time_limit (clock_span u)
clock_span_within u timed = known_within u.arrival timed.arrival

pub delay_within : (u : PinUse) → IsTimed u → IsSpan time_limit (known_or zero_span u.delay)
delay_within u timed = known_within u.delay timed.delay

sum_within : (a b : Interval) → IsSpan time_limit a → IsSpan time_limit b → IsSpan launch_limit (sum_of a b)
sum_within a b first second = record {
  ordered = let x = first.ordered in let y = second.ordered in omega (arith, ints);
  least = record { low = omega (arith, ints); high = omega (arith, ints) };
  greatest = record { low = omega (arith, ints); high = omega (arith, ints) };
}

pub launch_span_within : (u : PinUse) → IsTimed u → IsSpan launch_limit (launch_span u)
launch_span_within u timed = sum_within (clock_span u) (known_or zero_span u.delay) (clock_span_within u timed) (delay_within u timed)

check_within : (o : Option Check) → IfKnown IsCheckInLimit o → IsCheckInLimit (known_or no_check o)
check_within None known = record {
  setup = record { low = omega (arith, ints); high = omega (arith, ints) };
  hold = record { low = omega (arith, ints); high = omega (arith, ints) };
}
check_within (Some check) known = known

pub setup_of_within : (u : PinUse) → IsTimed u → IsWithin time_limit (setup_of u)
setup_of_within u timed = (check_within u.check timed.check).setup

pub hold_of_within : (u : PinUse) → IsTimed u → IsWithin time_limit (hold_of u)
hold_of_within u timed = (check_within u.check timed.check).hold
