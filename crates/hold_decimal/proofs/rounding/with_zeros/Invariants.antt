use Rattle.std.proofs.Common.{◌+◌, ◌≡◌, ◌*◌, ◌^◌, ◌≤◌, min}
use Rattle.hold_base.specs.Limits.{time_limit}
use Rattle.hold_decimal.proofs.rounding.with_zeros.Given as goal

abbrev pub invariant-loop-zero : goal.invariant-loop-zero
invariant-loop-zero l = (l.count ≤ time_limit + 1) × (l.count ≡ min (l.initial.count * 10 ^ l._zero) (time_limit + 1))
