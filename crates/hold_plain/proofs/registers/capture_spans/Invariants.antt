use Rattle.std.proofs.Common.{◌≡◌, ◌++◌, drop}
use Rattle.hold_plain.specs.Problem.{is_data, clock_span, uses_with}
use Rattle.hold_plain.proofs.registers.capture_spans.Given as goal

abbrev pub invariant-loop-pin : goal.invariant-loop-pin
invariant-loop-pin l = l.spans.items ++ uses_with is_data clock_span (drop l.pin-index l.uses) ≡ uses_with is_data clock_span l.uses
