use Rattle.std.proofs.Common.{◌≡◌, ◌++◌, drop}
use Rattle.hold_plain.specs.Problem.{is_launch, launch_span, uses_with}
use Rattle.hold_plain.proofs.registers.launch_spans.Given as goal

abbrev pub invariant-loop-pin : goal.invariant-loop-pin
invariant-loop-pin l = l.spans.items ++ uses_with is_launch launch_span (drop l.pin-index l.uses) ≡ uses_with is_launch launch_span l.uses
