use Rattle.std.proofs.Common.{◌≡◌, ◌≤◌, drop}
use Rattle.hold_base.specs.Digits.{number_of}
use Rattle.hold_base.specs.inner.Digits.{number_from}
use Rattle.hold_vsyntax.proofs.number.small.Given as goal

abbrev pub invariant-loop-digit : goal.invariant-loop-digit
invariant-loop-digit l = record {
  rest : number_from l.number (drop l.digit-index l.digits) ≡ number_of l.digits;
  in_range : l.number ≤ 4294967295;
}
