use Rattle.std.proofs.Common.{◌-◌, ◌≤◌, map}
use Rattle.hold_vsyntax.specs.inner.NumberOrder.{digits_of}
use Rattle.hold_vsyntax.proofs.SubtractionLemmas.{IsTaken}
use Rattle.hold_vsyntax.proofs.number.subtraction.lowest_first.Given as goal

-- the places so far are taken, and the next one owes what is small
abbrev pub invariant-loop-behind : goal.invariant-loop-behind
invariant-loop-behind l = record {
  taken : IsTaken l.behind l.owed l.digits.items (map (λ d. d - 48) l.greater) (digits_of l.less);
  small : l.owed ≤ 4294967296;
}
