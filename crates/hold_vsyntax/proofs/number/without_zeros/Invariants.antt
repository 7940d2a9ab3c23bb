use Rattle.std.proofs.Common.{◌≡◌, length}
use Rattle.std.specs.Prelude.{IsTrue}
use Rattle.std.specs.Char.{is_ascii_digit}
use Rattle.std.specs.List.{list_all}
use Rattle.hold_base.specs.Digits.{number_of}
use Rattle.hold_vsyntax.proofs.number.without_zeros.Given as goal

abbrev pub invariant-loop-text : goal.invariant-loop-text
invariant-loop-text l = record {
  value : number_of l.text ≡ number_of l.fn.digits.text.now;
  digits : IsTrue (list_all is_ascii_digit l.text);
}

abbrev pub decreases-loop-text : goal.decreases-loop-text
decreases-loop-text l = length l.text
