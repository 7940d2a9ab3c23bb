use Rattle.std.proofs.Common.{sym, subst}
use Rattle.hold_decimal.specs.Numeral.{AllDigits}
use Rattle.hold_decimal.proofs.Digits.{AllDigits-take, AllDigits-drop}
use Rattle.hold_decimal.proofs.rounding.cut_off.Goals as goal

-- parts of digits are digits
pub returns-clause-whole : goal.returns-clause-whole
returns-clause-whole c = subst AllDigits (sym c.split_at.ensures.front) (AllDigits-take _ _ c.requires.whole_digits)

pub returns-clause-part : goal.returns-clause-part
returns-clause-part c = subst AllDigits (sym c.split_at-2.ensures.front) (AllDigits-take _ _ c.requires.part_digits)

pub returns-clause-lost_whole : goal.returns-clause-lost_whole
returns-clause-lost_whole c = subst AllDigits (sym c.split_at.ensures.back) (AllDigits-drop _ _ c.requires.whole_digits)

pub returns-clause-lost_part : goal.returns-clause-lost_part
returns-clause-lost_part c = subst AllDigits (sym c.split_at-2.ensures.back) (AllDigits-drop _ _ c.requires.part_digits)
