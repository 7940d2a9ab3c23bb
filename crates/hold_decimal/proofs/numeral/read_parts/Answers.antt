use Rattle.std.proofs.Common.{◌+◌, ◌≤◌, length, ap, ◌∙◌, sym, subst, arith}
use Rattle.std.proofs.lemmas.Bool.{eqb-true, eqb-false}
use Rattle.std.proofs.lemmas.List.{nil_from_length}
use Rattle.hold_decimal.specs.Numeral.{IsExponent}
use Rattle.hold_decimal.specs.inner.Reading.{front_digits, after_digits, part_of, after_part}
use Rattle.hold_decimal.proofs.Cuts.{no_digits, no_exponent, spelled-reading}
use Rattle.hold_decimal.proofs.numeral.read_parts.Goals as goal
use Rattle.hold_decimal.proofs.numeral.read_parts.Goals.{else-is_empty-via-then-is_empty+else-is_empty-2, else-is_empty-via-else-is_empty}

-- no digits were cut out, and so no number has any
pub returns-then-is_empty-2-clause-none : goal.returns-then-is_empty-2-clause-none
returns-then-is_empty-2-clause-none c =
    let whole = c.split_digits.ensures.digits ∙ ap front_digits c.skip_sign-unsigned.ensures in
    let after = c.split_digits.ensures.rest ∙ ap after_digits c.skip_sign-unsigned.ensures in
    let part = c.split_part.ensures.part ∙ ap part_of after in
    no_digits c.args.text.now
    (sym whole ∙ nil_from_length c.split_digits.result.0.now (eqb-true _ _ (sym c.if-is_empty.ensures)))
    (sym part ∙ nil_from_length c.split_part.result.0.now (eqb-true _ _ (sym c.if-is_empty-2.ensures)))

-- what was left is no exponent, and so no number has one
pub returns-in_default-clause-none : goal.returns-in_default-clause-none
returns-in_default-clause-none c =
    let after = c.split_digits.ensures.rest ∙ ap after_digits c.skip_sign-unsigned.ensures in
    let rest = c.split_part.ensures.rest ∙ ap after_part after in
    no_exponent c.args.text.now (λ raise lower e. c.in_default.ensures.none raise lower (subst (λ t. IsExponent t raise lower) (sym rest) e))

-- the parts that were cut out are a number's
pub returns-clause-spelled : goal.returns-clause-spelled
returns-clause-spelled c =
    let whole = c.split_digits.ensures.digits ∙ ap front_digits c.skip_sign-unsigned.ensures in
    let after = c.split_digits.ensures.rest ∙ ap after_digits c.skip_sign-unsigned.ensures in
    let part = c.split_part.ensures.part ∙ ap part_of after in
    let rest = c.split_part.ensures.rest ∙ ap after_part after in
    let some : 1 ≤ length c.split_digits.result.0.now + length c.split_part.result.0.now =
    elim c.else-is_empty.branch [
      | else-is_empty-via-then-is_empty+else-is_empty-2 w ↦ omega (arith, eqb-false _ _ (sym w.if-is_empty-2.ensures))
      | else-is_empty-via-else-is_empty w ↦ omega (arith, eqb-false _ _ (sym w.if-is_empty.ensures))
    ]
    in
    spelled-reading c.args.text.now _ (record {
      negative = c.is_negative.ensures;
      whole = whole;
      part = part;
      powered = subst (λ t. IsExponent t c.in-Some.power.raise c.in-Some.power.lower) rest c.in-Some.ensures.some;
    }) some
