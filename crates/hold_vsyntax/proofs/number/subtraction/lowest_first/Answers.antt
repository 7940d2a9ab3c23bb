use Rattle.std.proofs.Common.{◌≡◌, ◌+◌, ◌-◌, ◌*◌, List, ℕ, map, refl, sym, ◌∙◌, subst, arith}
use Rattle.std.proofs.lemmas.List.{length-map}
use Rattle.hold_base.specs.Digits.{number_of}
use Rattle.hold_vsyntax.specs.inner.Number.{value_of}
use Rattle.hold_vsyntax.specs.inner.NumberOrder.{digits_of, horner}
use Rattle.hold_vsyntax.proofs.NumberLemmas.{number_from-zero}
use Rattle.hold_vsyntax.proofs.OrderLemmas.{number_from-horner, value_of-horner}
use Rattle.hold_vsyntax.proofs.SubtractionLemmas.{IsTaken, IsTaken-none, IsTaken-more, IsTaken-all, digit_in-small}
use Rattle.hold_vsyntax.proofs.number.subtraction.lowest_first.Goals as goal

pub loop-behind-init : goal.loop-behind-init
loop-behind-init c = record {
  taken = subst (λ (ds : List ℕ). IsTaken 0 0 ds (map (λ (d : ℕ). d - 48) c.args.greater.now) (digits_of c.args.less.now)) (sym c.in_ok-digits.ensures.items) (IsTaken-none _ _);
  small = omega arith;
}

pub tens_lent-owed-requires : goal.tens_lent-owed-requires
tens_lent-owed-requires c = omega (arith, c.digit_in-has.ensures.digit, digit_in-small c.loop-behind.behind c.args.greater.now c.requires.digits)

pub loop-behind-preserved : goal.loop-behind-preserved
loop-behind-preserved c = record {
  taken = subst (λ (ds : List ℕ). IsTaken (c.loop-behind.behind + 1) c.tens_lent-owed.result ds (map (λ (d : ℕ). d - 48) c.args.greater.now) (digits_of c.args.less.now)) (sym c.in_ok-push.ensures.items)
      (IsTaken-more c.loop-behind.behind (c.loop-behind.behind + 1) c.loop-behind.owed c.digit_in-has.result c.digit_at.result c.tens_lent-owed.result
      (48 + (c.digit_in-has.result + c.tens_lent-owed.result * 10 - (c.digit_at.result + c.loop-behind.owed))) c.loop-behind.digits.items _ _ c.loop-behind.invariant.taken refl
      c.digit_in-has.ensures.digit c.digit_at.ensures.digit c.tens_lent-owed.ensures.enough c.tens_lent-owed.ensures.tight refl);
  small = omega (arith, c.tens_lent-owed.ensures.tight, c.digit_at.ensures.small, c.loop-behind.invariant.small);
}

pub returns-clause-value : goal.returns-clause-value
returns-clause-value c =
    let has : number_of c.args.greater.now ≡ horner 0 (map (λ (d : ℕ). d - 48) c.args.greater.now) = sym (number_from-zero c.args.greater.now) ∙ number_from-horner 0 c.args.greater.now in
    let due : value_of c.args.less.now ≡ horner 0 (digits_of c.args.less.now) = value_of-horner c.args.less.now in
    let all = IsTaken-all c.loop-behind.behind c.loop-behind.owed c.loop-behind.digits.items (map (λ (d : ℕ). d - 48) c.args.greater.now) (digits_of c.args.less.now)
    c.loop-behind.invariant.taken (omega (arith, length-map c.args.greater.now (λ (d : ℕ). d - 48), c.max-count.ensures, c.loop-behind-test.false))
    (omega (arith, c.places.ensures, c.max-count.ensures, c.loop-behind-test.false)) (omega (arith, c.requires.less)) in
    omega arith
