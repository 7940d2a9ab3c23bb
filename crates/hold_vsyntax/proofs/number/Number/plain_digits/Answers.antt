use Rattle.std.proofs.Common.{◌∙◌, ◌^◌, ◌<◌, sym, subst, arith, List, ℕ}
use Rattle.std.specs.Prelude.{IsTrue}
use Rattle.std.specs.Char.{is_ascii_digit}
use Rattle.std.specs.List.{list_all}
use Rattle.hold_vsyntax.proofs.NumberLemmas.{decimal-digits, number_of-written}
use Rattle.hold_vsyntax.proofs.number.Number.plain_digits.Goals as goal

pub invariant_of-digits : goal.invariant_of-digits
invariant_of-digits c =
    let small : c.in-Small.n < 2 ^ 64 = omega arith in
    record {
      decimal = subst (λ (ds : List ℕ). IsTrue (list_all is_ascii_digit ds)) (sym (c.as_bytes.ensures.value ∙ c.format.ensures.text)) (decimal-digits c.in-Small.n small);
    }

pub returns-in-Small-clause-value : goal.returns-in-Small-clause-value
returns-in-Small-clause-value c =
    number_of-written _ c.in-Small.n _ c.without_zeros.result.text.now _ _ c.in-Small.is c.self.view_is (omega arith) c.without_zeros.ensures.value c.as_bytes.ensures.value c.format.ensures.text
