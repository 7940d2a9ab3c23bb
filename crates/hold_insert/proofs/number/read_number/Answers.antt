use Rattle.std.proofs.Common.{◌≡◌, ap, sym, ◌∙◌, arith}
use Rattle.std.specs.Prelude.{decimal}
use Rattle.std.proofs.lemmas.Fmt.{parse-decimal}
use Rattle.hold_base.proofs.Bytes.{bytes_eq-apart}
use Rattle.hold_insert.proofs.NumberLemmas.{utf8-decimal}
use Rattle.hold_insert.proofs.number.read_number.Goals as goal

pub returns-in_default-clause-none : goal.returns-in_default-clause-none
returns-in_default-clause-none c = λ none n small is. c.in_default.ensures.cases.0 (utf8-decimal c.args.text.now n (omega arith) is)

pub returns-in_default-parse-clause-none : goal.returns-in_default-parse-clause-none
returns-in_default-parse-clause-none c = λ none n small is.
    c.in_default-parse.not-Ok n (parse-decimal 32 n c.in-Ok.digits.now c.parse.result small (omega arith) (c.in-Ok.ensures.cases.0 ∙ is) c.parse.ensures.value.0)

pub returns-else-eq-clause-none : goal.returns-else-eq-clause-none
returns-else-eq-clause-none c = λ none n small is.
    let parsed = parse-decimal 32 n c.in-Ok.digits.now c.parse.result small (omega arith) (c.in-Ok.ensures.cases.0 ∙ is) c.parse.ensures.value.0 in
    let number : c.in-Ok-parse.n ≡ n = cc (parsed, c.in-Ok-parse.is) in
    bytes_eq-apart c.as_bytes.result.now c.args.text.now (sym c.eq.ensures ∙ c.if-eq.false) (c.as_bytes.ensures.value ∙ c.format.ensures.text ∙ ap decimal number ∙ sym is)
