use Rattle.std.proofs.Common.{◌≡◌, ℕ, ap, sym, ◌∙◌}
use Rattle.std.specs.Prelude.{decimal, Some}
use Rattle.std.proofs.lemmas.Fmt.{parse-decimal}
use Rattle.hold_base.proofs.Bytes.{bytes_eq-apart}
use Rattle.hold_told.proofs.IndexLemmas.{decimal-utf8}
use Rattle.hold_told.proofs.indexed.read_number.Goals as goal

pub returns-in_default-clause-each : goal.returns-in_default-clause-each
returns-in_default-clause-each c = λ n small is. absurd (c.in_default.ensures.cases.0 (decimal-utf8 c.args.text.now n small is))

pub returns-in_default-parse-clause-each : goal.returns-in_default-parse-clause-each
returns-in_default-parse-clause-each c =
    λ n small is. absurd (c.in_default-parse.not-Ok n (parse-decimal 64 n c.in-Ok.word.now c.parse.result small small (c.in-Ok.ensures.cases.0 ∙ is) c.parse.ensures.value.0))

pub returns-then-eq-clause-each : goal.returns-then-eq-clause-each
returns-then-eq-clause-each c =
    λ n small is.
    let parsed = parse-decimal 64 n c.in-Ok.word.now c.parse.result small small (c.in-Ok.ensures.cases.0 ∙ is) c.parse.ensures.value.0 in
    let number : c.in-Ok-parse.n ≡ n = cc (parsed, c.in-Ok-parse.is) in
    ap (λ (m : ℕ). Some m) number

pub returns-else-eq-clause-each : goal.returns-else-eq-clause-each
returns-else-eq-clause-each c =
    λ n small is.
    let parsed = parse-decimal 64 n c.in-Ok.word.now c.parse.result small small (c.in-Ok.ensures.cases.0 ∙ is) c.parse.ensures.value.0 in
    let number : c.in-Ok-parse.n ≡ n = cc (parsed, c.in-Ok-parse.is) in
    absurd (bytes_eq-apart c.as_bytes.result.now c.args.text.now (sym c.eq.ensures ∙ c.if-eq.false) (c.as_bytes.ensures.value ∙ c.format.ensures.text ∙ ap decimal number ∙ sym is))
