use Rattle.std.proofs.Common.{◌≡◌, ◌<◌, ap, sym, ◌∙◌, rules}
use Rattle.std.specs.Prelude.{◌^◌, decimal}
use Rattle.std.proofs.lemmas.Fmt.{parse-decimal}
use Rattle.hold_base.proofs.Bytes.{bytes_eq-apart}
use Rattle.hold_certtext.proofs.NumberLemmas.{read_number-never, read_number-text, utf8-decimal}
use Rattle.hold_certtext.proofs.number.read_number.Goals as goal

pub returns-in_default : goal.returns-in_default
returns-in_default c = read_number-never c.args.word.now (λ n small is. c.in_default.ensures.cases.0 (utf8-decimal c.args.word.now n small is))

pub returns-in_default-parse : goal.returns-in_default-parse
returns-in_default-parse c = read_number-never c.args.word.now
    (λ n small is. c.in_default-parse.not-Ok n (parse-decimal 64 n c.in-Ok.text.now c.parse.result small small (c.in-Ok.ensures.cases.0 ∙ is) c.parse.ensures.value.0))

pub returns-then-eq : goal.returns-then-eq
returns-then-eq c =
    let same : c.as_bytes.result.now ≡ c.args.word.now = search rules in
    let small : c.in-Ok-parse.n < 2 ^ 64 = search rules in
    read_number-text c.args.word.now c.as_bytes.result.now c.in-Ok-parse.n small (c.as_bytes.ensures.value ∙ c.format.ensures.text) same

pub returns-else-eq : goal.returns-else-eq
returns-else-eq c = read_number-never c.args.word.now
    (λ n small is.
    let parsed = parse-decimal 64 n c.in-Ok.text.now c.parse.result small small (c.in-Ok.ensures.cases.0 ∙ is) c.parse.ensures.value.0 in
    let number : c.in-Ok-parse.n ≡ n = cc (parsed, c.in-Ok-parse.is) in
    bytes_eq-apart c.as_bytes.result.now c.args.word.now (sym c.eq.ensures ∙ c.if-eq.false) (c.as_bytes.ensures.value ∙ c.format.ensures.text ∙ ap decimal number ∙ sym is))
