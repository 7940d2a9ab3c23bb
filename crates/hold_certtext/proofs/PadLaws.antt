-- The words of a plan's line are read as the line, and what is read as one is spelled so.
use Rattle.std.proofs.Common.{◌≡◌, ℕ, ◌<◌, ◌≤◌, List, [], ◌∷◌, true, refl, ap, subst, ◌∙◌, arith}
use Rattle.std.specs.Prelude.{◌&&◌, Option, Some, nat_lt, nat_le, decimal}
use Rattle.std.specs.List.{AllByRecursion, list_all}
use Rattle.std.proofs.lemmas.Bool.{and_parts}
use Rattle.std.proofs.lemmas.Bool.Decides.{nat_tests}
use Rattle.hold_base.proofs.Bools.{and-true}
use Rattle.hold_base.proofs.Lists.{AllByRecursion-weaken}
use Rattle.hold_base.proofs.Options.{option_and_then-Some}
use Rattle.hold_base.specs.NameBytes.{is_printed, IsPrinted, IsName}
use Rattle.hold_base.specs.declared.plan.PlanLine.{PlanLine}
use Rattle.hold_certtext.specs.PlanText.{IsPad}
use Rattle.hold_certtext.specs.inner.Words.{is_nil}
use Rattle.hold_certtext.specs.inner.Parsing.{◌>>=◌, guard, number_in, is_name, name_in, pad_in}
use Rattle.hold_certtext.proofs.GuardLemmas.{guard-Some, guard-true}
use Rattle.hold_certtext.proofs.PartLaws.{Words, number_in-decimal, number_in-back, nil-is}
use Rattle.hold_certtext.proofs.PlainLemmas.{IsPlain, ArePlain, plain-decimal}

all-printed : (text : List ℕ) → AllByRecursion IsPrinted text → list_all is_printed text ≡ true
all-printed [] h = refl
all-printed (b ∷ bs) h =
    let low : 33 ≤ b = h.0.0 in
    let high : b ≤ 126 = h.0.1 in
    let a : nat_le 33 b ≡ true = grind (arith, nat_tests) in
    let z : nat_le b 126 ≡ true = grind (arith, nat_tests) in
    and-true (is_printed b) (list_all is_printed bs) (and-true (nat_le 33 b) (nat_le b 126) a z) (all-printed bs h.1)

printed-all : (text : List ℕ) → list_all is_printed text ≡ true → AllByRecursion IsPrinted text
printed-all [] h = tt
printed-all (b ∷ bs) h =
    let parts = and_parts (is_printed b) (list_all is_printed bs) h in
    let ends = and_parts (nat_le 33 b) (nat_le b 126) parts.0 in
    let a : nat_le 33 b ≡ true = ends.0 in
    let z : nat_le b 126 ≡ true = ends.1 in
    ((grind (arith, nat_tests), grind (arith, nat_tests)), printed-all bs parts.1)

name-test : (text : List ℕ) → IsName text → is_name text ≡ true
name-test [] h = absurd (h.some refl)
name-test (b ∷ bs) h = all-printed (b ∷ bs) h.bytes

test-name : (text : List ℕ) → is_name text ≡ true → IsName text
test-name [] h = absurd cc
test-name (b ∷ bs) h = record { some = λ e. absurd cc; bytes = printed-all (b ∷ bs) h }

name_in-words : (name : List ℕ) (words : Words) → IsName name → name_in (name ∷ words) ≡ Some (name, words)
name_in-words name words h = guard-true (is_name name) (name, words) (name-test name h)

name_in-back : (words left : Words) (name : List ℕ) → name_in words ≡ Some (name, left) → (words ≡ name ∷ left) × IsName name
name_in-back [] left name h = absurd cc
name_in-back (word ∷ words) left name h =
    let kept = guard-Some (is_name word) (word, words) (name, left) h in
    let same : word ≡ name = ap (λ (x : List ℕ × Words). x.0) kept.1 in
    let behind : words ≡ left = ap (λ (x : List ℕ × Words). x.1) kept.1 in
    (ap (λ w. w ∷ words) same ∙ ap (λ (ws : Words). name ∷ ws) behind, subst IsName same (test-name word kept.0))

abbrev pub pad_words : PlanLine → Words
pad_words line = line.inst ∷ line.pin ∷ line.kind ∷ decimal line.count ∷ []

abbrev Named : Type 0
Named = List ℕ × Words

abbrev made : ℕ → Named → Named → Named → ℕ × Words → Option PlanLine
made number inst pin kind count =
    guard (nat_lt 0 count.0 && is_nil count.1) (record { line = number; inst = inst.0; pin = pin.0; kind = kind.0; count = count.0 })

pub pad_in-words : (line : PlanLine) → IsPad line → pad_in line.line (pad_words line) ≡ Some line
pad_in-words line h =
    let last : Words = decimal line.count ∷ [] in
    let some = h.some in let most = h.most in
    let test : nat_lt 0 line.count ≡ true = grind (arith, nat_tests) in
    let inst : Named = (line.inst, line.pin ∷ line.kind ∷ last) in
    let pin : Named = (line.pin, line.kind ∷ last) in
    let kind : Named = (line.kind, last) in
    ap (λ (o : Option Named). o >>= (λ i. name_in i.1 >>= (λ p. name_in p.1 >>= (λ k. number_in 255 k.1 >>= made line.line i p k)))) (name_in-words line.inst (line.pin ∷ line.kind ∷ last) h.inst)
    ∙ ap (λ (o : Option Named). o >>= (λ p. name_in p.1 >>= (λ k. number_in 255 k.1 >>= made line.line inst p k))) (name_in-words line.pin (line.kind ∷ last) h.pin)
    ∙ ap (λ (o : Option Named). o >>= (λ k. number_in 255 k.1 >>= made line.line inst pin k)) (name_in-words line.kind last h.kind)
    ∙ ap (λ (o : Option (ℕ × Words)). o >>= made line.line inst pin kind) (number_in-decimal 255 line.count [] (omega (arith, most)) most)
    ∙ guard-true (nat_lt 0 line.count && true) line (and-true (nat_lt 0 line.count) true test refl)

pub pad_in-back : (number : ℕ) (words : Words) (line : PlanLine) → pad_in number words ≡ Some line → (words ≡ pad_words line) × IsPad line × (line.line ≡ number)
pad_in-back number words line h =
    let inst = option_and_then-Some (λ (i : Named). name_in i.1 >>= (λ p. name_in p.1 >>= (λ k. number_in 255 k.1 >>= made number i p k))) (name_in words) line h in
    let pin = option_and_then-Some (λ (p : Named). name_in p.1 >>= (λ k. number_in 255 k.1 >>= made number inst.0 p k)) (name_in inst.0.1) line inst.2 in
    let kind = option_and_then-Some (λ (k : Named). number_in 255 k.1 >>= made number inst.0 pin.0 k) (name_in pin.0.1) line pin.2 in
    let count = option_and_then-Some (made number inst.0 pin.0 kind.0) (number_in 255 kind.0.1) line kind.2 in
    let built : PlanLine = record { line = number; inst = inst.0.0; pin = pin.0.0; kind = kind.0.0; count = count.0.0 } in
    let kept = guard-Some (nat_lt 0 count.0.0 && is_nil count.0.1) built line count.2 in
    let tests = and_parts (nat_lt 0 count.0.0) (is_nil count.0.1) kept.0 in
    let positive : nat_lt 0 count.0.0 ≡ true = tests.0 in
    let some : 0 < count.0.0 = grind (arith, nat_tests) in
    let a = name_in-back words inst.0.1 inst.0.0 inst.1 in
    let b = name_in-back inst.0.1 pin.0.1 pin.0.0 pin.1 in
    let k = name_in-back pin.0.1 kind.0.1 kind.0.0 kind.1 in
    let n = number_in-back 255 kind.0.1 count.0.1 count.0.0 count.1 in
    let spelled : words ≡ pad_words built =
    a.0 ∙ ap (λ (ws : Words). inst.0.0 ∷ ws) (b.0 ∙ ap (λ (ws : Words). pin.0.0 ∷ ws) (k.0 ∙ ap (λ (ws : Words). kind.0.0 ∷ ws) (n.is ∙ ap (λ (ws : Words). decimal count.0.0 ∷ ws) (nil-is count.0.1 tests.1)))) in
    let is : IsPad built = record { inst = a.1; pin = b.1; kind = k.1; some = omega (arith, some); most = n.within } in
    subst (λ (l : PlanLine). (words ≡ pad_words l) × IsPad l × (l.line ≡ number)) kept.1 (spelled, is, refl)

plain-name : (name : List ℕ) → IsName name → IsPlain name
plain-name name h = AllByRecursion-weaken IsPrinted (λ b. 33 ≤ b) (λ b p. p.0) name h.bytes

pub plain-pad : (line : PlanLine) → IsPad line → ArePlain (pad_words line)
plain-pad line h =
    let most = h.most in
    (plain-name line.inst h.inst, (plain-name line.pin h.pin, (plain-name line.kind h.kind, (plain-decimal line.count (omega (arith, most)), tt))))
