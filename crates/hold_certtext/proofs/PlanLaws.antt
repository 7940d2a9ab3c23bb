-- What was read of a plan spells the lines that were taken; the lines of a plan are taken one by one; a text has one reading.
use Rattle.std.proofs.Common.{◌≡◌, ◌≢◌, ℕ, ◌+◌, ◌*◌, ◌≤◌, List, [], ◌∷◌, ◌++◌, Bool, true, false, cond, length, map, refl, sym, ap, subst, ◌∙◌, arith, append_assoc, append-nil}
use Rattle.std.specs.Prelude.{◌&&◌, Option, None, Some, option_and_then, codes, Result, Ok, Err, IfOk}
use Rattle.std.specs.List.{AllByRecursion}
use Rattle.std.specs.Str.{bytes_eq}
use Rattle.std.proofs.lemmas.Bool.{and_parts}
use Rattle.std.proofs.lemmas.List.{map-append, length-append, length-map}
use Rattle.std.proofs.lemmas.Option.{none-some, same_Some}
use Rattle.hold_base.proofs.Bytes.{bytes_eq-same}
use Rattle.hold_base.proofs.Lists.{AllByRecursion-append, AllByRecursion-map, AllByRecursion-weaken}
use Rattle.hold_base.proofs.Options.{option_and_then-Some}
use Rattle.hold_base.specs.Answers.{Answers, IfFault}
use Rattle.hold_base.specs.declared.plan.PlanFault.{PlanFault}
use Rattle.hold_base.specs.declared.plan.PlanFault.TheVariants.{Line, NoSite, Doubled, TooMany}
use Rattle.hold_base.specs.declared.plan.PlanLine.{PlanLine}
use Rattle.hold_base.specs.declared.stop.Stop.{Stop}
use Rattle.hold_base.specs.declared.stop.Stop.TheVariants.{Memory, Fault}
use Rattle.hold_certtext.specs.Lines.{spaced, IsLine, ended, text_of, Begins, IsFirstBad}
use Rattle.hold_certtext.specs.PlanText.{plan_head_line, plan_end_line, pad_line, plan_lines, AreNumbered, IsPad, IsPlanOf, IsPlan, IsPlanFaultOf}
use Rattle.hold_certtext.specs.declared.plan_draft.PlanStage.{PlanStage}
use Rattle.hold_certtext.specs.declared.plan_draft.PlanStage.TheVariants.{Head, Pads, Whole}
use Rattle.hold_certtext.specs.inner.Parsing.{◌>>=◌, guard, pad_in}
use Rattle.hold_certtext.specs.inner.PlanReading.{PlanSoFar, plan_start, head_in, add_pad, pad_or_end, plan_fill, plan_step}
use Rattle.hold_certtext.specs.inner.Words.{words_of, is_word, takes}
use Rattle.hold_certtext.proofs.GuardLemmas.{guard-Some}
use Rattle.hold_certtext.proofs.LoopLemmas.{chosen}
use Rattle.hold_certtext.proofs.MachineLemmas.{run, run-append, run-push, Accepts, AreLines, IsStuck, text_of-same, text_of-push, text_of-long, first_bad-one, stuck-first_bad, stuck-line, stuck-unended, stuck-behind}
use Rattle.hold_certtext.proofs.PadLaws.{pad_words, pad_in-words, pad_in-back, plain-pad}
use Rattle.hold_certtext.proofs.PartLaws.{Words, is_word-back}
use Rattle.hold_certtext.proofs.PlainLemmas.{plain-test, words_of-spaced, spaced-words_of, spaced-line}

abbrev Lines : Type 0
Lines = List (List ℕ)

AreNumbered-push : (number : ℕ) (lines : List PlanLine) (line : PlanLine) → AreNumbered number lines → line.line ≡ number + length lines → AreNumbered number (lines ++ line ∷ [])
AreNumbered-push number [] line h is = (omega (arith, is), tt)
AreNumbered-push number (first ∷ lines) line h is = (h.0, AreNumbered-push (number + 1) lines line h.1 (omega (arith, is)))

abbrev lines_at : PlanStage → List PlanLine → Lines
lines_at Head lines = []
lines_at Pads lines = plan_head_line ∷ map pad_line lines
lines_at Whole lines = plan_head_line ∷ (map pad_line lines ++ plan_end_line ∷ [])

abbrev NoneAt : PlanStage → List PlanLine → Type 0
NoneAt Head lines = lines ≡ []
NoneAt Pads lines = Unit {0}
NoneAt Whole lines = Unit {0}

pub record PlanReads (s : PlanSoFar) (lines : Lines) : Type 0 where
  are : lines_at s.stage s.lines ≡ lines
  none : NoneAt s.stage s.lines
  numbered : AreNumbered 2 s.lines
  pads : AllByRecursion IsPad s.lines

took-word : (word : List ℕ) (words : Words) → (takes word words).0 ≡ true → words ≡ word ∷ (takes word words).1
took-word word [] h = absurd cc
took-word word (first ∷ words) h = by (bytes_eq first word) refl h
  where
    by : (t : Bool) → bytes_eq first word ≡ t → (chosen t words (first ∷ words)).0 ≡ true → first ∷ words ≡ word ∷ (chosen t words (first ∷ words)).1
    by true is e = ap (λ w. w ∷ words) (bytes_eq-same first word is)
    by false is e = absurd cc

left-words : (word : List ℕ) (words : Words) → (takes word words).0 ≡ false → (takes word words).1 ≡ words
left-words word [] h = refl
left-words word (first ∷ words) h = by (bytes_eq first word) h
  where
    by : (t : Bool) → (chosen t words (first ∷ words)).0 ≡ false → (chosen t words (first ∷ words)).1 ≡ first ∷ words
    by true e = absurd cc
    by false e = refl

line-same : (whole before lines : Lines) (line spelled : List ℕ) → whole ≡ before ++ spelled ∷ [] → before ≡ lines → line ≡ spelled → whole ≡ lines ++ line ∷ []
line-same whole before lines line spelled is same spell =
    is ∙ ap (λ (ls : Lines). ls ++ spelled ∷ []) same ∙ ap (λ (l : List ℕ). lines ++ l ∷ []) (sym spell)

head-reads : (lines : List PlanLine) (next : PlanSoFar) (before : Lines) (line : List ℕ) (words : Words) → line ≡ spaced words → [] ≡ before → lines ≡ []
    → head_in lines (takes (codes "hold-plan") words) ≡ Some next → PlanReads next (before ++ line ∷ [])
head-reads lines next before line words is are none h =
    let taken = takes (codes "hold-plan") words in
    let kept = guard-Some (taken.0 && is_word (codes "1") taken.1) (record { stage = Pads; lines = lines }) next h in
    let tests = and_parts taken.0 (is_word (codes "1") taken.1) kept.0 in
    let all : words ≡ codes "hold-plan" ∷ codes "1" ∷ [] = took-word (codes "hold-plan") words tests.0 ∙ ap (λ (ws : Words). codes "hold-plan" ∷ ws) (is_word-back (codes "1") taken.1 tests.1) in
    let state : PlanSoFar = record { stage = Pads; lines = [] } in
    subst (λ (s : PlanSoFar). PlanReads s (before ++ line ∷ [])) (ap (λ (ls : List PlanLine). record { stage = Pads; lines = ls }) (sym none) ∙ kept.1)
    (let made : PlanReads state (before ++ line ∷ []) = record {
      are = line-same (plan_head_line ∷ []) [] before line plan_head_line refl are (is ∙ ap spaced all);
      none = tt;
      numbered = tt;
      pads = tt;
    } in made)

pad-reads : (lines : List PlanLine) (next : PlanSoFar) (before : Lines) (line : List ℕ) (words : Words) → line ≡ spaced (codes "pad" ∷ words) → plan_head_line ∷ map pad_line lines ≡ before
    → AreNumbered 2 lines → AllByRecursion IsPad lines → add_pad lines words ≡ Some next → PlanReads next (before ++ line ∷ [])
pad-reads lines next before line words is are numbered pads h =
    let pad = option_and_then-Some (λ (p : PlanLine). Some (record { stage = Pads; lines = lines ++ p ∷ [] })) (pad_in (length lines + 2) words) next h in
    let back = pad_in-back (length lines + 2) words pad.0 pad.1 in
    let state : PlanSoFar = record { stage = Pads; lines = lines ++ pad.0 ∷ [] } in
    let number = back.2 in
    subst (λ (s : PlanSoFar). PlanReads s (before ++ line ∷ [])) (same_Some state next pad.2)
    (let made : PlanReads state (before ++ line ∷ []) = record {
      are = line-same (plan_head_line ∷ map pad_line (lines ++ pad.0 ∷ [])) (plan_head_line ∷ map pad_line lines) before line (pad_line pad.0)
          (ap (λ (ls : Lines). plan_head_line ∷ ls) (map-append pad_line lines (pad.0 ∷ []))) are (is ∙ ap (λ (ws : Words). spaced (codes "pad" ∷ ws)) back.0);
      none = tt;
      numbered = AreNumbered-push 2 lines pad.0 numbered (omega (arith, number));
      pads = AllByRecursion-append IsPad lines (pad.0 ∷ []) pads (back.1, tt);
    } in made)

end-reads : (lines : List PlanLine) (next : PlanSoFar) (before : Lines) (line : List ℕ) (words : Words) → line ≡ spaced words → plan_head_line ∷ map pad_line lines ≡ before
    → AreNumbered 2 lines → AllByRecursion IsPad lines → guard (is_word (codes "end") words) (record { stage = Whole; lines = lines }) ≡ Some next
    → PlanReads next (before ++ line ∷ [])
end-reads lines next before line words is are numbered pads h =
    let state : PlanSoFar = record { stage = Whole; lines = lines } in
    let kept = guard-Some (is_word (codes "end") words) state next h in
    subst (λ (s : PlanSoFar). PlanReads s (before ++ line ∷ [])) kept.1
    (let made : PlanReads state (before ++ line ∷ []) = record {
      are = line-same (plan_head_line ∷ (map pad_line lines ++ plan_end_line ∷ [])) (plan_head_line ∷ map pad_line lines) before line plan_end_line refl are
          (is ∙ ap spaced (is_word-back (codes "end") words kept.0));
      none = tt;
      numbered = numbered;
      pads = pads;
    } in made)

pads-reads : (lines : List PlanLine) (next : PlanSoFar) (before : Lines) (line : List ℕ) (words : Words) → line ≡ spaced words → plan_head_line ∷ map pad_line lines ≡ before
    → AreNumbered 2 lines → AllByRecursion IsPad lines → pad_or_end lines (takes (codes "pad") words) ≡ Some next → PlanReads next (before ++ line ∷ [])
pads-reads lines next before line words is are numbered pads h = by ((takes (codes "pad") words).0) refl h
  where
    by : (t : Bool) → (takes (codes "pad") words).0 ≡ t
        → cond t (add_pad lines (takes (codes "pad") words).1) (guard (is_word (codes "end") (takes (codes "pad") words).1) (record { stage = Whole; lines = lines })) ≡ Some next
        → PlanReads next (before ++ line ∷ [])
    by true test e = pad-reads lines next before line (takes (codes "pad") words).1 (is ∙ ap spaced (took-word (codes "pad") words test)) are numbered pads e
    by false test e = end-reads lines next before line (takes (codes "pad") words).1 (is ∙ ap spaced (sym (left-words (codes "pad") words test))) are numbered pads e

filled-reads : (stage : PlanStage) (lines : List PlanLine) (next : PlanSoFar) (before : Lines) (line : List ℕ) (words : Words) → line ≡ spaced words → lines_at stage lines ≡ before
    → NoneAt stage lines → AreNumbered 2 lines → AllByRecursion IsPad lines → plan_fill stage lines words ≡ Some next → PlanReads next (before ++ line ∷ [])
filled-reads Head lines next before line words is are none numbered pads h = head-reads lines next before line words is are none h
filled-reads Pads lines next before line words is are none numbered pads h = pads-reads lines next before line words is are numbered pads h
filled-reads Whole lines next before line words is are none numbered pads h = absurd (none-some next h)

plan-reads-step : (s next : PlanSoFar) (lines : Lines) (line : List ℕ) → PlanReads s lines → plan_step s line ≡ Some next → PlanReads next (lines ++ line ∷ [])
plan-reads-step s next lines line h taken =
    filled-reads s.stage s.lines next lines line (words_of line) (sym (spaced-words_of line)) h.are h.none h.numbered h.pads taken

-- the lines of a plan are taken
abbrev at_pads : List PlanLine → PlanSoFar
at_pads lines = record { stage = Pads; lines = lines }

step-head : plan_step plan_start plan_head_line ≡ Some (at_pads [])
step-head = ap (plan_fill Head []) (words_of-spaced (codes "hold-plan") (codes "1" ∷ []) (plain-test (codes "hold-plan") refl) (plain-test (codes "1") refl, tt))

step-pad : (lines : List PlanLine) (line : PlanLine) → IsPad line → line.line ≡ length lines + 2 → plan_step (at_pads lines) (pad_line line) ≡ Some (at_pads (lines ++ line ∷ []))
step-pad lines line is number =
    ap (plan_fill Pads lines) (words_of-spaced (codes "pad") (pad_words line) (plain-test (codes "pad") refl) (plain-pad line is))
    ∙ ap (λ (n : ℕ). pad_in n (pad_words line) >>= (λ p. Some (at_pads (lines ++ p ∷ [])))) (sym number)
    ∙ ap (λ (o : Option PlanLine). o >>= (λ p. Some (at_pads (lines ++ p ∷ [])))) (pad_in-words line is)

step-end : (lines : List PlanLine) → plan_step (at_pads lines) plan_end_line ≡ Some (record { stage = Whole; lines = lines })
step-end lines = ap (plan_fill Pads lines) (words_of-spaced (codes "end") [] (plain-test (codes "end") refl) tt)

run-pads : (lines more : List PlanLine) (number : ℕ) → number ≡ length lines + 2 → AreNumbered number more → AllByRecursion IsPad more
    → run plan_step (at_pads lines) (map pad_line more) ≡ Some (at_pads (lines ++ more))
run-pads lines [] number is numbered pads = ap (λ (ls : List PlanLine). Some (at_pads ls)) (sym (append-nil lines))
run-pads lines (line ∷ more) number is numbered pads =
    let here = numbered.0 in
    ap (option_and_then (λ (t : PlanSoFar). run plan_step t (map pad_line more))) (step-pad lines line pads.0 (here ∙ is))
    ∙ run-pads (lines ++ line ∷ []) more (number + 1) (omega (arith, is, length-append lines (line ∷ []))) numbered.1 pads.1
    ∙ ap (λ (ls : List PlanLine). Some (at_pads ls)) (append_assoc lines (line ∷ []) more)

abbrev finished : List PlanLine → PlanSoFar
finished lines = record { stage = Whole; lines = lines }

run-plan : (lines : List PlanLine) → AreNumbered 2 lines → AllByRecursion IsPad lines → run plan_step plan_start (plan_lines lines) ≡ Some (finished lines)
run-plan lines numbered pads =
    ap (option_and_then (λ (t : PlanSoFar). run plan_step t (map pad_line lines ++ plan_end_line ∷ []))) step-head
    ∙ run-append plan_step (at_pads []) (map pad_line lines) (plan_end_line ∷ [])
    ∙ ap (option_and_then (λ (t : PlanSoFar). run plan_step t (plan_end_line ∷ []))) (run-pads [] lines 2 (omega arith) numbered pads)
    ∙ ap (option_and_then (λ (t : PlanSoFar). run plan_step t [])) (step-end lines)

pub plan-are_lines : (all : Lines) → IsPlan all → AreLines all
plan-are_lines all whole =
    let lines : List PlanLine = whole.0 in
    let head = spaced-line (codes "hold-plan" ∷ codes "1" ∷ []) (plain-test (codes "hold-plan") refl, (plain-test (codes "1") refl, tt)) in
    let pads = AllByRecursion-map IsLine pad_line lines
    (AllByRecursion-weaken IsPad (λ line. IsLine (pad_line line)) (λ line is. spaced-line (codes "pad" ∷ pad_words line) (plain-test (codes "pad") refl, plain-pad line is)) lines whole.2) in
    let end = spaced-line (codes "end" ∷ []) (plain-test (codes "end") refl, tt) in
    subst AreLines whole.3 (head, AllByRecursion-append IsLine (map pad_line lines) (plan_end_line ∷ []) pads (end, tt))

abbrev pub IsWholePlan : PlanSoFar → Type 0
IsWholePlan s = s.stage ≡ Whole

plans-accepted : Accepts plan_step plan_start IsWholePlan IsPlan
plans-accepted = record {
  of_lines = plan-are_lines;
  takes = λ all whole. (finished whole.0, ap (run plan_step plan_start) (sym whole.3) ∙ run-plan whole.0 whole.1 whole.2, refl);
  ends = λ s line whole. ap (λ (t : PlanStage). plan_fill t s.lines (words_of line)) whole;
}

begins-at : (stage : PlanStage) (lines : List PlanLine) (before : Lines) → lines_at stage lines ≡ before → AreNumbered 2 lines → AllByRecursion IsPad lines → Begins IsPlan before
begins-at Head lines before are numbered pads = (plan_lines [], ([], tt, tt, ap (λ (ls : Lines). ls ++ plan_lines []) are))
begins-at Pads lines before are numbered pads = (plan_end_line ∷ [], (lines, numbered, pads, ap (λ (ls : Lines). ls ++ plan_end_line ∷ []) are))
begins-at Whole lines before are numbered pads = ([], (lines, numbered, pads, are ∙ sym (append-nil before)))

step-empty : (s next : PlanSoFar) (line : List ℕ) → plan_step s line ≡ Some next → line ≢ []
step-empty s next (b ∷ bs) h e = absurd cc
step-empty s next [] h e = by s.stage h
  where
    by : (stage : PlanStage) → plan_fill stage s.lines ([] ∷ []) ≡ Some next → ⊥
    by Head taken = none-some next taken
    by Pads taken = none-some next taken
    by Whole taken = none-some next taken

-- these lines were taken, the rest of the text wasn't yet, and the number is that of the next line
pub record PlanProgress (text rest : List ℕ) (s : PlanSoFar) (number : ℕ) : Type 0 where
  pub lines : Lines
  pub split : text ≡ text_of lines ++ rest
  pub runs : run plan_step plan_start lines ≡ Some s
  pub reads : PlanReads s lines
  pub count : number ≡ length lines + 1
  pub some : AllByRecursion (λ (line : List ℕ). line ≢ []) lines

pub plan-start : (text : List ℕ) → PlanProgress text text plan_start 1
plan-start text = record {
  lines = [];
  split = refl;
  runs = refl;
  reads = record { are = refl; none = refl; numbered = tt; pads = tt };
  count = omega arith;
  some = tt;
}

pub plan-step : (text rest line behind : List ℕ) (s next : PlanSoFar) (number : ℕ) → PlanProgress text rest s number → rest ≡ ended line ++ behind → plan_step s line ≡ Some next
    → PlanProgress text behind next (number + 1)
plan-step text rest line behind s next number h cut taken = record {
  lines = h.lines ++ line ∷ [];
  split = h.split ∙ ap (λ (r : List ℕ). text_of h.lines ++ r) cut ∙ sym (append_assoc (text_of h.lines) (ended line) behind) ∙ ap (λ (t : List ℕ). t ++ behind) (sym (text_of-push h.lines line));
  runs = run-push plan_step plan_start s next h.lines line h.runs taken;
  reads = plan-reads-step s next h.lines line h.reads taken;
  count = let c = h.count in omega (arith, c, length-append h.lines (line ∷ []));
  some = AllByRecursion-append (λ (l : List ℕ). l ≢ []) h.lines (line ∷ []) h.some (step-empty s next line taken, tt);
}

pub plan-number : (text rest : List ℕ) (s : PlanSoFar) (number : ℕ) → PlanProgress text rest s number → 2 * number ≤ length text + 2
plan-number text rest s number h =
    let long = text_of-long h.lines h.some in
    let whole = length-append (text_of h.lines) rest in
    let count = h.count in
    omega (arith, long, whole, ap length h.split, count)

lines-short : (stage : PlanStage) (lines : List PlanLine) (before : Lines) → lines_at stage lines ≡ before → NoneAt stage lines → length lines ≤ length before
lines-short Head lines before are none = omega (arith, ap length none)
lines-short Pads lines before are none = omega (arith, ap length are, length-map lines pad_line)
lines-short Whole lines before are none = omega (arith, ap length are, length-map lines pad_line, length-append (map pad_line lines) (plan_end_line ∷ []))

pub plan-lines : (text rest : List ℕ) (s : PlanSoFar) (number : ℕ) → PlanProgress text rest s number → length s.lines ≤ number
plan-lines text rest s number h =
    let short = lines-short s.stage s.lines h.lines h.reads.are h.reads.none in
    let count = h.count in
    omega (arith, short, count)

plan-stuck : (text rest : List ℕ) (s : PlanSoFar) (number : ℕ) → PlanProgress text rest s number → IsStuck plan_step IsWholePlan s rest → IsFirstBad IsPlan text number
plan-stuck text rest s number h stuck =
    subst (IsFirstBad IsPlan text) (sym h.count)
    (stuck-first_bad plan_step plan_start s IsWholePlan IsPlan plans-accepted text h.lines rest h.split h.runs
    (begins-at s.stage s.lines h.lines h.reads.are h.reads.numbered h.reads.pads) stuck)

pub plan-unended : (text rest : List ℕ) (s : PlanSoFar) (number : ℕ) → PlanProgress text rest s number → IsLine rest → (s.stage ≡ Whole → ⊥) → IsFirstBad IsPlan text number
plan-unended text rest s number h unended more = plan-stuck text rest s number h (stuck-unended plan_step IsWholePlan s rest unended more)

pub plan-bad : (text rest line behind : List ℕ) (s : PlanSoFar) (number : ℕ) → PlanProgress text rest s number → IsLine line → rest ≡ ended line ++ behind → plan_step s line ≡ None
    → IsFirstBad IsPlan text number
plan-bad text rest line behind s number h is cut none = plan-stuck text rest s number h (stuck-line plan_step IsWholePlan s rest line behind is cut none)

pub plan-behind : (text rest : List ℕ) (s : PlanSoFar) (number : ℕ) → PlanProgress text rest s number → s.stage ≡ Whole → rest ≢ [] → IsFirstBad IsPlan text number
plan-behind text rest s number h whole some = plan-stuck text rest s number h (stuck-behind plan_step plan_start s IsWholePlan IsPlan rest plans-accepted whole some)

pub plan-whole : (text rest : List ℕ) (s : PlanSoFar) (number : ℕ) → PlanProgress text rest s number → s.stage ≡ Whole → rest ≡ [] → IsPlanOf text s.lines
plan-whole text rest s number h whole none = record {
  numbered = h.reads.numbered;
  pads = h.reads.pads;
  is = h.split ∙ ap (λ (r : List ℕ). text_of h.lines ++ r) none ∙ append-nil (text_of h.lines)
      ∙ ap text_of (sym h.reads.are ∙ ap (λ (t : PlanStage). lines_at t s.lines) whole);
}

same-lines : (text : List ℕ) (a b : List PlanLine) → IsPlanOf text a → IsPlanOf text b → plan_lines a ≡ plan_lines b
same-lines text a b one other =
    text_of-same (plan_lines a) (plan_lines b) (plan-are_lines (plan_lines a) (a, one.numbered, one.pads, refl)) (plan-are_lines (plan_lines b) (b, other.numbered, other.pads, refl))
    (sym one.is ∙ other.is)

-- a text is that of one plan
pub plan-one : (text : List ℕ) (a b : List PlanLine) → IsPlanOf text a → IsPlanOf text b → a ≡ b
plan-one text a b one other =
    let first = run-plan a one.numbered one.pads in
    let second = run-plan b other.numbered other.pads in
    ap (λ (s : PlanSoFar). s.lines)
    (same_Some (finished a) (finished b) (sym first ∙ ap (run plan_step plan_start) (same-lines text a b one other) ∙ second))

whole-good : (text : List ℕ) (lines : List PlanLine) (number : ℕ) → IsPlanOf text lines → IsFirstBad IsPlan text number → ⊥
whole-good text lines number is bad = bad.not_whole (plan_lines lines) (lines, is.numbered, is.pads, refl) is.is

pub read-plan : (text : List ℕ) (result : Result (List PlanLine) (Stop PlanFault)) → IfOk result (IsPlanOf text) → IfFault result (IsPlanFaultOf text)
    → (lines : List PlanLine) → IsPlanOf text lines → Answers result (Ok lines)
read-plan text (Ok found) ok fault lines is = ap (λ (ls : List PlanLine). Ok ls) (plan-one text lines found is ok)
read-plan text (Err Memory) ok fault lines is = tt
read-plan text (Err (Fault (Line number))) ok fault lines is = absurd (whole-good text lines number is fault)
read-plan text (Err (Fault (NoSite number))) ok fault lines is = absurd fault
read-plan text (Err (Fault (Doubled number))) ok fault lines is = absurd fault
read-plan text (Err (Fault (TooMany number))) ok fault lines is = absurd fault

pub refuse-plan : (text : List ℕ) (result : Result (List PlanLine) (Stop PlanFault)) → IfOk result (IsPlanOf text) → IfFault result (IsPlanFaultOf text)
    → (number : ℕ) → IsFirstBad IsPlan text number → Answers result (Err (Line number))
refuse-plan text (Ok found) ok fault number bad = absurd (whole-good text found number ok bad)
refuse-plan text (Err Memory) ok fault number bad = tt
refuse-plan text (Err (Fault (Line other))) ok fault number bad = ap (λ (n : ℕ). Err (Line n)) (first_bad-one IsPlan plan-are_lines text number other bad fault)
refuse-plan text (Err (Fault (NoSite other))) ok fault number bad = absurd fault
refuse-plan text (Err (Fault (Doubled other))) ok fault number bad = absurd fault
refuse-plan text (Err (Fault (TooMany other))) ok fault number bad = absurd fault
