-- Readers that take a text line by line, whatever they read. Where all lines of each whole text are taken and leave the reader done,
-- and nothing can be taken then, a line that isn't taken is the first that can't stand there.
use Rattle.std.proofs.Common.{◌≡◌, ◌≢◌, ℕ, ◌+◌, ◌*◌, ◌≤◌, List, [], ◌∷◌, ◌++◌, length, drop, get_or, subst, ◌⊎◌, inl, inr, refl, sym, ap, ◌∙◌, arith, append_assoc, append-nil}
use Rattle.std.specs.Prelude.{Option, None, Some, option_and_then}
use Rattle.std.specs.List.{AllByRecursion}
use Rattle.std.proofs.lemmas.Option.{none-some, same_Some}
use Rattle.std.proofs.lemmas.List.{length-append}
use Rattle.hold_base.proofs.Lists.{AllByRecursion-append_left, AllByRecursion-append_right}
use Rattle.hold_text.specs.Blanks.{newline}
use Rattle.hold_certtext.specs.Lines.{IsLine, ended, text_of, Begins, IsFirstBad}

-- what is read of the lines, if each can be taken
abbrev pub run : {S : Type 0} → (S → List ℕ → Option S) → S → List (List ℕ) → Option S
run step s [] = Some s
run step s (line ∷ lines) = option_and_then (λ next. run step next lines) (step s line)

pub run-append : {S : Type 0} (step : S → List ℕ → Option S) (s : S) (lines more : List (List ℕ)) →
    run step s (lines ++ more) ≡ option_and_then (λ next. run step next more) (run step s lines)
run-append step s [] more = refl
run-append {S = S} step s (line ∷ lines) more = by (step s line) (λ next. run-append step next lines more)
  where
    by : (taken : Option S)
        → ((next : S) → run step next (lines ++ more) ≡ option_and_then (λ after. run step after more) (run step next lines))
        → option_and_then (λ next. run step next (lines ++ more)) taken
        ≡ option_and_then (λ next. run step next more) (option_and_then (λ next. run step next lines) taken)
    by None rest = refl
    by (Some next) rest = rest next

-- a line more
pub run-push : {S : Type 0} (step : S → List ℕ → Option S) (start s next : S) (lines : List (List ℕ)) (line : List ℕ) → run step start lines ≡ Some s
    → step s line ≡ Some next → run step start (lines ++ line ∷ []) ≡ Some next
run-push step start s next lines line so_far taken =
    run-append step start lines (line ∷ []) ∙ ap (option_and_then (λ t. run step t (line ∷ []))) so_far ∙ ap (option_and_then (λ t. run step t [])) taken

-- what begins with lines that can't all be taken can't be taken
pub run-stuck : {S : Type 0} (step : S → List ℕ → Option S) (start s : S) (lines more : List (List ℕ)) (line : List ℕ) → run step start lines ≡ Some s
    → step s line ≡ None → run step start (lines ++ line ∷ more) ≡ None
run-stuck step start s lines more line so_far stuck =
    run-append step start lines (line ∷ more) ∙ ap (option_and_then (λ t. run step t (line ∷ more))) so_far ∙ ap (option_and_then (λ t. run step t more)) stuck

-- a line ends at its first newline
pub ended-cut : (line other after behind : List ℕ) → IsLine line → IsLine other → ended line ++ after ≡ ended other ++ behind → (line ≡ other) × (after ≡ behind)
ended-cut [] [] after behind is also h = (refl, cc)
ended-cut [] (b ∷ bs) after behind is also h = let first : newline ≡ b = ap (λ l. get_or l 0 0) h in absurd (also.0 (sym first))
ended-cut (b ∷ bs) [] after behind is also h = let first : b ≡ newline = ap (λ l. get_or l 0 0) h in absurd (is.0 first)
ended-cut (b ∷ bs) (d ∷ ds) after behind is also h =
    let first : b ≡ d = ap (λ l. get_or l 0 0) h in
    let rest = ended-cut bs ds after behind is.1 also.1 (ap (λ l. drop 1 l) h) in
    (ap (λ x. x ∷ bs) first ∙ ap (λ l. d ∷ l) rest.0, rest.1)

abbrev pub AreLines : List (List ℕ) → Type 0
AreLines lines = AllByRecursion IsLine lines

text_of-cons : (line : List ℕ) (lines : List (List ℕ)) (rest : List ℕ) → text_of (line ∷ lines) ++ rest ≡ ended line ++ (text_of lines ++ rest)
text_of-cons line lines rest = append_assoc (ended line) (text_of lines) rest

pub text_of-push : (lines : List (List ℕ)) (line : List ℕ) → text_of (lines ++ line ∷ []) ≡ text_of lines ++ ended line
text_of-push [] line = append-nil (ended line)
text_of-push (first ∷ lines) line = ap (λ l. ended first ++ l) (text_of-push lines line) ∙ sym (append_assoc (ended first) (text_of lines) (ended line))

ended-some : (line rest : List ℕ) → ended line ++ rest ≢ []
ended-some [] rest h = absurd cc
ended-some (b ∷ bs) rest h = absurd cc

-- a whole text that begins with these lines has them as its first
lines-cut : (lines all : List (List ℕ)) (rest : List ℕ) → AreLines lines → AreLines all → text_of lines ++ rest ≡ text_of all
    → (more : List (List ℕ)) × (all ≡ lines ++ more) × (rest ≡ text_of more)
lines-cut [] all rest is also h = (all, refl, h)
lines-cut (line ∷ lines) [] rest is also h = absurd (ended-some line (text_of lines ++ rest) (sym (text_of-cons line lines rest) ∙ h))
lines-cut (line ∷ lines) (first ∷ all) rest is also h =
    let cut = ended-cut line first (text_of lines ++ rest) (text_of all) is.0 also.0 (sym (text_of-cons line lines rest) ∙ h) in
    let more = lines-cut lines all rest is.1 also.1 cut.1 in
    (more.0, ap (λ l. l ∷ all) (sym cut.0) ∙ ap (λ ls. line ∷ ls) more.1, more.2)

nothing-more : (lines others more : List (List ℕ)) → others ≡ lines ++ more → [] ≡ text_of more → lines ≡ others
nothing-more lines others [] is none = sym (is ∙ append-nil lines)
nothing-more lines others ([] ∷ more) is none = absurd cc
nothing-more lines others ((b ∷ bs) ∷ more) is none = absurd cc

-- lines of which one text is made are the same
pub text_of-same : (lines others : List (List ℕ)) → AreLines lines → AreLines others → text_of lines ≡ text_of others → lines ≡ others
text_of-same lines others is also h =
    let cut = lines-cut lines others [] is also (append-nil (text_of lines) ∙ h) in
    nothing-more lines others cut.0 cut.1 cut.2

-- the longer list has a line more, with which the rest of the shorter begins
record Longer (lines longer : List (List ℕ)) (rest : List ℕ) : Type 0 where
  line : List ℕ
  more : List (List ℕ)
  after : List ℕ
  one_line : IsLine line
  is : longer ≡ lines ++ line ∷ more
  split : rest ≡ ended line ++ after

longer-cons : (first : List ℕ) (lines longer : List (List ℕ)) (rest : List ℕ) → Longer lines longer rest → Longer (first ∷ lines) (first ∷ longer) rest
longer-cons first lines longer rest h = record {
  line = h.line;
  more = h.more;
  after = h.after;
  one_line = h.one_line;
  is = ap (λ ls. first ∷ ls) h.is;
  split = h.split;
}

-- two ways to cut a text are one, or one cuts further
compare-lines : (lines others : List (List ℕ)) (rest left : List ℕ) → AreLines lines → AreLines others → text_of lines ++ rest ≡ text_of others ++ left
    → (lines ≡ others) ⊎ (Longer lines others rest ⊎ Longer others lines left)
compare-lines [] [] rest left is also h = inl refl
compare-lines [] (other ∷ others) rest left is also h =
    inr (inl (record { line = other; more = others; after = text_of others ++ left; one_line = also.0; is = refl; split = h ∙ text_of-cons other others left }))
compare-lines (line ∷ lines) [] rest left is also h =
    inr (inr (record { line = line; more = lines; after = text_of lines ++ rest; one_line = is.0; is = refl; split = sym h ∙ text_of-cons line lines rest }))
compare-lines (line ∷ lines) (other ∷ others) rest left is also h =
    let cut = ended-cut line other (text_of lines ++ rest) (text_of others ++ left) is.0 also.0 (sym (text_of-cons line lines rest) ∙ h ∙ text_of-cons other others left) in
    let same : line ≡ other = cut.0 in
    elim (compare-lines lines others rest left is.1 also.1 cut.1) [
      | inl e ↦ inl (ap (λ l. l ∷ lines) same ∙ ap (λ ls. other ∷ ls) e)
      | inr e ↦ elim e [
        | inl a ↦ inr (inl (subst (λ (l : List ℕ). Longer (line ∷ lines) (l ∷ others) rest) same (longer-cons line lines others rest a)))
        | inr b ↦ inr (inr (subst (λ (l : List ℕ). Longer (l ∷ others) (line ∷ lines) left) same (longer-cons line others lines left b)))
      ]
    ]

-- whole texts are of lines
abbrev pub OfLines : (List (List ℕ) → Type 0) → Type 0
OfLines Whole = (all : List (List ℕ)) → Whole all → AreLines all

begins-lines : (Whole : List (List ℕ) → Type 0) → OfLines Whole → (lines : List (List ℕ)) → Begins Whole lines → AreLines lines
begins-lines Whole of lines begins = AllByRecursion-append_left IsLine lines begins.0 (of (lines ++ begins.0) begins.1)

not-longer : (Whole : List (List ℕ) → Type 0) (lines longer : List (List ℕ)) (rest : List ℕ) → Longer lines longer rest → Begins Whole longer
    → ((line after : List ℕ) → IsLine line → rest ≡ ended line ++ after → Begins Whole (lines ++ line ∷ []) → ⊥) → ⊥
not-longer Whole lines longer rest h begins bad =
    bad h.line h.after h.one_line h.split
    (h.more ++ begins.0, subst Whole (ap (λ ls. ls ++ begins.0) h.is ∙ regroup lines h.line h.more begins.0) begins.1)
  where
    regroup : (xs : List (List ℕ)) (x : List ℕ) (ys zs : List (List ℕ)) → (xs ++ x ∷ ys) ++ zs ≡ (xs ++ x ∷ []) ++ (ys ++ zs)
    regroup xs x ys zs = append_assoc xs (x ∷ ys) zs ∙ sym (append_assoc xs (x ∷ []) (ys ++ zs))

-- a text has one first bad line
pub first_bad-one : (Whole : List (List ℕ) → Type 0) → OfLines Whole → (text : List ℕ) (m n : ℕ) → IsFirstBad Whole text m → IsFirstBad Whole text n → m ≡ n
first_bad-one Whole of text m n a b =
    elim (compare-lines a.lines b.lines a.rest b.rest (begins-lines Whole of a.lines a.good) (begins-lines Whole of b.lines b.good) (sym a.split ∙ b.split)) [
      | inl same ↦ a.count ∙ ap (λ (ls : List (List ℕ)). length ls + 1) same ∙ sym b.count
      | inr e ↦ elim e [
        | inl longer ↦ absurd (not-longer Whole a.lines b.lines a.rest longer b.good a.bad)
        | inr longer ↦ absurd (not-longer Whole b.lines a.lines b.rest longer a.good b.bad)
      ]
    ]

-- a reader takes each whole text, and nothing behind one
pub record Accepts {S : Type 0} (step : S → List ℕ → Option S) (start : S) (IsDone : S → Type 0) (Whole : List (List ℕ) → Type 0) : Type 0 where
  pub of_lines : OfLines Whole
  pub takes : (all : List (List ℕ)) → Whole all → (s : S) × (run step start all ≡ Some s) × IsDone s
  pub ends : (s : S) (line : List ℕ) → IsDone s → step s line ≡ None

-- the reader can't go on, and isn't done at the end of the text
pub record IsStuck {S : Type 0} (step : S → List ℕ → Option S) (IsDone : S → Type 0) (s : S) (rest : List ℕ) : Type 0 where
  pub line : (line after : List ℕ) → IsLine line → rest ≡ ended line ++ after → step s line ≡ None
  pub end : rest ≡ [] → IsDone s → ⊥

-- where a reader is stuck is the first bad line
pub stuck-first_bad : {S : Type 0} (step : S → List ℕ → Option S) (start s : S) (IsDone : S → Type 0) (Whole : List (List ℕ) → Type 0) → Accepts step start IsDone Whole
    → (text : List ℕ) (lines : List (List ℕ)) (rest : List ℕ) → text ≡ text_of lines ++ rest → run step start lines ≡ Some s → Begins Whole lines
    → IsStuck step IsDone s rest → IsFirstBad Whole text (length lines + 1)
stuck-first_bad {S = S} step start s IsDone Whole accepts text lines rest split so_far good stuck = record {
  lines = lines;
  rest = rest;
  split = split;
  count = refl;
  good = good;
  bad = λ line after is here begins.
      let all = accepts.takes ((lines ++ line ∷ []) ++ begins.0) begins.1 in
      let none = run-stuck step start s lines begins.0 line so_far (stuck.line line after is here) in
      none-some all.0 (sym none ∙ ap (run step start) (sym (append_assoc lines (line ∷ []) begins.0)) ∙ all.1);
  not_whole = λ all whole e.
      let cut = lines-cut lines all rest (begins-lines Whole accepts.of_lines lines good) (accepts.of_lines all whole) (sym split ∙ e) in
      never cut.0 all cut.1 cut.2 whole;
}
  where
    never : (more all : List (List ℕ)) → all ≡ lines ++ more → rest ≡ text_of more → Whole all → ⊥
    never [] all is left whole =
        let taken = accepts.takes all whole in
        let same : s ≡ taken.0 = same_Some s taken.0 (sym so_far ∙ ap (run step start) (sym (append-nil lines) ∙ sym is) ∙ taken.1) in
        stuck.end left (subst IsDone (sym same) taken.2)
    never (line ∷ more) all is left whole =
        let taken = accepts.takes all whole in
        let one = (AllByRecursion-append_right IsLine lines (line ∷ more) (subst AreLines is (accepts.of_lines all whole))).0 in
        let none = run-stuck step start s lines more line so_far (stuck.line line (text_of more) one left) in
        none-some taken.0 (sym none ∙ ap (run step start) (sym is) ∙ taken.1)

-- why it is stuck: where the next line can't be taken
pub stuck-line : {S : Type 0} (step : S → List ℕ → Option S) (IsDone : S → Type 0) (s : S) (rest line after : List ℕ) → IsLine line → rest ≡ ended line ++ after
    → step s line ≡ None → IsStuck step IsDone s rest
stuck-line step IsDone s rest line after is split none = record {
  line = λ other behind also here.
      let same = (ended-cut line other after behind is also (sym split ∙ here)).0 in ap (step s) (sym same) ∙ none;
  end = λ nil done. ended-some line after (sym split ∙ nil);
}

no-ended : (line after : List ℕ) → IsLine (ended line ++ after) → ⊥
no-ended [] after is = is.0 refl
no-ended (b ∷ bs) after is = no-ended bs after is.1

-- where the last line has no newline, or a line is missing
pub stuck-unended : {S : Type 0} (step : S → List ℕ → Option S) (IsDone : S → Type 0) (s : S) (rest : List ℕ) → IsLine rest → (IsDone s → ⊥) → IsStuck step IsDone s rest
stuck-unended step IsDone s rest is more = record {
  line = λ line after one here. absurd (no-ended line after (subst IsLine here is));
  end = λ nil done. more done;
}

-- where something stands behind a whole text
pub stuck-behind : {S : Type 0} (step : S → List ℕ → Option S) (start s : S) (IsDone : S → Type 0) (Whole : List (List ℕ) → Type 0) (rest : List ℕ)
    → Accepts step start IsDone Whole → IsDone s → rest ≢ [] → IsStuck step IsDone s rest
stuck-behind step start s IsDone Whole rest accepts done some = record {
  line = λ line after one here. accepts.ends s line done;
  end = λ nil also. some nil;
}

-- lines of which none is empty take two bytes each
pub text_of-long : (lines : List (List ℕ)) → AllByRecursion (λ (line : List ℕ). line ≢ []) lines → 2 * length lines ≤ length (text_of lines)
text_of-long [] some = omega arith
text_of-long ([] ∷ lines) some = absurd (some.0 refl)
text_of-long ((b ∷ bs) ∷ lines) some =
    let rest = text_of-long lines some.1 in
    let whole = length-append (ended (b ∷ bs)) (text_of lines) in
    let first = length-append bs (newline ∷ []) in
    omega (arith, rest, whole, first)
