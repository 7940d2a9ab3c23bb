-- A line's first word tells its kind, and what is taken at a step is spelled so.
use Rattle.std.proofs.Common.{◌≡◌, ◌≢◌, ℕ, List, [], ◌∷◌, Bool, true, false, cond, refl, sym, ap, ◌∙◌}
use Rattle.std.specs.Prelude.{Option, None, Some, codes}
use Rattle.std.specs.Str.{bytes_eq}
use Rattle.std.proofs.lemmas.Option.{none-some, same_Some}
use Rattle.hold_base.proofs.Bytes.{bytes_eq-same}
use Rattle.hold_base.proofs.Options.{option_and_then-Some}
use Rattle.hold_certtext.specs.Lines.{spaced}
use Rattle.hold_certtext.specs.declared.kind.Kind.{Kind}
use Rattle.hold_certtext.specs.declared.kind.Kind.TheVariants.{Head, Repaired, Infeasible, Count, Path, Split, Leaf, End}
use Rattle.hold_certtext.specs.declared.stage.Stage.{Stage}
use Rattle.hold_certtext.specs.inner.Parsing.{◌>>=◌}
use Rattle.hold_certtext.specs.inner.Reading.{SoFar, kind_of, kind_in, next_stage, fill, step}
use Rattle.hold_certtext.specs.inner.Words.{words_of}
use Rattle.hold_certtext.proofs.PlainLemmas.{IsPlain, ArePlain, plain-test, words_of-spaced, spaced-words_of}

abbrev pub kind_word : Kind → List ℕ
kind_word Head = codes "hold-certificate"
kind_word Repaired = codes "repaired"
kind_word Infeasible = codes "infeasible"
kind_word Count = codes "count"
kind_word Path = codes "path"
kind_word Split = codes "split"
kind_word Leaf = codes "leaf"
kind_word End = codes "end"

kind_of-word : (kind : Kind) → kind_of (kind_word kind) ≡ Some kind
kind_of-word Head = refl
kind_of-word Repaired = refl
kind_of-word Infeasible = refl
kind_of-word Count = refl
kind_of-word Path = refl
kind_of-word Split = refl
kind_of-word Leaf = refl
kind_of-word End = refl

plain-kind : (kind : Kind) → IsPlain (kind_word kind)
plain-kind Head = plain-test (kind_word Head) refl
plain-kind Repaired = plain-test (kind_word Repaired) refl
plain-kind Infeasible = plain-test (kind_word Infeasible) refl
plain-kind Count = plain-test (kind_word Count) refl
plain-kind Path = plain-test (kind_word Path) refl
plain-kind Split = plain-test (kind_word Split) refl
plain-kind Leaf = plain-test (kind_word Leaf) refl
plain-kind End = plain-test (kind_word End) refl

-- the word is that of the kind that it is compared with, or what is said of the others holds
this-or : (word : List ℕ) (this kind : Kind) (others : Option Kind) → (others ≡ Some kind → word ≡ kind_word kind)
    → cond (bytes_eq word (kind_word this)) (Some this) others ≡ Some kind → word ≡ kind_word kind
this-or word this kind others rest h = by (bytes_eq word (kind_word this)) refl h
  where
    by : (t : Bool) → bytes_eq word (kind_word this) ≡ t → cond t (Some this) others ≡ Some kind → word ≡ kind_word kind
    by true is e = bytes_eq-same word (kind_word this) is ∙ ap kind_word (same_Some this kind e)
    by false is e = rest e

kind_of-back : (word : List ℕ) (kind : Kind) → kind_of word ≡ Some kind → word ≡ kind_word kind
kind_of-back word kind h =
    this-or word Leaf kind _ (λ a. this-or word Split kind _ (λ b. this-or word Path kind _ (λ c. this-or word Count kind _ (λ d. this-or word Head kind _
    (λ e. this-or word Repaired kind _ (λ f. this-or word Infeasible kind _ (λ g. this-or word End kind None (λ none. absurd (none-some kind none)) g) f) e) d) c) b) a) h

-- the step of a line of this kind with these plain words
pub step-line : (s : SoFar) (kind : Kind) (words : List (List ℕ)) → ArePlain words
    → step s (spaced (kind_word kind ∷ words)) ≡ (next_stage s.stage kind >>= (λ stage. fill (record s { stage = stage }) kind words))
step-line s kind words plain =
    let next : Kind × List (List ℕ) → Option SoFar = λ found. next_stage s.stage found.0 >>= (λ stage. fill (record s { stage = stage }) found.0 found.1) in
    ap (λ (ws : List (List ℕ)). kind_in ws >>= next) (words_of-spaced (kind_word kind) words (plain-kind kind) plain)
    ∙ ap (λ (o : Option Kind). (o >>= (λ k. Some (k, words))) >>= next) (kind_of-word kind)

-- what a taken line is
pub record Taken (s next : SoFar) (line : List ℕ) : Type 0 where
  pub kind : Kind
  pub words : List (List ℕ)
  pub stage : Stage
  pub is : line ≡ spaced (kind_word kind ∷ words)
  pub table : next_stage s.stage kind ≡ Some stage
  pub filled : fill (record s { stage = stage }) kind words ≡ Some next

pub step-back : (s next : SoFar) (line : List ℕ) → step s line ≡ Some next → Taken s next line
step-back s next line h = by (words_of line) (sym (spaced-words_of line)) h
  where
    by : (all : List (List ℕ)) → line ≡ spaced all
        → (kind_in all >>= (λ found. next_stage s.stage found.0 >>= (λ stage. fill (record s { stage = stage }) found.0 found.1))) ≡ Some next → Taken s next line
    by [] is e = absurd (none-some next e)
    by (word ∷ words) is e =
        let after : Kind × List (List ℕ) → Option SoFar = λ found. next_stage s.stage found.0 >>= (λ stage. fill (record s { stage = stage }) found.0 found.1) in
        let both = option_and_then-Some after (kind_in (word ∷ words)) next e in
        let kind = option_and_then-Some (λ (k : Kind). Some (k, words)) (kind_of word) both.0 both.1 in
        let same : ◌≡◌ {A = Kind × List (List ℕ)} (kind.0, words) both.0 = same_Some (kind.0, words) both.0 kind.2 in
        let here : after (kind.0, words) ≡ Some next = ap after same ∙ both.2 in
        let stage = option_and_then-Some (λ (t : Stage). fill (record s { stage = t }) kind.0 words) (next_stage s.stage kind.0) next here in
        record {
          kind = kind.0;
          words = words;
          stage = stage.0;
          is = is ∙ ap (λ (w : List ℕ). spaced (w ∷ words)) (kind_of-back word kind.0 kind.1);
          table = stage.1;
          filled = stage.2;
        }

-- no empty line is taken
pub step-empty : (s next : SoFar) (line : List ℕ) → step s line ≡ Some next → line ≢ []
step-empty s next [] h e = absurd (none-some next h)
step-empty s next (b ∷ bs) h e = absurd cc
