-- Where something that a sign opens ends in its text.
use Rattle.std.proofs.Common.{◌≡◌, ℕ, ◌+◌, ◌<◌, ◌≤◌, true, List, [], ◌∷◌, length, arith}
use Rattle.std.specs.Prelude.{Option, Some, None, IfSome, ◌&&◌, ◌==◌}
use Rattle.std.proofs.lemmas.Bool.{cond_both, and_parts}
use Rattle.hold_text.specs.Blanks.{star, slash, heads, comment_end}

pub heads-length : (b : ℕ) (text : List ℕ) → heads b text ≡ true → 0 < length text
heads-length b [] h = absurd cc
heads-length b (c ∷ text) h = omega arith

-- an end stands after its sign, within the text whose first byte has the place n
abbrev pub EndsWithin : ℕ → List ℕ → Option ℕ → Type 0
EndsWithin n text end = IfSome end (λ e. (n < e) × (e ≤ n + length text))

pub EndsWithin-later : (n b : ℕ) (text : List ℕ) (o : Option ℕ) → EndsWithin (n + 1) text o → EndsWithin n (b ∷ text) o
EndsWithin-later n b text None h = tt
EndsWithin-later n b text (Some e) h = (omega arith, omega arith)

pub comment_end-within : (n : ℕ) (text : List ℕ) → EndsWithin n text (comment_end n text)
comment_end-within n [] = tt
comment_end-within n (b ∷ text) =
    let rest = comment_end-within (n + 1) text in
    cond_both (b == star && heads slash text) _ _ (EndsWithin n (b ∷ text))
    (λ h. let more : 0 < length text = heads-length slash text (and_parts (b == star) (heads slash text) h).1 in (omega arith, omega arith))
    (λ _. EndsWithin-later n b text _ rest)
