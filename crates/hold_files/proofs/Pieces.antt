-- A text that is read or written piece by piece.
use Rattle.std.proofs.Common.{◌≡◌, ◌+◌, ◌-◌, ◌<◌, ◌≤◌, ℕ, List, ◌++◌, length, take, drop, sym, ap, ◌∙◌, arith, length-drop}
use Rattle.std.proofs.Math.Seq.{take-add}
use Rattle.std.proofs.lemmas.List.{take_rest}
use Rattle.std.proofs.lemmas.Grind.{common_steps}

-- the front and the next piece are a longer front
pub take_and_more : (text : List ℕ) (place n : ℕ) → take place text ++ take n (drop place text) ≡ take (place + n) text
take_and_more text place n = sym (take-add place n text)

-- the slice from a place on is what is left there
pub rest_whole : (text : List ℕ) (place : ℕ) → take (length text - place) (drop place text) ≡ drop place text
rest_whole text place = take_rest text place

-- the front and the start of the slice from there on are a longer front
pub more_taken : (text : List ℕ) (place n : ℕ)
    → take place text ++ take n (take (length text - place) (drop place text)) ≡ take (place + n) text
more_taken text place n = rw rest_whole (take_and_more text place n)

-- which is within the text
pub more_within : (text : List ℕ) (place n : ℕ) → place ≤ length text
    → n ≤ length (take (length text - place) (drop place text)) → place + n ≤ length text
more_within text place n within count = omega (arith, (rw rest_whole at count), length-drop place text)

-- a front and the start of a piece
pub more_length : (front piece : List ℕ) (n : ℕ) → n ≤ length piece → length (front ++ take n piece) ≡ length front + n
more_length front piece n count = grind (arith, common_steps)

-- a front of the text and the piece behind it are again a front of the text
pub more_read : (front piece text : List ℕ) (n : ℕ) → n ≤ length piece → front ≡ take (length front) text
    → take n piece ≡ take n (drop (length front) text) → front ++ take n piece ≡ take (length (front ++ take n piece)) text
more_read front piece text n count so_far next =
    let longer = ap (λ k. take k text) (more_length front piece n count) in
    ap (λ xs. xs ++ take n piece) so_far ∙ ap (λ xs. take (length front) text ++ xs) next ∙ take_and_more text (length front) n ∙ sym longer

-- a text that has n bytes behind a place is at least that long
pub past_end : (piece text : List ℕ) (place limit n : ℕ) → n ≤ length piece → limit - place < n
    → take n piece ≡ take n (drop place text) → limit < length text
past_end piece text place limit n count past same = grind (arith, common_steps, ap length same)
