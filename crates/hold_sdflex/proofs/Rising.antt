-- The pieces of a text lie in it one after another.
use Rattle.std.proofs.Common.{◌≡◌, ℕ, zero, suc, ◌+◌, ◌-◌, ◌<◌, ◌≤◌, Bool, true, false, List, [], ◌∷◌, ◌++◌, length, drop, refl, sym, ap, ◌∙◌, subst, arith}
use Rattle.std.specs.Prelude.{Option, None, Some, option_map, option_and_then, IfSome, position, ◌&&◌, ◌||◌, slice_get, if◌then◌else◌, ◌==◌}
use Rattle.std.proofs.lemmas.Bool.{cond_both, and_parts}
use Rattle.std.proofs.lemmas.List.Quantifiers.{position-Some}
use Rattle.std.proofs.lemmas.List.Sums.{prefix_len-le-length}
use Rattle.std.proofs.lemmas.Option.{slice_get-map}
use Rattle.hold_sdflex.specs.declared.front.Front.{Front as FrontRead}
use Rattle.hold_sdflex.specs.declared.piece.Piece.{Piece}
use Rattle.hold_text.specs.Blanks.{quote, star, slash, backslash, is_blank, is_in_line, heads, line_len, comment_end}
use Rattle.hold_text.proofs.Ends.{EndsWithin, comment_end-within}
use Rattle.hold_sdflex.specs.Front.{Mark, Front, opens, closes, colon, string, atom, opening, closing, colon_sign, ends_atom, atom_length, mark_of, piece_length, front_of}
use Rattle.hold_sdflex.specs.inner.Waiting.{atom_left, shown_front, shown_piece, shown}
use Rattle.hold_sdflex.specs.Pieces.{Marked, pieces_of, pieces_from}
use Rattle.hold_sdflex.specs.Groups.{AreInOrder}
use Rattle.hold_sdflex.proofs.Counting.{atom_more}
use Rattle.hold_base.proofs.Options.{option_map-Some}

-- a number in an option is at most this
abbrev AtMost : ℕ → Option ℕ → Type 0
AtMost most o = IfSome o (λ n. n ≤ most)

at_most_suc : (most : ℕ) (o : Option ℕ) → AtMost most o → AtMost (suc most) (option_map suc o)
at_most_suc most None fits = tt
at_most_suc most (Some n) fits = omega arith

at_most_twice : (most : ℕ) (o : Option ℕ) → AtMost most o → AtMost (suc (suc most)) (option_map (λ n. n + 2) o)
at_most_twice most None fits = tt
at_most_twice most (Some n) fits = omega arith

atom_fits : (bytes : List ℕ) → AtMost (length bytes) (atom_length bytes)
atom_fits [] = omega arith
atom_fits (b ∷ []) = cond_both (ends_atom b) _ _ (AtMost 1) (λ _. omega arith) (λ _. cond_both (b == backslash) _ _ (AtMost 1) (λ _. tt) (λ _. omega arith))
atom_fits (b ∷ c ∷ bytes) =
    let P : Option ℕ → Type 0 = AtMost (length (b ∷ c ∷ bytes)) in
    cond_both (ends_atom b) _ _ P (λ _. omega arith)
    (λ _. cond_both (b == backslash) _ _ P (λ _. at_most_twice (length bytes) (atom_length bytes) (atom_fits bytes))
    (λ _. at_most_suc (length (c ∷ bytes)) (atom_length (c ∷ bytes)) (atom_fits (c ∷ bytes))))

place_fits : (p : ℕ → Bool) (bytes : List ℕ) → IfSome (position p bytes) (λ n. n < length bytes)
place_fits p bytes = found (position p bytes) refl
  where
    found : (o : Option ℕ) → position p bytes ≡ o → IfSome o (λ n. n < length bytes)
    found None is = tt
    found (Some n) is = (position-Some p bytes n 0 is).0

-- a front has a byte, and lies within the text
abbrev Fits : ℕ → Option Front → Type 0
Fits rest o = IfSome o (λ front. (0 < front.len) × (front.len ≤ rest + 1))

-- an atom has a byte, since its first one isn't an end
atom_filled : (b : ℕ) (rest : List ℕ) → ends_atom b ≡ false → IfSome (atom_length (b ∷ rest)) (λ n. (0 < n) × (n ≤ length rest + 1))
atom_filled b rest begins = filled (atom_length (b ∷ rest)) (atom_fits (b ∷ rest)) (atom_more b rest begins)
  where
    filled : (o : Option ℕ) → AtMost (suc (length rest)) o → o ≡ option_map suc (atom_left (b == backslash) rest) → IfSome o (λ n. (0 < n) × (n ≤ length rest + 1))
    filled None fits more = tt
    filled (Some n) fits more = let found = option_map-Some suc (atom_left (b == backslash) rest) n (sym more) in (omega (arith, found.2), omega (arith, fits))

ends_not : (white opened closed divided quoted : Bool) → white ≡ false → opened ≡ false → closed ≡ false → divided ≡ false → quoted ≡ false → (white || opened || closed || divided || quoted) ≡ false
ends_not white opened closed divided quoted a b c d e = rw (a, b, c, d, e) refl

string_fits : (rest most : ℕ) (o : Option ℕ) → most ≤ rest → IfSome o (λ n. n < most) → IfSome (option_map (λ n. n + 2) o) (λ n. (0 < n) × (n ≤ rest + 1))
string_fits rest most None room within = tt
string_fits rest most (Some n) room within = (omega arith, omega arith)

-- a piece has a byte, and lies within the text
length_fits : (b : ℕ) (rest : List ℕ) (opened closed divided quoted : Bool) → (opened ≡ false → closed ≡ false → divided ≡ false → quoted ≡ false → IfSome (atom_length (b ∷ rest)) (λ n. (0 < n) × (n ≤ length rest + 1))) → IfSome (piece_length (if opened then opens else if closed then closes else if divided then colon else if quoted then string else atom) (b ∷ rest)) (λ n. (0 < n) × (n ≤ length rest + 1))
length_fits b rest true closed divided quoted as_atom = (omega arith, omega arith)
length_fits b rest false true divided quoted as_atom = (omega arith, omega arith)
length_fits b rest false false true quoted as_atom = (omega arith, omega arith)
length_fits b rest false false false true as_atom = string_fits (length rest) (length rest) (position (λ c. c == quote) rest) (omega arith) (place_fits (λ c. c == quote) rest)
length_fits b rest false false false false as_atom = as_atom refl refl refl refl

piece_fits : (mark : Mark) (rest : ℕ) (o : Option ℕ) → IfSome o (λ n. (0 < n) × (n ≤ rest + 1)) → Fits rest (option_map (λ n. record { mark = Some mark; len = n }) o)
piece_fits mark rest None fits = tt
piece_fits mark rest (Some n) fits = fits

line_fits : (rest : List ℕ) → Fits (length rest) (Some (record { mark = None; len = 1 + line_len rest }))
line_fits rest = let line = prefix_len-le-length is_in_line rest in (omega arith, omega (arith, line))

comment_fits : (rest : List ℕ) → heads star rest ≡ true → Fits (length rest) (option_map (λ n. record { mark = None; len = n }) (comment_end 2 (drop 1 rest)))
comment_fits [] begins = cc
comment_fits (c ∷ rest) begins = fits (comment_end 2 rest) (comment_end-within 2 rest)
  where
    fits : (o : Option ℕ) → EndsWithin 2 rest o → Fits (suc (length rest)) (option_map (λ n. record { mark = None; len = n }) o)
    fits None ends = tt
    fits (Some n) ends = (omega (arith, ends.0), omega (arith, ends.1))

front_fits : (b : ℕ) (rest : List ℕ) → Fits (length rest) (front_of b rest)
front_fits b rest =
    let P : Option Front → Type 0 = Fits (length rest) in
    cond_both (is_blank b) _ _ P (λ _. (omega arith, omega arith))
    (λ dark. cond_both (b == slash && heads slash rest) _ _ P (λ _. line_fits rest)
    (λ _. cond_both (b == slash && heads star rest) _ _ P (λ h. comment_fits rest (and_parts (b == slash) (heads star rest) h).1)
    (λ _. piece_fits (mark_of b) (length rest) (piece_length (mark_of b) (b ∷ rest))
    (length_fits b rest (b == opening) (b == closing) (b == colon_sign) (b == quote)
    (λ x y z w. atom_filled b rest (ends_not (is_blank b) (b == opening) (b == closing) (b == colon_sign) (b == quote) dark x y z w))))))

-- the same of what the program found there
pub front_not_empty : (b : ℕ) (rest : List ℕ) (o : Option FrontRead) → option_map shown_front o ≡ front_of b rest → IfSome o (λ front. 0 < front.len)
front_not_empty b rest None is = tt
front_not_empty b rest (Some front) is = let fits : Fits (length rest) (Some (shown_front front)) = rw (← is) at (front_fits b rest) in fits.0

pub front_within : (b : ℕ) (rest text : List ℕ) (o : Option FrontRead) → length rest + 1 ≤ length text → option_map shown_front o ≡ front_of b rest → IfSome o (λ front. front.len ≤ length text)
front_within b rest text None longer is = tt
front_within b rest text (Some front) longer is = let fits : Fits (length rest) (Some (shown_front front)) = rw (← is) at (front_fits b rest) in omega (arith, fits.1)

-- the pieces lie one after another from `start` up to but without `end`
abbrev pub AreRising : List Marked → ℕ → ℕ → Type 0
AreRising [] start end = start ≤ end
AreRising (p ∷ ps) start end = (start ≤ p.from) × (p.from < p.to) × AreRising ps p.to end

rising_from_before : (ps : List Marked) (start before end : ℕ) → before ≤ start → AreRising ps start end → AreRising ps before end
rising_from_before [] start before end earlier rising = omega arith
rising_from_before (p ∷ ps) start before end earlier rising = (omega (arith, rising.0), rising.1, rising.2)

rising_after : (mark : Option Mark) (ps : List Marked) (at len end : ℕ) → 0 < len → AreRising ps (at + len) end → AreRising (pieces_of mark at (at + len) ++ ps) at end
rising_after None ps at len end filled rising = rising_from_before ps (at + len) at end (omega arith) rising
rising_after (Some mark) ps at len end filled rising = (omega arith, omega arith, rising)

-- the pieces of a text whose front and rest are known
front_more : (rest : List ℕ) (at : ℕ) (front : Front) (o : Option (List Marked)) → 0 < front.len → IfSome o (λ ps. AreRising ps (at + 1 + (front.len - 1)) (at + 1 + length rest)) → IfSome (option_map (λ ps. pieces_of front.mark at (at + front.len) ++ ps) o) (λ ps. AreRising ps (at + 0) (at + suc (length rest)))
front_more rest at front None filled rising = tt
front_more rest at front (Some ps) filled rising =
    let start : at + 1 + (front.len - 1) ≡ at + front.len = omega arith in
    let end : at + 1 + length rest ≡ at + suc (length rest) = omega arith in
    let here : at ≡ at + 0 = omega arith in
    let later : AreRising ps (at + front.len) (at + suc (length rest)) = rw (start, end) at rising in
    subst (λ from. AreRising (pieces_of front.mark at (at + front.len) ++ ps) from (at + suc (length rest))) here (rising_after front.mark ps at front.len (at + suc (length rest)) filled later)

front_rising : (b : ℕ) (rest : List ℕ) (at : ℕ) → ((skip at : ℕ) → skip ≤ length rest → IfSome (pieces_from rest skip at) (λ ps. AreRising ps (at + skip) (at + length rest))) → IfSome (pieces_from (b ∷ rest) 0 at) (λ ps. AreRising ps (at + 0) (at + suc (length rest)))
front_rising b rest at later = found (front_of b rest) (front_fits b rest)
  where
    found : (o : Option Front) → Fits (length rest) o → IfSome (option_and_then (λ front. option_map (λ ps. pieces_of front.mark at (at + front.len) ++ ps) (pieces_from rest (front.len - 1) (at + 1))) o) (λ ps. AreRising ps (at + 0) (at + suc (length rest)))
    found None fits = tt
    found (Some front) fits = front_more rest at front (pieces_from rest (front.len - 1) (at + 1)) fits.0 (later (front.len - 1) (at + 1) (omega (arith, fits.1)))

pub pieces_from-rising : (bytes : List ℕ) (skip at : ℕ) → skip ≤ length bytes → IfSome (pieces_from bytes skip at) (λ ps. AreRising ps (at + skip) (at + length bytes))
pieces_from-rising [] skip at within = omega arith
pieces_from-rising (b ∷ rest) (suc skip) at within =
    let start : at + 1 + skip ≡ at + suc skip = omega arith in
    let end : at + 1 + length rest ≡ at + suc (length rest) = omega arith in
    rw (← start, ← end) (pieces_from-rising rest skip (at + 1) (omega arith))
pieces_from-rising (b ∷ rest) zero at within = front_rising b rest at (pieces_from-rising rest)

-- there is room for them
pub rising_fit : (ps : List Marked) (start end : ℕ) → AreRising ps start end → start + length ps ≤ end
rising_fit [] start end rising = omega arith
rising_fit (p ∷ ps) start end rising = let rest = rising_fit ps p.to end rising.2 in omega (arith, rising.0, rising.1)

rising_at : (ps : List Marked) (start end i : ℕ) (p : Marked) → AreRising ps start end → slice_get ps i ≡ Some p → (start ≤ p.from) × (p.from < p.to) × (p.to ≤ end)
rising_at [] start end i p rising is = cc
rising_at (q ∷ ps) start end zero p rising is =
    let same : q ≡ p = cc in
    let room = rising_fit ps q.to end rising.2 in
    subst (λ (x : Marked). (start ≤ x.from) × (x.from < x.to) × (x.to ≤ end)) same (rising.0, rising.1, omega arith)
rising_at (q ∷ ps) start end (suc i) p rising is =
    let rest = rising_at ps q.to end i p rising.2 is in
    (omega (arith, rising.0, rising.1, rest.0), rest.1, rest.2)

rising_apart : (ps : List Marked) (start end i j : ℕ) (p q : Marked) → AreRising ps start end → i < j → slice_get ps i ≡ Some p → slice_get ps j ≡ Some q → p.to ≤ q.from
rising_apart [] start end i j p q rising earlier first second = cc
rising_apart (x ∷ ps) start end i zero p q rising earlier first second = absurd (omega arith)
rising_apart (x ∷ ps) start end zero (suc j) p q rising earlier first second =
    let same : x ≡ p = cc in
    let rest = rising_at ps x.to end j q rising.2 second in
    subst (λ (y : Marked). y.to ≤ q.from) same rest.0
rising_apart (x ∷ ps) start end (suc i) (suc j) p q rising earlier first second = rising_apart ps x.to end i j p q rising.2 (omega arith) first second

shown_at : (ps : List Piece) (i : ℕ) (p : Piece) → slice_get ps i ≡ Some p → slice_get (shown ps) i ≡ Some (shown_piece p)
shown_at ps i p is = slice_get-map shown_piece ps i ∙ ap (option_map shown_piece) is

pub rising-in_order : (ps : List Piece) (start end : ℕ) → AreRising (shown ps) start end → AreInOrder ps end
rising-in_order ps start end rising = record {
  filled = λ i p is. (rising_at (shown ps) start end i (shown_piece p) rising (shown_at ps i p is)).1;
  within = λ i p is. (rising_at (shown ps) start end i (shown_piece p) rising (shown_at ps i p is)).2;
  apart = λ i j p q earlier first second. rising_apart (shown ps) start end i j (shown_piece p) (shown_piece q) rising earlier (shown_at ps i p first) (shown_at ps j q second);
}
