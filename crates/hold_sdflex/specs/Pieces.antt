-- The pieces of a whole text, before groups are paired.
--
-- Marked: a piece by its mark and the place of its bytes in the text.
-- pieces_of mark from to: the piece of a front at this place, as a list; none where the front has no mark.
-- pieces_from text skip at: the pieces of a text whose first byte has the place `at`, and whose first `skip` bytes
--     belong to the front that was read last. None where one of the fronts is None.
-- pieces_of_text text: the pieces of the text: what stands at its front, then what stands at the front of the rest, and
--     so on to the end; white space and comments are left out. A text without any has the empty list. None where one of
--     the fronts is None.
use Rattle.std.specs.Prelude.{ℕ, zero, suc, ◌+◌, ◌-◌, List, [], ◌∷◌, ◌++◌, Option, None, Some, option_map, option_and_then}
use Rattle.hold_sdflex.specs.Front.{Mark, front_of}

pub record Marked : Type 0 where
  pub mark : Mark
  pub from : ℕ
  pub to : ℕ

-- the pieces of a front at this place: one, or none where it is white space or a comment
abbrev pub pieces_of : Option Mark → ℕ → ℕ → List Marked
pieces_of None from to = []
pieces_of (Some mark) from to = record { mark = mark; from = from; to = to } ∷ []

-- the pieces from byte `at` of the text on, where the first `skip` of these bytes are passed over, since they
-- belong to the front that was read last
abbrev pub pieces_from : List ℕ → ℕ → ℕ → Option (List Marked)
pieces_from [] skip at = Some []
pieces_from (b ∷ rest) (suc skip) at = pieces_from rest skip (at + 1)
pieces_from (b ∷ rest) zero at =
    option_and_then (λ front. option_map (λ ps. pieces_of front.mark at (at + front.len) ++ ps) (pieces_from rest (front.len - 1) (at + 1))) (front_of b rest)

-- the pieces of a text
abbrev pub pieces_of_text : List ℕ → Option (List Marked)
pieces_of_text text = pieces_from text 0 0
