-- What the walks over a text and over its pieces keep, and what the program's own records show.
--
-- shown_front, shown_piece: the front, or the marked piece, that a record of the program stands for. A front's form has
--     the mark that it begins with, and a place that an opening parenthesis has before groups are paired counts for
--     nothing. shown ps: the marked pieces of a list.
-- atom_left taken bytes: how long an atom goes on behind a first byte: where a backslash took the next byte, that one
--     and then as atom_length says, None where there is no byte to take; else as atom_length says.
-- AreWaiting closings after place: the closings are the places in the list of the closing parentheses whose opening
--     ones stand before this place, from which on the pieces have these marks; the one that the next opening
--     parenthesis before it takes is the last.
use Rattle.std.specs.Prelude.{◌≡◌, ℕ, suc, ◌+◌, Bool, true, false, List, [], ◌∷◌, map, Option, None, option_map, reverse, slice_get}
use Rattle.hold_sdflex.specs.declared.front.Front.{Front as FrontRead}
use Rattle.hold_sdflex.specs.declared.piece.Piece.{Piece}
use Rattle.hold_sdflex.specs.Front.{Front, Mark, atom_length}
use Rattle.hold_sdflex.specs.Pieces.{Marked}
use Rattle.hold_sdflex.specs.Nesting.{inside, mark_in}

abbrev pub shown_front : FrontRead → Front
shown_front front = record { mark = option_map (λ form. mark_in form) front.form; len = front.len }

abbrev pub shown_piece : Piece → Marked
shown_piece p = record { mark = mark_in p.form; from = p.from; to = p.to }

abbrev pub shown : List Piece → List Marked
shown ps = map shown_piece ps

-- the length left of an atom
abbrev pub atom_left : Bool → List ℕ → Option ℕ
atom_left true [] = None
atom_left true (b ∷ bytes) = option_map suc (atom_length bytes)
atom_left false bytes = atom_length bytes

-- the closings that wait in the pieces from this place of the list on: for each number of groups within that are
-- open, the closing parenthesis that stands there
pub record AreWaiting (closings : List ℕ) (after : List Mark) (place : ℕ) : Type 0 where
  pub each : (depth : ℕ) → option_map (λ n. place + n) (inside after depth) ≡ slice_get (reverse closings) depth
