-- What a text is that has to be one whole group, and how such a group's pieces stand.
--
-- paired_pieces text: the pieces of the text, paired; None where they can't be read or an opening parenthesis has no
--     closing one.
-- after_group form: the place in the list right behind the group that begins the list, where the first piece has this
--     form; 0 where that opens no group.
-- stray ps: where in the text the first piece begins that stands beside the first group: the first of all where it is
--     no opening parenthesis, else the first after that group's end; None where the group is all there is, or nothing is.
-- group_or_fault end paired: the group that these paired pieces of a text of that length are, or the place of the fault.
-- group_of text: the text's paired pieces, where they are one group and nothing else. Otherwise the place of the fault
--     in bytes: the text's length where a string, a block comment, a backslash or a group has no end or the text has no
--     piece, else the place of the stray piece.
-- form_at ps place: the form of the piece at this place in the list; None past the end.
-- IsGroup ps open_at close_at: a closing parenthesis stands at the second place, which is later than the first, and what
--     stands between the two is balanced.
-- AreOneGroup ps: the pieces begin with an opening parenthesis, which the last piece closes. What stands between any
--     opening parenthesis and its closing one is balanced, and a group that begins within another one ends within it.
-- AreInOrder ps end: in a text of that length each piece has a byte and ends within the text, and a later piece begins
--     where an earlier one ends, or after that.
use Rattle.std.specs.Prelude.{◌≡◌, ℕ, ◌+◌, ◌-◌, ◌<◌, ◌≤◌, List, [], ◌∷◌, length, Option, None, Some, option_map, option_and_then, Result, Ok, Err, slice_get, slice_range}
use Rattle.std.specs.Option.{option_map_or}
use Rattle.hold_sdflex.specs.declared.piece.Form.{Form}
use Rattle.hold_sdflex.specs.declared.piece.Form.TheVariants.{Open, Close, Colon, Text, Atom}
use Rattle.hold_sdflex.specs.declared.piece.Piece.{Piece}
use Rattle.hold_sdflex.specs.Pieces.{pieces_of_text}
use Rattle.hold_sdflex.specs.Nesting.{paired, IsBalanced}

-- the paired pieces of a text
abbrev pub paired_pieces : List ℕ → Option (List Piece)
paired_pieces text = option_and_then (λ ps. paired ps 0) (pieces_of_text text)

-- the place in the list right after the group that begins the list with a piece of this form
abbrev pub after_group : Form → ℕ
after_group (Open close) = close + 1
after_group Close = 0
after_group Colon = 0
after_group Text = 0
after_group Atom = 0

-- the place in the text of the stray piece
abbrev pub stray : List Piece → Option ℕ
stray [] = None
stray (p ∷ ps) = option_map (λ q. q.from) (slice_get (p ∷ ps) (after_group p.form))

-- the group that the paired pieces of a text of this length are
abbrev pub group_or_fault : ℕ → Option (List Piece) → Result (List Piece) ℕ
group_or_fault end None = Err end
group_or_fault end (Some []) = Err end
group_or_fault end (Some (p ∷ ps)) = option_map_or (λ at. Err at) (stray (p ∷ ps)) (Ok (p ∷ ps))

-- the group of a text
abbrev pub group_of : List ℕ → Result (List Piece) ℕ
group_of text = group_or_fault (length text) (paired_pieces text)

-- the form of the piece at this place of the list
abbrev pub form_at : List Piece → ℕ → Option Form
form_at ps place = option_map (λ p. p.form) (slice_get ps place)

-- a group stands from the first of these places in the list to the second
pub record IsGroup (ps : List Piece) (open_at close_at : ℕ) : Type 0 where
  pub later : open_at < close_at
  pub closes : form_at ps close_at ≡ Some Close
  pub balanced : IsBalanced (slice_range ps (open_at + 1) close_at)

-- the pieces are one group
pub record AreOneGroup (ps : List Piece) : Type 0 where
  pub whole : form_at ps 0 ≡ Some (Open (length ps - 1))
  pub groups : (i c : ℕ) → form_at ps i ≡ Some (Open c) → IsGroup ps i c
  pub nested : (i c j d : ℕ) → form_at ps i ≡ Some (Open c) → form_at ps j ≡ Some (Open d) → i < j → j < c → d < c

-- the pieces lie in order in a text of this length
pub record AreInOrder (ps : List Piece) (end : ℕ) : Type 0 where
  pub filled : (i : ℕ) (p : Piece) → slice_get ps i ≡ Some p → p.from < p.to
  pub within : (i : ℕ) (p : Piece) → slice_get ps i ≡ Some p → p.to ≤ end
  pub apart : (i j : ℕ) (p q : Piece) → i < j → slice_get ps i ≡ Some p → slice_get ps j ≡ Some q → p.to ≤ q.from
