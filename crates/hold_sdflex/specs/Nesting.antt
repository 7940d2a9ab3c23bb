-- How the pieces of a text nest.
--
-- depth_after mark depth: the depth after a mark: one more after an opening parenthesis, one less after a closing one,
--     else the same; None where a closing one stands at depth 0, since it closes what was opened before.
-- inside marks depth: how many of the marks stand in a group of which so much is read that `depth` groups within it are
--     open: those before the closing parenthesis that stands where no group within is open. None where the list ends
--     before.
-- form_of mark place after: the form of the piece at this place in the list, where these marks follow it: of an opening
--     parenthesis with the place of its closing one, None where it has none.
-- marks ps: the marks of the pieces, in order.
-- paired ps place: the pieces, of which the first has this place in the list: each has its form, and each opening
--     parenthesis the place of its closing one in the list; None where one has none. A closing parenthesis that closes
--     nothing stays as it is.
-- mark_in form: the mark of a form.
-- depth_over marks depth: the depth after all of the marks; None where a closing parenthesis stands at depth 0.
-- IsBalanced ps: each parenthesis in the list has its partner in the list. The empty list is balanced.
use Rattle.std.specs.Prelude.{◌≡◌, ℕ, zero, suc, ◌+◌, List, [], ◌∷◌, map, Option, None, Some, option_map, option_and_then}
use Rattle.std.specs.Option.{option_map_or}
use Rattle.hold_sdflex.specs.declared.piece.Form.{Form}
use Rattle.hold_sdflex.specs.declared.piece.Form.TheVariants.{Open, Close, Colon, Text, Atom}
use Rattle.hold_sdflex.specs.declared.piece.Piece.{Piece}
use Rattle.hold_sdflex.specs.Front.{Mark, opens, closes, colon, string, atom}
use Rattle.hold_sdflex.specs.Pieces.{Marked}

-- the depth after a mark
abbrev pub depth_after : Mark → ℕ → Option ℕ
depth_after opens depth = Some (suc depth)
depth_after closes zero = None
depth_after closes (suc depth) = Some depth
depth_after colon depth = Some depth
depth_after string depth = Some depth
depth_after atom depth = Some depth

-- how many marks of the list are inside a group of which so much is read that `depth` groups within are open
abbrev pub inside : List Mark → ℕ → Option ℕ
inside [] depth = None
inside (m ∷ ms) depth = option_map_or (λ d. option_map suc (inside ms d)) (depth_after m depth) (Some 0)

-- the form of the piece at this place of the list, where these marks follow it
abbrev pub form_of : Mark → ℕ → List Mark → Option Form
form_of opens place after = option_map (λ n. Open (place + 1 + n)) (inside after 0)
form_of closes place after = Some Close
form_of colon place after = Some Colon
form_of string place after = Some Text
form_of atom place after = Some Atom

abbrev pub marks : List Marked → List Mark
marks ps = map (λ p. p.mark) ps

-- the pieces from this place of the list on, paired
abbrev pub paired : List Marked → ℕ → Option (List Piece)
paired [] place = Some []
paired (p ∷ ps) place =
    option_and_then (λ form. option_map (λ rest. record { form = form; from = p.from; to = p.to } ∷ rest) (paired ps (place + 1))) (form_of p.mark place (marks ps))

-- the mark of a form
abbrev pub mark_in : Form → Mark
mark_in (Open close) = opens
mark_in Close = closes
mark_in Colon = colon
mark_in Text = string
mark_in Atom = atom

-- the depth after all of the marks
abbrev pub depth_over : List Mark → ℕ → Option ℕ
depth_over [] depth = Some depth
depth_over (m ∷ ms) depth = option_and_then (λ d. depth_over ms d) (depth_after m depth)

abbrev pub IsBalanced : List Piece → Type 0
IsBalanced ps = depth_over (map (λ p. mark_in p.form) ps) 0 ≡ Some 0
