-- after_item form place: the place in the list behind the item that begins at this place with a piece of this form: right
--     behind the piece, or behind a group's closing parenthesis.
use Rattle.std.specs.Prelude.{ℕ, ◌+◌, max}
use Rattle.hold_sdflex.specs.declared.piece.Form.{Form}
use Rattle.hold_sdflex.specs.declared.piece.Form.TheVariants.{Open, Close, Colon, Text, Atom}

abbrev pub after_item : Form → ℕ → ℕ
after_item (Open close) place = max close place + 1
after_item Close place = place + 1
after_item Colon place = place + 1
after_item Text place = place + 1
after_item Atom place = place + 1
