-- What stands directly within a group.
--
-- Word: an atom by the place where it begins in the text and by its bytes there, backslashes among them.
-- Token: a piece by what it is: an atom, a string, a colon, a closing parenthesis, or an opening one by its place in the
--     text and by how many pieces further on in the list its closing one stands.
-- token_by form text place p: the token of a piece of this form whose place in the list is this. token_of text place p:
--     that of a piece.
-- tokens_from text place ps: the tokens of pieces of that text, of which the first has this place in the list.
--     tokens_of text ps: those of all pieces of a text.
-- Item: what stands directly within a group: an atom, a string, a colon, or a group, by the place of its opening
--     parenthesis in the text and by the tokens behind that parenthesis, which go on behind the group's end.
-- items_behind skip ts: the items of a group of which these tokens are left, where the first `skip` of them belong to
--     the item that was read last. A closing parenthesis ends the group, and so does the end of the list.
-- items_in ts: the items of a group of which these tokens are left.
-- atom_of item, group_of item: the atom, the group, that the item is; None where it is something else.
-- first_item, first_atom, first_group items: the first of the items; None where there is none, or where it is no atom, no
--     group.
-- behind items: all items but the first; none of none.
use Rattle.std.specs.Prelude.{ℕ, zero, suc, ◌+◌, ◌-◌, List, [], ◌∷◌, drop, Option, None, Some, slice_range}
use Rattle.hold_sdflex.specs.declared.piece.Form.{Form}
use Rattle.hold_sdflex.specs.declared.piece.Form.TheVariants.{Open, Close, Colon as ColonForm, Text as TextForm, Atom as AtomForm}
use Rattle.hold_sdflex.specs.declared.piece.Piece.{Piece}

pub record Word : Type 0 where
  pub at : ℕ
  pub bytes : List ℕ

pub data Token : Type 0 where
  atom : Word → Token
  string : Token
  colon : Token
  closes : Token
  opens : ℕ → ℕ → Token

pub record Group : Type 0 where
  pub at : ℕ
  pub inner : List Token

pub data Item : Type 0 where
  Atom : Word → Item
  Text : Item
  Colon : Item
  Nested : Group → Item

abbrev pub token_by : Form → List ℕ → ℕ → Piece → Token
token_by (Open close) text place p = opens p.from (close - place)
token_by Close text place p = closes
token_by ColonForm text place p = colon
token_by TextForm text place p = string
token_by AtomForm text place p = atom (record { at = p.from; bytes = slice_range text p.from p.to })

abbrev pub token_of : List ℕ → ℕ → Piece → Token
token_of text place p = token_by p.form text place p

abbrev pub tokens_from : List ℕ → ℕ → List Piece → List Token
tokens_from text place [] = []
tokens_from text place (p ∷ ps) = token_of text place p ∷ tokens_from text (place + 1) ps

abbrev pub tokens_of : List ℕ → List Piece → List Token
tokens_of text ps = tokens_from text 0 ps

abbrev pub items_behind : ℕ → List Token → List Item
items_behind skip [] = []
items_behind (suc skip) (t ∷ ts) = items_behind skip ts
items_behind zero (atom w ∷ ts) = Atom w ∷ items_behind 0 ts
items_behind zero (string ∷ ts) = Text ∷ items_behind 0 ts
items_behind zero (colon ∷ ts) = Colon ∷ items_behind 0 ts
items_behind zero (closes ∷ ts) = []
items_behind zero (opens at far ∷ ts) = Nested (record { at = at; inner = ts }) ∷ items_behind far ts

unfoldable pub items_in : List Token → List Item
items_in ts = items_behind 0 ts

abbrev pub first_item : List Item → Option Item
first_item [] = None
first_item (item ∷ rest) = Some item

abbrev pub atom_of : Item → Option Word
atom_of (Atom w) = Some w
atom_of Text = None
atom_of Colon = None
atom_of (Nested g) = None

abbrev pub group_of : Item → Option Group
group_of (Atom w) = None
group_of Text = None
group_of Colon = None
group_of (Nested g) = Some g

abbrev pub first_atom : List Item → Option Word
first_atom [] = None
first_atom (item ∷ rest) = atom_of item

abbrev pub first_group : List Item → Option Group
first_group [] = None
first_group (item ∷ rest) = group_of item

abbrev pub behind : List Item → List Item
behind items = drop 1 items
