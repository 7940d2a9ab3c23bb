-- Where the first piece of the tokens ends, and that what is written as a piece is one.
use Rattle.std.proofs.Common.{◌≡◌, List, [], ◌∷◌, ◌++◌, length, refl, ap, cond, Bool, true, false, ◌∙◌, ◌<◌, ◌≤◌, arith}
use Rattle.std.specs.Prelude.{Option, Some, None}
use Rattle.std.specs.List.{AllByRecursion}
use Rattle.hold_base.proofs.Lists.{AllByRecursion-append}
use Rattle.hold_netlist.specs.declared.wire.Direction.{Direction}
use Rattle.hold_netlist.specs.declared.wire.Direction.TheVariants.{Input as InputPort, Output as OutputPort}
use Rattle.hold_vlex.specs.Lexed.{Lexeme}
use Rattle.hold_vsyntax.specs.declared.mark.Mark.TheVariants.{Module as TheModule, EndModule, Input, Output, Wire, Assign, Comma, Semicolon, Colon, Dot, Equals, LeftParenthesis, RightParenthesis, LeftBracket, RightBracket}
use Rattle.hold_vsyntax.specs.declared.tree.Ident.{Ident}
use Rattle.hold_vsyntax.specs.declared.tree.Several.{Several}
use Rattle.hold_vsyntax.specs.declared.tree.Range.{Range}
use Rattle.hold_vsyntax.specs.declared.tree.HeaderPort.{HeaderPort}
use Rattle.hold_vsyntax.specs.declared.tree.NextPort.{NextPort}
use Rattle.hold_vsyntax.specs.declared.tree.NextPort.TheVariants.{Declared as DeclaredNext, Alike}
use Rattle.hold_vsyntax.specs.declared.tree.Header.{Header}
use Rattle.hold_vsyntax.specs.declared.tree.Header.TheVariants.{Bare, Plain, Declared}
use Rattle.hold_vsyntax.specs.declared.tree.Selected.{Selected}
use Rattle.hold_vsyntax.specs.declared.tree.Selected.TheVariants.{Whole, Bit, Part as Bits}
use Rattle.hold_vsyntax.specs.declared.tree.Part.{Part}
use Rattle.hold_vsyntax.specs.declared.tree.Right.{Right}
use Rattle.hold_vsyntax.specs.declared.tree.Right.TheVariants.{Net as Side, Constant as ConstantSide}
use Rattle.hold_vsyntax.specs.declared.tree.Assignment.{Assignment}
use Rattle.hold_vsyntax.specs.declared.tree.Tied.{Tied}
use Rattle.hold_vsyntax.specs.declared.tree.Tied.TheVariants.{Open, Net, Bit as BitOf, Constant}
use Rattle.hold_vsyntax.specs.declared.tree.Connection.{Connection}
use Rattle.hold_vsyntax.specs.declared.tree.Instance.{Instance}
use Rattle.hold_vsyntax.specs.declared.tree.Item.{Item}
use Rattle.hold_vsyntax.specs.declared.tree.Item.TheVariants.{Ports, Wires, Assignments, Instances}
use Rattle.hold_vsyntax.specs.Symbols.{Symbol, Marked, Named, Counted, Tied as ConstantBit, Strange, symbol, symbols}
use Rattle.hold_vsyntax.specs.Pieces.{ends_piece, is_piece, onto, pieces, pieces_within}
use Rattle.hold_vsyntax.specs.inner.Passing.{first_within, rest_within, first_piece, rest_behind}
use Rattle.hold_vsyntax.specs.inner.Reading.{begins, is_mark}
use Rattle.hold_vsyntax.specs.Grammar.{separated, several, listed, name_symbols, wire_symbols, bounds_symbols, range_symbols, direction_mark, port_symbols, next_port_symbols, header_symbols, selected_symbols, part_symbols, right_symbols, assignment_symbols, tied_symbols, connection_symbols, instance_symbols, item_symbols, item_piece}
use Rattle.hold_vsyntax.proofs.HeaderLaws.{closed, opening_piece}

-- the pieces are the first and those of what is behind it
cut_within : (ts : List Lexeme) → pieces_within ts ≡ first_within ts ∷ pieces (rest_within ts)
cut_within [] = refl
cut_within (t ∷ ts) = by (ends_piece (symbol t)) (cut_within ts)
  where
    by : (b : Bool) → pieces_within ts ≡ first_within ts ∷ pieces (rest_within ts)
        → cond b ((t ∷ []) ∷ pieces ts) (onto t (pieces_within ts)) ≡ cond b (t ∷ []) (t ∷ first_within ts) ∷ pieces (cond b ts (rest_within ts))
    by true h = refl
    by false h = ap (onto t) h

pub cut_piece : (t : Lexeme) (ts : List Lexeme) → pieces (t ∷ ts) ≡ first_piece (t ∷ ts) ∷ pieces (rest_behind (t ∷ ts))
cut_piece t ts = by (is_piece (symbol t)) (cut_within ts)
  where
    by : (b : Bool) → pieces_within ts ≡ first_within ts ∷ pieces (rest_within ts)
        → cond b ((t ∷ []) ∷ pieces ts) (onto t (pieces_within ts)) ≡ cond b (t ∷ []) (t ∷ first_within ts) ∷ pieces (cond b ts (rest_within ts))
    by true h = refl
    by false h = ap (onto t) h

-- and nothing is lost
whole_within : (ts : List Lexeme) → first_within ts ++ rest_within ts ≡ ts
whole_within [] = refl
whole_within (t ∷ ts) = by (ends_piece (symbol t)) (whole_within ts)
  where
    by : (b : Bool) → first_within ts ++ rest_within ts ≡ ts → cond b (t ∷ []) (t ∷ first_within ts) ++ cond b ts (rest_within ts) ≡ t ∷ ts
    by true h = refl
    by false h = ap (λ l. t ∷ l) h

pub whole_piece : (ts : List Lexeme) → first_piece ts ++ rest_behind ts ≡ ts
whole_piece [] = refl
whole_piece (t ∷ ts) = by (is_piece (symbol t))
  where
    by : (b : Bool) → cond b (t ∷ []) (t ∷ first_within ts) ++ cond b ts (rest_within ts) ≡ t ∷ ts
    by true = refl
    by false = ap (λ l. t ∷ l) (whole_within ts)

-- less is left
length-rest_within : (ts : List Lexeme) → length (rest_within ts) ≤ length ts
length-rest_within [] = omega arith
length-rest_within (t ∷ ts) = by (ends_piece (symbol t)) (length-rest_within ts)
  where
    by : (b : Bool) → length (rest_within ts) ≤ length ts → length (cond b ts (rest_within ts)) ≤ length (t ∷ ts)
    by true h = omega arith
    by false h = omega arith

pub length-rest_behind : (t : Lexeme) (ts : List Lexeme) → length (rest_behind (t ∷ ts)) < length (t ∷ ts)
length-rest_behind t ts = by (is_piece (symbol t)) (length-rest_within ts)
  where
    by : (b : Bool) → length (rest_within ts) ≤ length ts → length (cond b ts (rest_within ts)) < length (t ∷ ts)
    by true h = omega arith
    by false h = omega arith

-- no semicolon stands among the symbols
abbrev NoEnd : List Symbol → Type 0
NoEnd ss = AllByRecursion (λ (s : Symbol). ends_piece s ≡ false) ss

no_end-append : (a b : List Symbol) → NoEnd a → NoEnd b → NoEnd (a ++ b)
no_end-append a b h k = AllByRecursion-append (λ (s : Symbol). ends_piece s ≡ false) a b h k

no_end-separated : {X : Type 0} (write : X → List Symbol) → ((x : X) → NoEnd (write x)) → (xs : List X) → NoEnd (separated write xs)
no_end-separated write h [] = tt
no_end-separated write h (x ∷ xs) = (refl, no_end-append (write x) (separated write xs) (h x) (no_end-separated write h xs))

no_end-several : {X : Type 0} (write : X → List Symbol) → ((x : X) → NoEnd (write x)) → (s : Several X) → NoEnd (several write s)
no_end-several write h s = no_end-append (write s.first) (separated write s.rest) (h s.first) (no_end-separated write h s.rest)

no_end-listed : {X : Type 0} (write : X → List Symbol) → ((x : X) → NoEnd (write x)) → (xs : List X) → NoEnd (listed write xs)
no_end-listed write h [] = tt
no_end-listed write h (x ∷ xs) = no_end-append (write x) (separated write xs) (h x) (no_end-separated write h xs)

no_end-name : (i : Ident) → NoEnd (name_symbols i)
no_end-name i = (refl, tt)

no_end-wire : (w : Bool) → NoEnd (wire_symbols w)
no_end-wire true = (refl, tt)
no_end-wire false = tt

no_end-bounds : (r : Range) → NoEnd (bounds_symbols r)
no_end-bounds r = (refl, (refl, (refl, (refl, (refl, tt)))))

no_end-range : (o : Option Range) → NoEnd (range_symbols o)
no_end-range None = tt
no_end-range (Some r) = no_end-bounds r

no_end-direction : (d : Direction) → ends_piece (Marked (direction_mark d)) ≡ false
no_end-direction InputPort = refl
no_end-direction OutputPort = refl

no_end-port : (p : HeaderPort) → NoEnd (port_symbols p)
no_end-port p = (
  no_end-direction p.direction,
  no_end-append (wire_symbols p.wire) (range_symbols p.range ++ name_symbols p.name) (no_end-wire p.wire)
      (no_end-append (range_symbols p.range) (name_symbols p.name) (no_end-range p.range) (no_end-name p.name)),
)

no_end-next : (n : NextPort) → NoEnd (next_port_symbols n)
no_end-next (DeclaredNext p) = no_end-port p
no_end-next (Alike i) = no_end-name i

no_end-header : (h : Header) → NoEnd (header_symbols h)
no_end-header Bare = tt
no_end-header (Plain names) = (refl, no_end-append (listed name_symbols names) (Marked RightParenthesis ∷ []) (no_end-listed name_symbols no_end-name names) (refl, tt))
no_end-header (Declared p ps) = (
  refl,
  no_end-append (port_symbols p) (separated next_port_symbols ps ++ Marked RightParenthesis ∷ []) (no_end-port p)
      (no_end-append (separated next_port_symbols ps) (Marked RightParenthesis ∷ []) (no_end-separated next_port_symbols no_end-next ps) (refl, tt)),
)

no_end-selected : (s : Selected) → NoEnd (selected_symbols s)
no_end-selected Whole = tt
no_end-selected (Bit i) = (refl, (refl, (refl, tt)))
no_end-selected (Bits r) = no_end-bounds r

no_end-part : (p : Part) → NoEnd (part_symbols p)
no_end-part p = (refl, no_end-selected p.selected)

no_end-right : (r : Right) → NoEnd (right_symbols r)
no_end-right (Side p) = no_end-part p
no_end-right (ConstantSide b) = (refl, tt)

no_end-assignment : (a : Assignment) → NoEnd (assignment_symbols a)
no_end-assignment a = no_end-append (part_symbols a.left) (Marked Equals ∷ right_symbols a.right) (no_end-part a.left) (refl, no_end-right a.right)

no_end-tied : (t : Tied) → NoEnd (tied_symbols t)
no_end-tied Open = tt
no_end-tied (Net i) = no_end-name i
no_end-tied (BitOf i n) = (refl, (refl, (refl, (refl, tt))))
no_end-tied (Constant b) = (refl, tt)

no_end-connection : (c : Connection) → NoEnd (connection_symbols c)
no_end-connection c = (refl, (refl, (refl, no_end-append (tied_symbols c.tied) (Marked RightParenthesis ∷ []) (no_end-tied c.tied) (refl, tt))))

no_end-instance : (i : Instance) → NoEnd (instance_symbols i)
no_end-instance i = (refl, (refl, no_end-append (listed connection_symbols i.connections) (Marked RightParenthesis ∷ []) (no_end-listed connection_symbols no_end-connection i.connections) (refl, tt)))

no_end-item : (i : Item) → NoEnd (item_symbols i)
no_end-item (Ports p) = (
  no_end-direction p.direction,
  no_end-append (wire_symbols p.wire) (range_symbols p.range ++ several name_symbols p.names) (no_end-wire p.wire)
      (no_end-append (range_symbols p.range) (several name_symbols p.names) (no_end-range p.range) (no_end-several name_symbols no_end-name p.names)),
)
no_end-item (Wires w) = (refl, no_end-append (range_symbols w.range) (several name_symbols w.names) (no_end-range w.range) (no_end-several name_symbols no_end-name w.names))
no_end-item (Assignments s) = (refl, no_end-several assignment_symbols no_end-assignment s)
no_end-item (Instances i) = (refl, no_end-several instance_symbols no_end-instance i.list)

-- a statement doesn't begin with the word that closes the module
not_closing : (d : Direction) → is_mark EndModule (Marked (direction_mark d)) ≡ false
not_closing InputPort = refl
not_closing OutputPort = refl

pub item_not_closing : (i : Item) (rest : List Symbol) → begins EndModule (item_piece i ++ rest) ≡ false
item_not_closing (Ports p) rest = not_closing p.direction
item_not_closing (Wires w) rest = refl
item_not_closing (Assignments s) rest = refl
item_not_closing (Instances i) rest = refl

item_begins : (i : Item) → begins EndModule (item_symbols i) ≡ false
item_begins (Ports p) = not_closing p.direction
item_begins (Wires w) = refl
item_begins (Assignments s) = refl
item_begins (Instances i) = refl

is_no_piece : (s : Symbol) → ends_piece s ≡ false → is_mark EndModule s ≡ false → is_piece s ≡ false
is_no_piece (Marked TheModule) h k = refl
is_no_piece (Marked EndModule) h k = cc
is_no_piece (Marked Input) h k = refl
is_no_piece (Marked Output) h k = refl
is_no_piece (Marked Wire) h k = refl
is_no_piece (Marked Assign) h k = refl
is_no_piece (Marked Comma) h k = refl
is_no_piece (Marked Semicolon) h k = cc
is_no_piece (Marked Colon) h k = refl
is_no_piece (Marked Dot) h k = refl
is_no_piece (Marked Equals) h k = refl
is_no_piece (Marked LeftParenthesis) h k = refl
is_no_piece (Marked RightParenthesis) h k = refl
is_no_piece (Marked LeftBracket) h k = refl
is_no_piece (Marked RightBracket) h k = refl
is_no_piece (Named i) h k = refl
is_no_piece (Counted n) h k = refl
is_no_piece (ConstantBit b) h k = refl
is_no_piece Strange h k = refl

-- symbols up to a semicolon are those of the first piece
first_within_is : (a : List Symbol) (ts : List Lexeme) (rest : List Symbol) → NoEnd a → symbols ts ≡ a ++ Marked Semicolon ∷ rest
    → symbols (first_within ts) ≡ a ++ Marked Semicolon ∷ []
first_within_is [] [] rest h e = cc
first_within_is [] (t ∷ ts) rest h e =
    let first : symbol t ≡ Marked Semicolon = cc in
    rw (ap ends_piece first) (ap (λ s. s ∷ []) first)
first_within_is (s ∷ a) [] rest h e = cc
first_within_is (s ∷ a) (t ∷ ts) rest h e =
    let first : symbol t ≡ s = cc in
    let more : symbols ts ≡ a ++ Marked Semicolon ∷ rest = cc in
    rw (ap ends_piece first ∙ h.0) (ap (λ l. symbol t ∷ l) (first_within_is a ts rest h.1 more) ∙ ap (λ x. x ∷ (a ++ Marked Semicolon ∷ [])) first)

first_piece_is : (a : List Symbol) (ts : List Lexeme) (rest : List Symbol) → NoEnd a → begins EndModule a ≡ false
    → symbols ts ≡ a ++ Marked Semicolon ∷ rest → symbols (first_piece ts) ≡ a ++ Marked Semicolon ∷ []
first_piece_is [] [] rest h b e = cc
first_piece_is [] (t ∷ ts) rest h b e =
    let first : symbol t ≡ Marked Semicolon = cc in
    rw (ap is_piece first) (ap (λ s. s ∷ []) first)
first_piece_is (s ∷ a) [] rest h b e = cc
first_piece_is (s ∷ a) (t ∷ ts) rest h b e =
    let first : symbol t ≡ s = cc in
    let more : symbols ts ≡ a ++ Marked Semicolon ∷ rest = cc in
    rw (ap is_piece first ∙ is_no_piece s h.0 b) (ap (λ l. symbol t ∷ l) (first_within_is a ts rest h.1 more) ∙ ap (λ x. x ∷ (a ++ Marked Semicolon ∷ [])) first)

pub item_first : (ts : List Lexeme) (i : Item) (rest : List Symbol) → symbols ts ≡ item_piece i ++ rest → symbols (first_piece ts) ≡ item_piece i
item_first ts i rest e = first_piece_is (item_symbols i) ts rest (no_end-item i) (item_begins i) (e ∙ closed (item_symbols i) (Marked Semicolon) rest)

pub opening_first : (ts : List Lexeme) (name : Ident) (h : Header) (rest : List Symbol) → symbols ts ≡ opening_piece name h ++ rest
    → symbols (first_piece ts) ≡ opening_piece name h
opening_first ts name h rest e =
    first_piece_is (Marked TheModule ∷ Named name ∷ header_symbols h) ts rest (refl, (refl, no_end-header h)) refl
    (e ∙ ap (λ l. Marked TheModule ∷ Named name ∷ l) (closed (header_symbols h) (Marked Semicolon) rest))
