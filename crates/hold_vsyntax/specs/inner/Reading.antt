-- What the parts of the reader give: each reads one part of the tree from the front of the symbols, and answers it
-- with the symbols behind it, or nothing where the symbols don't begin so. A longer part goes before a shorter one.
-- A word that ends in `_at` reads its part from the front. One in `_in` takes the first symbol and those behind it, one
-- in `_by` also what was found in front, a direction or a constant, and one in `_after` comes behind the first word or
-- sign of its part.
--
-- is_mark m s: whether the symbol is that mark.
-- begins m ss: whether the symbols begin with that mark. behind m ss: the symbols without the mark, where they
--   begin with it. after m ss: the same, and nothing where they begin otherwise.
-- Reads X: what reads an X from the front of the symbols.
-- ◌>>=◌: one reading after another; nothing where one of them gives nothing.
-- more_of read ss: as many as there are, each after a comma; nothing where a comma has none behind it. more_up_to read
--   n ss: the same of at most n.
-- with_front front read: what was read, with those in front of it that were read before.
-- several_at read: one or more, with commas between them.
-- ident_at, number_at, constant_at: an identifier, a number, a constant of one bit. ident_in, number_in, constant_in:
--   the same of a first symbol. direction_at: the word of a direction.
-- range_at: a range, or that there is none where no bracket opens. bounds_after: its two bounds and the closing bracket.
--   right_bound_at left: the right bound and the closing bracket, where the left bound was read.
-- header_port_after direction: a port that the header declares, behind its direction. next_port_at, next_port_by: a later
--   one, which may have its name alone.
-- idents_at: identifiers, at least one, with commas between them. header_at: the ports in the header, with both
--   parentheses; none where no parenthesis opens. port_list_after, port_list_by: the same behind the opening one.
--   plain_at: names alone and the closing one. declared_after direction: ports of which the first has that direction,
--   and the closing one.
-- opening_at: the piece that opens the module, as its name and its header.
-- selected_at: what is selected of a net, all of it where no bracket opens. index_after: the same behind the bracket.
--   bits_after left: a part of a net behind its left bound and the colon. part_at: a net and what is selected of it.
-- right_at, right_by: the right side of an assignment. assignment_at: an assignment.
-- tied_at, tied_by: what a pin is tied to, nothing where the parenthesis closes. tied_net_at: a net or a bit of one.
--   bit_after name: the bit of that net, behind the bracket.
-- connection_at: a connection. connections_at: those of an instance, none where the parenthesis closes. instance_at: an
--   instance.
-- body_ports_after direction, body_wires_after, assignments_after, instances_at: a statement of each sort, without its
--   semicolon. statement_at, statement_by: one of any sort. item_at: the same with its semicolon.
use Rattle.std.specs.Prelude.{ℕ, zero, suc, Bool, false, ◌==◌, List, [], ◌∷◌, ◌++◌, length, drop, if◌then◌else◌, Option, Some, None}
use Rattle.std.specs.Option.{option_and_then}
use Rattle.hold_netlist.specs.declared.wire.Direction.{Direction}
use Rattle.hold_netlist.specs.declared.wire.Direction.TheVariants.{Input as InputPort, Output as OutputPort}
use Rattle.hold_vsyntax.specs.declared.mark.Mark.{Mark}
use Rattle.hold_vsyntax.specs.declared.mark.Mark.TheVariants.{Module as TheModule, Input, Output, Wire, Assign, Comma, Semicolon, Colon, Dot, Equals, LeftParenthesis, RightParenthesis, LeftBracket, RightBracket}
use Rattle.hold_vsyntax.specs.declared.tree.Ident.{Ident}
use Rattle.hold_vsyntax.specs.declared.tree.Several.{Several}
use Rattle.hold_vsyntax.specs.declared.tree.Range.{Range}
use Rattle.hold_vsyntax.specs.declared.tree.HeaderPort.{HeaderPort}
use Rattle.hold_vsyntax.specs.declared.tree.NextPort.{NextPort}
use Rattle.hold_vsyntax.specs.declared.tree.NextPort.TheVariants.{Declared as DeclaredNext, Alike}
use Rattle.hold_vsyntax.specs.declared.tree.Header.{Header}
use Rattle.hold_vsyntax.specs.declared.tree.Header.TheVariants.{Bare, Plain, Declared}
use Rattle.hold_vsyntax.specs.declared.tree.Selected.{Selected}
use Rattle.hold_vsyntax.specs.declared.tree.Selected.TheVariants.{Whole, Bit, Part as Bits}
use Rattle.hold_vsyntax.specs.declared.tree.Part.{Part}
use Rattle.hold_vsyntax.specs.declared.tree.Right.{Right}
use Rattle.hold_vsyntax.specs.declared.tree.Right.TheVariants.{Net as Side, Constant as ConstantSide}
use Rattle.hold_vsyntax.specs.declared.tree.Assignment.{Assignment}
use Rattle.hold_vsyntax.specs.declared.tree.Tied.{Tied}
use Rattle.hold_vsyntax.specs.declared.tree.Tied.TheVariants.{Open, Net, Bit as BitOf, Constant}
use Rattle.hold_vsyntax.specs.declared.tree.Connection.{Connection}
use Rattle.hold_vsyntax.specs.declared.tree.Instance.{Instance}
use Rattle.hold_vsyntax.specs.declared.tree.Item.{Item}
use Rattle.hold_vsyntax.specs.declared.tree.Item.TheVariants.{Ports, Wires, Assignments, Instances as InstancesOf}
use Rattle.hold_vsyntax.specs.Symbols.{Symbol, Marked, Named, Counted, Tied as ConstantBit, Strange}
use Rattle.hold_vsyntax.specs.inner.Symbols.{mark_number}

infixl 10 ◌>>=◌
abbrev pub ◌>>=◌ : {A B : Type 0} → Option A → (A → Option B) → Option B
o >>= f = option_and_then f o

abbrev pub is_mark : Mark → Symbol → Bool
is_mark m (Marked n) = mark_number m == mark_number n
is_mark m (Named i) = false
is_mark m (Counted n) = false
is_mark m (ConstantBit b) = false
is_mark m Strange = false

abbrev pub begins : Mark → List Symbol → Bool
begins m [] = false
begins m (s ∷ ss) = is_mark m s

abbrev pub behind : Mark → List Symbol → List Symbol
behind m ss = if begins m ss then drop 1 ss else ss

abbrev pub after : Mark → List Symbol → Option (List Symbol)
after m ss = if begins m ss then Some (drop 1 ss) else None

abbrev pub Reads : Type 0 → Type 0
Reads X = List Symbol → Option (X × List Symbol)

abbrev pub more_up_to : {X : Type 0} → Reads X → ℕ → Reads (List X)
more_up_to read zero ss = Some ([], ss)
more_up_to read (suc n) ss =
    if begins Comma ss then
    (read (drop 1 ss) >>= λ x. more_up_to read n x.1 >>= λ xs. Some (x.0 ∷ xs.0, xs.1))
    else Some ([], ss)

unfoldable pub more_of : {X : Type 0} → Reads X → Reads (List X)
more_of read ss = more_up_to read (length ss) ss

abbrev pub with_front : {X : Type 0} → List X → Option (List X × List Symbol) → Option (List X × List Symbol)
with_front front None = None
with_front front (Some read) = Some (front ++ read.0, read.1)

abbrev pub several_at : {X : Type 0} → Reads X → Reads (Several X)
several_at read ss = read ss >>= λ x. more_of read x.1 >>= λ xs. Some (record { first = x.0; rest = xs.0 }, xs.1)

abbrev pub ident_in : Symbol → List Symbol → Option (Ident × List Symbol)
ident_in (Named i) ss = Some (i, ss)
ident_in (Marked m) ss = None
ident_in (Counted n) ss = None
ident_in (ConstantBit b) ss = None
ident_in Strange ss = None

abbrev pub ident_at : Reads Ident
ident_at [] = None
ident_at (s ∷ ss) = ident_in s ss

abbrev pub number_in : Symbol → List Symbol → Option (ℕ × List Symbol)
number_in (Counted n) ss = Some (n, ss)
number_in (Marked m) ss = None
number_in (Named i) ss = None
number_in (ConstantBit b) ss = None
number_in Strange ss = None

abbrev pub number_at : Reads ℕ
number_at [] = None
number_at (s ∷ ss) = number_in s ss

abbrev pub constant_in : Symbol → List Symbol → Option (Bool × List Symbol)
constant_in (ConstantBit b) ss = Some (b, ss)
constant_in (Marked m) ss = None
constant_in (Named i) ss = None
constant_in (Counted n) ss = None
constant_in Strange ss = None

abbrev pub constant_at : Reads Bool
constant_at [] = None
constant_at (s ∷ ss) = constant_in s ss

abbrev pub direction_at : Reads Direction
direction_at ss =
    if begins Input ss then Some (InputPort, drop 1 ss)
    else (if begins Output ss then Some (OutputPort, drop 1 ss) else None)

abbrev pub right_bound_at : ℕ → Reads Range
right_bound_at left ss =
    number_at ss >>= λ right. after RightBracket right.1 >>= λ rest. Some (record { left = left; right = right.0 }, rest)

unfoldable pub bounds_after : Reads Range
bounds_after ss = number_at ss >>= λ left. after Colon left.1 >>= λ rest. right_bound_at left.0 rest

unfoldable pub range_at : Reads (Option Range)
range_at ss =
    if begins LeftBracket ss then (bounds_after (drop 1 ss) >>= λ r. Some (Some r.0, r.1)) else Some (None, ss)

unfoldable pub header_port_after : Direction → Reads HeaderPort
header_port_after direction ss =
    range_at (behind Wire ss) >>= λ range. ident_at range.1 >>= λ name.
    Some (record { direction = direction; wire = begins Wire ss; range = range.0; name = name.0 }, name.1)

abbrev pub next_port_by : Option (Direction × List Symbol) → List Symbol → Option (NextPort × List Symbol)
next_port_by (Some d) ss = header_port_after d.0 d.1 >>= λ p. Some (DeclaredNext p.0, p.1)
next_port_by None ss = ident_at ss >>= λ name. Some (Alike name.0, name.1)

unfoldable pub next_port_at : Reads NextPort
next_port_at ss = next_port_by (direction_at ss) ss

unfoldable pub declared_after : Direction → Reads Header
declared_after direction ss =
    header_port_after direction ss >>= λ first. more_of next_port_at first.1 >>= λ rest.
    after RightParenthesis rest.1 >>= λ end. Some (Declared first.0 rest.0, end)

unfoldable pub idents_at : Reads (List Ident)
idents_at ss = ident_at ss >>= λ first. with_front (first.0 ∷ []) (more_of ident_at first.1)

unfoldable pub plain_at : Reads Header
plain_at ss =
    idents_at ss >>= λ names. after RightParenthesis names.1 >>= λ end. Some (Plain names.0, end)

abbrev pub port_list_by : Option (Direction × List Symbol) → List Symbol → Option (Header × List Symbol)
port_list_by (Some d) ss = declared_after d.0 d.1
port_list_by None ss = plain_at ss

unfoldable pub port_list_after : Reads Header
port_list_after ss =
    if begins RightParenthesis ss then Some (Plain [], drop 1 ss) else port_list_by (direction_at ss) ss

unfoldable pub header_at : Reads Header
header_at ss = if begins LeftParenthesis ss then port_list_after (drop 1 ss) else Some (Bare, ss)

unfoldable pub opening_at : Reads (Ident × Header)
opening_at ss =
    after TheModule ss >>= λ rest. ident_at rest >>= λ name. header_at name.1 >>= λ header.
    after Semicolon header.1 >>= λ end. Some ((name.0, header.0), end)

abbrev pub bits_after : ℕ → Reads Selected
bits_after left ss = right_bound_at left ss >>= λ r. Some (Bits r.0, r.1)

unfoldable pub index_after : Reads Selected
index_after ss =
    number_at ss >>= λ left.
    if begins RightBracket left.1 then Some (Bit left.0, drop 1 left.1) else (after Colon left.1 >>= λ rest. bits_after left.0 rest)

unfoldable pub selected_at : Reads Selected
selected_at ss = if begins LeftBracket ss then index_after (drop 1 ss) else Some (Whole, ss)

unfoldable pub part_at : Reads Part
part_at ss = ident_at ss >>= λ net. selected_at net.1 >>= λ s. Some (record { net = net.0; selected = s.0 }, s.1)

abbrev pub right_by : Option (Bool × List Symbol) → List Symbol → Option (Right × List Symbol)
right_by (Some b) ss = Some (ConstantSide b.0, b.1)
right_by None ss = part_at ss >>= λ p. Some (Side p.0, p.1)

unfoldable pub right_at : Reads Right
right_at ss = right_by (constant_at ss) ss

unfoldable pub assignment_at : Reads Assignment
assignment_at ss =
    part_at ss >>= λ left. after Equals left.1 >>= λ rest. right_at rest >>= λ right.
    Some (record { left = left.0; right = right.0 }, right.1)

unfoldable pub bit_after : Ident → Reads Tied
bit_after name ss = number_at ss >>= λ index. after RightBracket index.1 >>= λ end. Some (BitOf name index.0, end)

unfoldable pub tied_net_at : Reads Tied
tied_net_at ss =
    ident_at ss >>= λ name. if begins LeftBracket name.1 then bit_after name.0 (drop 1 name.1) else Some (Net name.0, name.1)

abbrev pub tied_by : Option (Bool × List Symbol) → List Symbol → Option (Tied × List Symbol)
tied_by (Some b) ss = Some (Constant b.0, b.1)
tied_by None ss = tied_net_at ss

unfoldable pub tied_at : Reads Tied
tied_at ss = if begins RightParenthesis ss then Some (Open, ss) else tied_by (constant_at ss) ss

unfoldable pub connection_at : Reads Connection
connection_at ss =
    after Dot ss >>= λ dot. ident_at dot >>= λ pin. after LeftParenthesis pin.1 >>= λ inside.
    tied_at inside >>= λ tied. after RightParenthesis tied.1 >>= λ end. Some (record { pin = pin.0; tied = tied.0 }, end)

unfoldable pub connections_at : Reads (List Connection)
connections_at ss =
    if begins RightParenthesis ss then Some ([], ss)
    else (connection_at ss >>= λ first. with_front (first.0 ∷ []) (more_of connection_at first.1))

unfoldable pub instance_at : Reads Instance
instance_at ss =
    ident_at ss >>= λ name. after LeftParenthesis name.1 >>= λ inside. connections_at inside >>= λ connections.
    after RightParenthesis connections.1 >>= λ end. Some (record { name = name.0; connections = connections.0 }, end)

unfoldable pub body_ports_after : Direction → Reads Item
body_ports_after direction ss =
    range_at (behind Wire ss) >>= λ range. several_at ident_at range.1 >>= λ names.
    Some (Ports (record { direction = direction; wire = begins Wire ss; range = range.0; names = names.0 }), names.1)

unfoldable pub body_wires_after : Reads Item
body_wires_after ss =
    range_at ss >>= λ range. several_at ident_at range.1 >>= λ names.
    Some (Wires (record { range = range.0; names = names.0 }), names.1)

unfoldable pub assignments_after : Reads Item
assignments_after ss = several_at assignment_at ss >>= λ s. Some (Assignments s.0, s.1)

unfoldable pub instances_at : Reads Item
instances_at ss =
    ident_at ss >>= λ kind. several_at instance_at kind.1 >>= λ s.
    Some (InstancesOf (record { kind = kind.0; list = s.0 }), s.1)

abbrev pub statement_by : Option (Direction × List Symbol) → List Symbol → Option (Item × List Symbol)
statement_by (Some d) ss = body_ports_after d.0 d.1
statement_by None ss =
    if begins Wire ss then body_wires_after (drop 1 ss)
    else (if begins Assign ss then assignments_after (drop 1 ss) else instances_at ss)

unfoldable pub statement_at : Reads Item
statement_at ss = statement_by (direction_at ss) ss

unfoldable pub item_at : Reads Item
item_at ss = statement_at ss >>= λ item. after Semicolon item.1 >>= λ end. Some (item.0, end)
