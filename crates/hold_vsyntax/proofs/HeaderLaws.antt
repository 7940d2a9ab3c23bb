-- The piece that opens a module is read as it is written, and written as it is read.
use Rattle.std.proofs.Common.{◌≡◌, List, [], ◌∷◌, ◌++◌, drop, refl, sym, ap, true, false, ◌∙◌, ◌⊎◌, inl, inr, append_assoc}
use Rattle.std.specs.Prelude.{Option, Some, None}
use Rattle.hold_base.proofs.Bools.{cond-cases}
use Rattle.hold_base.proofs.Options.{option_and_then-Some}
use Rattle.hold_netlist.specs.declared.wire.Direction.{Direction}
use Rattle.hold_netlist.specs.declared.wire.Direction.TheVariants.{Input as InputPort, Output as OutputPort}
use Rattle.hold_vsyntax.specs.declared.mark.Mark.TheVariants.{Module as TheModule, Comma, Semicolon, LeftBracket, LeftParenthesis, RightParenthesis}
use Rattle.hold_vsyntax.specs.declared.tree.Ident.{Ident}
use Rattle.hold_vsyntax.specs.declared.tree.HeaderPort.{HeaderPort}
use Rattle.hold_vsyntax.specs.declared.tree.NextPort.{NextPort}
use Rattle.hold_vsyntax.specs.declared.tree.Header.{Header}
use Rattle.hold_vsyntax.specs.declared.tree.Header.TheVariants.{Bare, Plain, Declared}
use Rattle.hold_vsyntax.specs.Symbols.{Symbol, Marked, Named}
use Rattle.hold_vsyntax.specs.Grammar.{separated, listed, name_symbols, direction_mark, wire_symbols, range_symbols, port_symbols, next_port_symbols, header_symbols}
use Rattle.hold_vsyntax.specs.inner.Reading.{begins, after, more_of, ident_at, idents_at, direction_at, header_port_after, next_port_at, declared_after, plain_at, port_list_by, port_list_after, header_at, opening_at}
use Rattle.hold_vsyntax.proofs.ReadingLemmas.{ends, begins_is, after_ok, ident_ok, direction_ok, front_ok, more_sound, more_complete, ident_laws}
use Rattle.hold_vsyntax.proofs.PortLaws.{header_port_sound, header_port_complete, port_grouped, next_port_laws}

-- what is closed by a mark, and what stands behind it
pub closed : (a : List Symbol) (s : Symbol) (rest : List Symbol) → (a ++ s ∷ []) ++ rest ≡ a ++ s ∷ rest
closed a s rest = append_assoc a (s ∷ []) rest

pub closed_twice : (a b : List Symbol) (s : Symbol) (rest : List Symbol) → (a ++ (b ++ s ∷ [])) ++ rest ≡ a ++ (b ++ s ∷ rest)
closed_twice a b s rest = append_assoc a (b ++ s ∷ []) rest ∙ ap (λ l. a ++ l) (closed b s rest)

idents_sound : (ss : List Symbol) (names : List Ident) (rest : List Symbol) → idents_at ss ≡ Some (names, rest) → ss ≡ listed name_symbols names ++ rest
unfolding idents_at
idents_sound ss names rest h =
    let first = option_and_then-Some _ (ident_at ss) (names, rest) h in
    let more = front_ok first.0.0 (more_of ident_at first.0.1) (names, rest) first.2 in
    ident_ok ss first.0.0 first.0.1 first.1
    ∙ ap (λ l. Named first.0.0 ∷ l) (more_sound name_symbols ident_at ident_laws first.0.1 more.0.0 more.0.1 more.1)
    ∙ ends (listed name_symbols) (first.0.0 ∷ more.0.0) names more.0.1 rest more.2

idents_complete : (i : Ident) (is : List Ident) (rest : List Symbol) → begins LeftBracket rest ≡ false → begins Comma rest ≡ false
    → idents_at (Named i ∷ (separated name_symbols is ++ rest)) ≡ Some (i ∷ is, rest)
unfolding idents_at
idents_complete i is rest h k = rw (more_complete name_symbols ident_at ident_laws is rest h k) refl

declared_sound : (d : Direction) (ss : List Symbol) (h : Header) (rest : List Symbol) → declared_after d ss ≡ Some (h, rest)
    → Marked LeftParenthesis ∷ Marked (direction_mark d) ∷ ss ≡ header_symbols h ++ rest
unfolding declared_after
declared_sound d ss h rest e =
    let first = option_and_then-Some _ (header_port_after d ss) (h, rest) e in
    let more = option_and_then-Some _ (more_of next_port_at first.0.1) (h, rest) first.2 in
    let end = option_and_then-Some _ (after RightParenthesis more.0.1) (h, rest) more.2 in
    let front = header_port_sound d ss first.0.0 first.0.1 first.1 in
    let back = more_sound next_port_symbols next_port_at next_port_laws first.0.1 more.0.0 more.0.1 more.1
    ∙ ap (λ l. separated next_port_symbols more.0.0 ++ l) (after_ok RightParenthesis more.0.1 end.0 end.1) in
    ap (λ l. Marked LeftParenthesis ∷ l) (front ∙ ap (λ l. port_symbols first.0.0 ++ l) back
    ∙ sym (closed_twice (port_symbols first.0.0) (separated next_port_symbols more.0.0) (Marked RightParenthesis) end.0))
    ∙ ends header_symbols (Declared first.0.0 more.0.0) h end.0 rest end.2

plain_sound : (ss : List Symbol) (h : Header) (rest : List Symbol) → plain_at ss ≡ Some (h, rest) → Marked LeftParenthesis ∷ ss ≡ header_symbols h ++ rest
unfolding plain_at
plain_sound ss h rest e =
    let names = option_and_then-Some _ (idents_at ss) (h, rest) e in
    let end = option_and_then-Some _ (after RightParenthesis names.0.1) (h, rest) names.2 in
    ap (λ l. Marked LeftParenthesis ∷ l) (idents_sound ss names.0.0 names.0.1 names.1
    ∙ ap (λ l. listed name_symbols names.0.0 ++ l) (after_ok RightParenthesis names.0.1 end.0 end.1)
    ∙ sym (closed (listed name_symbols names.0.0) (Marked RightParenthesis) end.0))
    ∙ ends header_symbols (Plain names.0.0) h end.0 rest end.2

port_list_sound : (ss : List Symbol) (h : Header) (rest : List Symbol) → port_list_after ss ≡ Some (h, rest)
    → Marked LeftParenthesis ∷ ss ≡ header_symbols h ++ rest
unfolding port_list_after
port_list_sound ss h rest e = by (cond-cases (begins RightParenthesis ss) _ _ (Some (h, rest)) e)
  where
    or : (o : Option (Direction × List Symbol)) → direction_at ss ≡ o → port_list_by o ss ≡ Some (h, rest) → Marked LeftParenthesis ∷ ss ≡ header_symbols h ++ rest
    or (Some d) is k = ap (λ l. Marked LeftParenthesis ∷ l) (direction_ok ss d.0 d.1 is) ∙ declared_sound d.0 d.1 h rest k
    or None is k = plain_sound ss h rest k

    by : ((begins RightParenthesis ss ≡ true) × (◌≡◌ {A = Option (Header × List Symbol)} (Some (Plain [], drop 1 ss)) (Some (h, rest))))
        ⊎ ((begins RightParenthesis ss ≡ false) × (port_list_by (direction_at ss) ss ≡ Some (h, rest))) → Marked LeftParenthesis ∷ ss ≡ header_symbols h ++ rest
    by (inl k) = ap (λ l. Marked LeftParenthesis ∷ l) (begins_is RightParenthesis ss k.0) ∙ ends header_symbols (Plain []) h (drop 1 ss) rest k.1
    by (inr k) = or (direction_at ss) refl k.1

header_sound : (ss : List Symbol) (h : Header) (rest : List Symbol) → header_at ss ≡ Some (h, rest) → ss ≡ header_symbols h ++ rest
unfolding header_at
header_sound ss h rest e = by (cond-cases (begins LeftParenthesis ss) _ _ (Some (h, rest)) e)
  where
    by : ((begins LeftParenthesis ss ≡ true) × (port_list_after (drop 1 ss) ≡ Some (h, rest)))
        ⊎ ((begins LeftParenthesis ss ≡ false) × (◌≡◌ {A = Option (Header × List Symbol)} (Some (Bare, ss)) (Some (h, rest)))) → ss ≡ header_symbols h ++ rest
    by (inl k) = begins_is LeftParenthesis ss k.0 ∙ port_list_sound (drop 1 ss) h rest k.1
    by (inr k) = ends header_symbols Bare h ss rest k.1

-- a list whose first port has a direction
port_list_declared : (d : Direction) (ss : List Symbol) → port_list_after (Marked (direction_mark d) ∷ ss) ≡ declared_after d ss
unfolding port_list_after
port_list_declared InputPort ss = refl
port_list_declared OutputPort ss = refl

declared_complete : (p : HeaderPort) (ps : List NextPort) (rest : List Symbol)
    → declared_after p.direction (wire_symbols p.wire ++ (range_symbols p.range ++ Named p.name ∷ (separated next_port_symbols ps ++ Marked RightParenthesis ∷ rest)))
    ≡ Some (Declared p ps, rest)
unfolding declared_after
declared_complete p ps rest =
    rw (
      header_port_complete p (separated next_port_symbols ps ++ Marked RightParenthesis ∷ rest),
      more_complete next_port_symbols next_port_at next_port_laws ps (Marked RightParenthesis ∷ rest) refl refl,
    ) refl

empty_complete : (rest : List Symbol) → header_at (header_symbols (Plain []) ++ rest) ≡ Some (Plain [], rest)
unfolding header_at port_list_after
empty_complete rest = refl

names_complete : (i : Ident) (is : List Ident) (rest : List Symbol)
    → header_at (Marked LeftParenthesis ∷ Named i ∷ (separated name_symbols is ++ Marked RightParenthesis ∷ rest)) ≡ Some (Plain (i ∷ is), rest)
unfolding header_at port_list_after plain_at
names_complete i is rest = rw (idents_complete i is (Marked RightParenthesis ∷ rest) refl refl) refl

header_complete : (h : Header) (rest : List Symbol) → header_at (header_symbols h ++ Marked Semicolon ∷ rest) ≡ Some (h, Marked Semicolon ∷ rest)
unfolding header_at
header_complete Bare rest = refl
header_complete (Plain []) rest = empty_complete (Marked Semicolon ∷ rest)
header_complete (Plain (i ∷ is)) rest =
    ap (λ l. header_at (Marked LeftParenthesis ∷ l)) (closed (listed name_symbols (i ∷ is)) (Marked RightParenthesis) (Marked Semicolon ∷ rest))
    ∙ names_complete i is (Marked Semicolon ∷ rest)
header_complete (Declared p ps) rest =
    ap (λ l. header_at (Marked LeftParenthesis ∷ l))
    (closed_twice (port_symbols p) (separated next_port_symbols ps) (Marked RightParenthesis) (Marked Semicolon ∷ rest)
    ∙ port_grouped p (separated next_port_symbols ps ++ Marked RightParenthesis ∷ Marked Semicolon ∷ rest))
    ∙ port_list_declared p.direction _ ∙ declared_complete p ps (Marked Semicolon ∷ rest)

-- the piece that opens a module of that name and header
abbrev pub opening_piece : Ident → Header → List Symbol
opening_piece name h = Marked TheModule ∷ Named name ∷ (header_symbols h ++ Marked Semicolon ∷ [])

pub opening_sound : (ss : List Symbol) (name : Ident) (h : Header) (rest : List Symbol) → opening_at ss ≡ Some ((name, h), rest)
    → ss ≡ opening_piece name h ++ rest
unfolding opening_at
opening_sound ss name h rest e =
    let start = option_and_then-Some _ (after TheModule ss) ((name, h), rest) e in
    let i = option_and_then-Some _ (ident_at start.0) ((name, h), rest) start.2 in
    let header = option_and_then-Some _ (header_at i.0.1) ((name, h), rest) i.2 in
    let end = option_and_then-Some _ (after Semicolon header.0.1) ((name, h), rest) header.2 in
    let first = after_ok TheModule ss start.0 start.1 in
    let second = ident_ok start.0 i.0.0 i.0.1 i.1 in
    let front : ss ≡ Marked TheModule ∷ Named i.0.0 ∷ i.0.1 = cc in
    let back = header_sound i.0.1 header.0.0 header.0.1 header.1 ∙ ap (λ l. header_symbols header.0.0 ++ l) (after_ok Semicolon header.0.1 end.0 end.1)
    ∙ sym (closed (header_symbols header.0.0) (Marked Semicolon) end.0) in
    front ∙ ap (λ l. Marked TheModule ∷ Named i.0.0 ∷ l) back
    ∙ ends (λ (x : Ident × Header). opening_piece x.0 x.1) (i.0.0, header.0.0) (name, h) end.0 rest end.2

pub opening_complete : (name : Ident) (h : Header) (rest : List Symbol) → opening_at (opening_piece name h ++ rest) ≡ Some ((name, h), rest)
unfolding opening_at
opening_complete name h rest =
    ap (λ l. opening_at (Marked TheModule ∷ Named name ∷ l)) (closed (header_symbols h) (Marked Semicolon) rest)
    ∙ rw (header_complete h rest) refl
