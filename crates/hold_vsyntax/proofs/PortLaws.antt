-- A port that is read is written so, and one that is written is read.
use Rattle.std.proofs.Common.{◌≡◌, List, [], ◌∷◌, ◌++◌, refl, sym, ap, Bool, true, false, ◌∙◌, append_assoc}
use Rattle.std.specs.Prelude.{Option, Some, None}
use Rattle.hold_base.proofs.Options.{option_and_then-Some}
use Rattle.hold_netlist.specs.declared.wire.Direction.{Direction}
use Rattle.hold_netlist.specs.declared.wire.Direction.TheVariants.{Input as InputPort, Output as OutputPort}
use Rattle.hold_vsyntax.specs.declared.mark.Mark.TheVariants.{Wire}
use Rattle.hold_vsyntax.specs.declared.tree.Ident.{Ident}
use Rattle.hold_vsyntax.specs.declared.tree.Range.{Range}
use Rattle.hold_vsyntax.specs.declared.tree.HeaderPort.{HeaderPort}
use Rattle.hold_vsyntax.specs.declared.tree.NextPort.{NextPort}
use Rattle.hold_vsyntax.specs.declared.tree.NextPort.TheVariants.{Declared as DeclaredNext, Alike}
use Rattle.hold_vsyntax.specs.Symbols.{Symbol, Marked, Named}
use Rattle.hold_vsyntax.specs.Grammar.{direction_mark, wire_symbols, range_symbols, port_symbols, next_port_symbols}
use Rattle.hold_vsyntax.specs.inner.Reading.{begins, behind, range_at, ident_at, direction_at, header_port_after, next_port_by, next_port_at}
use Rattle.hold_vsyntax.proofs.ReadingLemmas.{ends, ident_ok, direction_ok, wire_ok, Spells, Shrinks, shrinks}
use Rattle.hold_vsyntax.proofs.RangeLaws.{range_sound, range_complete}

pub direction_complete : (d : Direction) (rest : List Symbol) → direction_at (Marked (direction_mark d) ∷ rest) ≡ Some (d, rest)
direction_complete InputPort rest = refl
direction_complete OutputPort rest = refl

-- the word `wire` before a range and a name
pub wire_seen : (w : Bool) (o : Option Range) (i : Ident) (rest : List Symbol)
    → begins Wire (wire_symbols w ++ (range_symbols o ++ Named i ∷ rest)) ≡ w
wire_seen true o i rest = refl
wire_seen false None i rest = refl
wire_seen false (Some r) i rest = refl

pub wire_behind : (w : Bool) (o : Option Range) (i : Ident) (rest : List Symbol)
    → behind Wire (wire_symbols w ++ (range_symbols o ++ Named i ∷ rest)) ≡ range_symbols o ++ Named i ∷ rest
wire_behind true o i rest = refl
wire_behind false None i rest = refl
wire_behind false (Some r) i rest = refl

pub header_port_sound : (d : Direction) (ss : List Symbol) (p : HeaderPort) (rest : List Symbol) → header_port_after d ss ≡ Some (p, rest)
    → Marked (direction_mark d) ∷ ss ≡ port_symbols p ++ rest
unfolding header_port_after
header_port_sound d ss p rest h =
    let range = option_and_then-Some _ (range_at (behind Wire ss)) (p, rest) h in
    let name = option_and_then-Some _ (ident_at range.0.1) (p, rest) range.2 in
    let first = wire_ok ss in
    let second = range_sound (behind Wire ss) range.0.0 range.0.1 range.1 in
    let third = ident_ok range.0.1 name.0.0 name.0.1 name.1 in
    ap (λ l. Marked (direction_mark d) ∷ l)
    (first ∙ ap (λ l. wire_symbols (begins Wire ss) ++ l) (second ∙ ap (λ l. range_symbols range.0.0 ++ l) third)
    ∙ grouped (wire_symbols (begins Wire ss)) (range_symbols range.0.0) (Named name.0.0) name.0.1)
    ∙ ends port_symbols (record { direction = d; wire = begins Wire ss; range = range.0.0; name = name.0.0 }) p name.0.1 rest name.2
  where
    grouped : (a b : List Symbol) (s : Symbol) (r : List Symbol) → a ++ (b ++ s ∷ r) ≡ (a ++ (b ++ s ∷ [])) ++ r
    grouped a b s r = sym (append_assoc a (b ++ s ∷ []) r ∙ ap (λ l. a ++ l) (append_assoc b (s ∷ []) r))

pub header_port_complete : (p : HeaderPort) (rest : List Symbol)
    → header_port_after p.direction (wire_symbols p.wire ++ (range_symbols p.range ++ Named p.name ∷ rest)) ≡ Some (p, rest)
unfolding header_port_after
header_port_complete p rest =
    rw (wire_behind p.wire p.range p.name rest, wire_seen p.wire p.range p.name rest, range_complete p.range (Named p.name ∷ rest) refl) refl

-- the symbols of a port and what stands behind them
pub port_grouped : (p : HeaderPort) (rest : List Symbol)
    → port_symbols p ++ rest ≡ Marked (direction_mark p.direction) ∷ (wire_symbols p.wire ++ (range_symbols p.range ++ Named p.name ∷ rest))
port_grouped p rest = ap (λ l. Marked (direction_mark p.direction) ∷ l)
    (append_assoc (wire_symbols p.wire) (range_symbols p.range ++ Named p.name ∷ []) rest
    ∙ ap (λ l. wire_symbols p.wire ++ l) (append_assoc (range_symbols p.range) (Named p.name ∷ []) rest))

next_port_sound : (ss : List Symbol) (n : NextPort) (rest : List Symbol) → next_port_at ss ≡ Some (n, rest) → ss ≡ next_port_symbols n ++ rest
unfolding next_port_at
next_port_sound ss n rest h = by (direction_at ss) refl h
  where
    declared : HeaderPort × List Symbol → Option (NextPort × List Symbol)
    declared p = Some (DeclaredNext p.0, p.1)

    alike : Ident × List Symbol → Option (NextPort × List Symbol)
    alike i = Some (Alike i.0, i.1)

    by : (o : Option (Direction × List Symbol)) → direction_at ss ≡ o → next_port_by o ss ≡ Some (n, rest) → ss ≡ next_port_symbols n ++ rest
    by (Some d) e k =
        let p = option_and_then-Some declared (header_port_after d.0 d.1) (n, rest) k in
        direction_ok ss d.0 d.1 e ∙ header_port_sound d.0 d.1 p.0.0 p.0.1 p.1 ∙ ends next_port_symbols (DeclaredNext p.0.0) n p.0.1 rest p.2
    by None e k =
        let i = option_and_then-Some alike (ident_at ss) (n, rest) k in
        ident_ok ss i.0.0 i.0.1 i.1 ∙ ends next_port_symbols (Alike i.0.0) n i.0.1 rest i.2

next_port_complete : (n : NextPort) (rest : List Symbol) → next_port_at (next_port_symbols n ++ rest) ≡ Some (n, rest)
unfolding next_port_at
next_port_complete (DeclaredNext p) rest =
    ap next_port_at (port_grouped p rest)
    ∙ rw (direction_complete p.direction (wire_symbols p.wire ++ (range_symbols p.range ++ Named p.name ∷ rest)), header_port_complete p rest) refl
next_port_complete (Alike i) rest = refl

pub next_port_laws : Spells next_port_symbols next_port_at
next_port_laws = record { sound = next_port_sound; complete = λ n rest h. next_port_complete n rest }

pub next_port_shrinks : Shrinks next_port_at
next_port_shrinks = shrinks next_port_symbols next_port_at next_port_laws
