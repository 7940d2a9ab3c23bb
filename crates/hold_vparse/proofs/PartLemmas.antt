-- The lists of a module from the lists that the passes make.
use Rattle.std.proofs.Common.{◌≡◌, ℕ, List, ◌++◌, sym, ap, ◌∙◌, map, append_assoc}
use Rattle.std.proofs.lemmas.List.{map-append}
use Rattle.hold_netlist.specs.declared.wire.Wire.{Wire}
use Rattle.hold_vsyntax.specs.declared.tree.Ident.{Ident}
use Rattle.hold_vsyntax.specs.declared.tree.Module.{Module}
use Rattle.hold_vparse.specs.DoubleNames.{Mention, mentions}
use Rattle.hold_vparse.specs.Lines.{PortLine, WireLine, header_names, header_lines, body_lines, ports_of, wire_lines}
use Rattle.hold_vparse.specs.Nets.{names, port_idents, declared_names, nets}
use Rattle.hold_vparse.specs.inner.Uses.{used, wires_of}
use Rattle.hold_vparse.proofs.UseLemmas.{used-mentions}

names-append : (xs ys : List Ident) → names (xs ++ ys) ≡ names xs ++ names ys
names-append xs ys = map-append (λ (i : Ident). i.name) xs ys

-- the declared names from the lists of identifiers
pub declared_names-lists : (m : Module) (ports : List PortLine) (wires : List WireLine) (idents : List Ident) → ports ≡ header_lines m.header ++ body_lines m.items → wires ≡ wire_lines m.items
    → idents ≡ header_names m.header ++ (map (λ (l : PortLine). l.name) ports ++ map (λ (l : WireLine). l.name) wires) → names idents ≡ declared_names m
declared_names-lists m ports wires idents p w e =
    let lines : map (λ (l : PortLine). l.name) ports ≡ map (λ (l : PortLine). l.name) (header_lines m.header) ++ map (λ (l : PortLine). l.name) (body_lines m.items) =
    ap (map (λ (l : PortLine). l.name)) p ∙ map-append (λ (l : PortLine). l.name) (header_lines m.header) (body_lines m.items) in
    let all : idents ≡ port_idents m ++ (map (λ (l : PortLine). l.name) (body_lines m.items) ++ map (λ (l : WireLine). l.name) (wire_lines m.items)) =
    e ∙ ap (λ (is : List Ident). header_names m.header ++ (is ++ map (λ (l : WireLine). l.name) wires)) lines
    ∙ ap (λ (ws : List WireLine). header_names m.header ++ ((map (λ (l : PortLine). l.name) (header_lines m.header) ++ map (λ (l : PortLine). l.name) (body_lines m.items)) ++ map (λ (l : WireLine). l.name) ws)) w
    ∙ ap (λ (is : List Ident). header_names m.header ++ is) (append_assoc (map (λ (l : PortLine). l.name) (header_lines m.header)) (map (λ (l : PortLine). l.name) (body_lines m.items)) (map (λ (l : WireLine). l.name) (wire_lines m.items)))
    ∙ sym (append_assoc (header_names m.header) (map (λ (l : PortLine). l.name) (header_lines m.header)) (map (λ (l : PortLine). l.name) (body_lines m.items) ++ map (λ (l : WireLine). l.name) (wire_lines m.items))) in
    ap names all ∙ names-append (port_idents m) _ ∙ ap (λ (ns : List (List ℕ)). names (port_idents m) ++ ns) (names-append (map (λ (l : PortLine). l.name) (body_lines m.items)) (map (λ (l : WireLine). l.name) (wire_lines m.items)))

-- all nets from the lists
pub nets-lists : (m : Module) (ports : List PortLine) (headed : List Ident) (lines : List WireLine) (declared : List (List ℕ)) (ms : List Mention) (wires : List Wire)
    → ports ≡ ports_of m → headed ≡ header_names m.header ++ map (λ (l : PortLine). l.name) (header_lines m.header) → lines ≡ wire_lines m.items → declared ≡ declared_names m → ms ≡ mentions m
    → wires ≡ wires_of ports (names headed) lines declared (used ms) → wires ≡ nets m
nets-lists m ports headed lines declared ms wires p h l d u e =
    e ∙ ap (λ (ps : List PortLine). wires_of ps (names headed) lines declared (used ms)) p
    ∙ ap (λ (is : List Ident). wires_of (ports_of m) (names is) lines declared (used ms)) h
    ∙ ap (λ (ws : List WireLine). wires_of (ports_of m) (names (port_idents m)) ws declared (used ms)) l
    ∙ ap (λ (ns : List (List ℕ)). wires_of (ports_of m) (names (port_idents m)) (wire_lines m.items) ns (used ms)) d
    ∙ ap (λ (is : List Ident). wires_of (ports_of m) (names (port_idents m)) (wire_lines m.items) (declared_names m) is) (ap used u ∙ used-mentions m)
