-- Each name that a module uses is a net's, where the body gives a direction to ports of the header alone.
use Rattle.std.proofs.Common.{◌≡◌, ℕ, List, [], ◌∷◌, ◌++◌, map, filter, Bool, true, false, cond, not, ◌||◌, refl, sym, ◌∙◌, ap, subst, bytes_eq, append_assoc}
use Rattle.std.specs.Prelude.{Option, Some, None}
use Rattle.std.specs.List.{AllByRecursion}
use Rattle.std.proofs.lemmas.Bool.{or_right}
use Rattle.std.proofs.lemmas.List.{append-nil, map-append}
use Rattle.std.proofs.lemmas.Slice.Eq.{bytes_eq-Decides}
use Rattle.hold_base.proofs.Bytes.{bytes_eq-self}
use Rattle.hold_base.proofs.Lists.{AllByRecursion-weaken}
use Rattle.hold_netlist.specs.Names.{wire_names, is_among}
use Rattle.hold_netlist.specs.declared.wire.Wire.{Wire}
use Rattle.hold_vsyntax.specs.declared.tree.Ident.{Ident}
use Rattle.hold_vsyntax.specs.declared.tree.Header.{Header}
use Rattle.hold_vsyntax.specs.declared.tree.Header.TheVariants.{Bare, Plain, Declared}
use Rattle.hold_vsyntax.specs.declared.tree.Module.{Module}
use Rattle.hold_vparse.specs.Lines.{PortLine, WireLine, header_names, header_lines, body_lines, wire_lines, line_of, as_declared, ports_in}
use Rattle.hold_vparse.specs.Nets.{names, port_idents, declared_names, uses, first_uses, wire, port_wires, other_wires, implicit_wires, nets}
use Rattle.hold_vparse.specs.PortFaults.{unlisted}
use Rattle.hold_vparse.specs.BitFaults.{reach}
use Rattle.hold_vparse.proofs.DeclaredWires.{IsAmongWires, wire_of_port, wire_of_line, names_of_ports}
use Rattle.hold_vparse.proofs.NameLists.{is_among-append, is_among_left, is_among_right}

-- a name among two lists is among either
either_among : {Z : Type 0} (n : List ℕ) (a b : List (List ℕ)) → is_among n (a ++ b) ≡ true → (is_among n a ≡ true → Z) → (is_among n b ≡ true → Z) → Z
either_among {Z} n a b h left right = by (is_among n a) refl
  where
    by : (x : Bool) → is_among n a ≡ x → Z
    by true e = left e
    by false e = right (sym (ap (λ (y : Bool). y || is_among n b) e) ∙ sym (is_among-append n a b) ∙ h)

-- the ports' wires have the names of the header
as_declared-name : (i : Ident) (o : Option PortLine) → (as_declared i o).name ≡ i
as_declared-name i None = refl
as_declared-name i (Some l) = refl

listed_wires : (is : List Ident) (lines : List PortLine) → wire_names (map wire_of_port (map (λ (i : Ident). as_declared i (line_of i.name lines)) is)) ≡ names is
listed_wires [] lines = refl
listed_wires (i ∷ is) lines =
    let here = ap (λ (j : Ident). j.name) (as_declared-name i (line_of i.name lines)) in
    let rest = listed_wires is lines in
    cc

header_wires : (h : Header) (lines : List PortLine) → wire_names (map wire_of_port (ports_in h lines)) ≡ names (header_names h ++ map (λ (l : PortLine). l.name) (header_lines h))
header_wires Bare lines = refl
header_wires (Plain is) lines = listed_wires is lines ∙ ap names (sym (append-nil is))
header_wires (Declared first rest) lines = names_of_ports (header_lines (Declared first rest))

-- a name of the body's lines is in the header
all_known : (known : List (List ℕ)) (is : List Ident) → filter (λ (i : Ident). not (is_among i.name known)) is ≡ [] → (n : List ℕ) → is_among n (names is) ≡ true → is_among n known ≡ true
all_known known [] none n h = cc
all_known known (i ∷ is) none n h = by (is_among i.name known) refl (bytes_eq n i.name) refl (λ rest more. all_known known is rest n more) none h
  where
    by : (k : Bool) → is_among i.name known ≡ k → (b : Bool) → bytes_eq n i.name ≡ b
        → (filter (λ (j : Ident). not (is_among j.name known)) is ≡ [] → is_among n (names is) ≡ true → is_among n known ≡ true)
        → cond (not k) (i ∷ filter (λ (j : Ident). not (is_among j.name known)) is) (filter (λ (j : Ident). not (is_among j.name known)) is) ≡ [] → (b || is_among n (names is)) ≡ true → is_among n known ≡ true
    by true e true same later none h = subst (λ m. is_among m known ≡ true) (sym ((bytes_eq-Decides n i.name).0 same)) e
    by true e false same later none h = later none h
    by false e b same later none h = cc

-- a name of the wires' lines is in the header, or is another wire's
other_kept : (known : List (List ℕ)) (n : List ℕ) (ls : List WireLine) → is_among n known ≡ false → is_among n (names (map (λ (l : WireLine). l.name) ls)) ≡ true
    → is_among n (wire_names (map wire_of_line (filter (λ (l : WireLine). not (is_among l.name.name known)) ls))) ≡ true
other_kept known n [] new h = cc
other_kept known n (l ∷ ls) new h = by (is_among l.name.name known) refl (bytes_eq n l.name.name) refl (other_kept known n ls new) h
  where
    by : (k : Bool) → is_among l.name.name known ≡ k → (b : Bool) → bytes_eq n l.name.name ≡ b
        → (is_among n (names (map (λ (w : WireLine). w.name) ls)) ≡ true → is_among n (wire_names (map wire_of_line (filter (λ (k : WireLine). not (is_among k.name.name known)) ls))) ≡ true) → (b || is_among n (names (map (λ (w : WireLine). w.name) ls))) ≡ true
        → is_among n (wire_names (map wire_of_line (cond (not k) (l ∷ filter (λ (w : WireLine). not (is_among w.name.name known)) ls) (filter (λ (k : WireLine). not (is_among k.name.name known)) ls)))) ≡ true
    by true e true same later h =
        let known_too = subst (λ m. is_among m known ≡ true) (sym ((bytes_eq-Decides n l.name.name).0 same)) e in
        cc
    by true e false same later h = later h
    by false e true same later h = rw same refl
    by false e false same later h = or_right (bytes_eq n l.name.name) (is_among n (wire_names (map wire_of_line (filter (λ (k : WireLine). not (is_among k.name.name known)) ls)))) (later h)

-- each use is known, or is the first of its name or comes after that
all_first : (seen : List (List ℕ)) (is : List Ident) → AllByRecursion (λ (i : Ident). is_among i.name (seen ++ names (first_uses seen is)) ≡ true) is
all_first seen [] = tt
all_first seen (i ∷ is) = by (is_among i.name seen) refl (all_first seen is) (all_first (seen ++ i.name ∷ []) is)
  where
    by : (k : Bool) → is_among i.name seen ≡ k → AllByRecursion (λ (j : Ident). is_among j.name (seen ++ names (first_uses seen is)) ≡ true) is
        → AllByRecursion (λ (j : Ident). is_among j.name ((seen ++ i.name ∷ []) ++ names (first_uses (seen ++ i.name ∷ []) is)) ≡ true) is
        → AllByRecursion (λ (j : Ident). is_among j.name (seen ++ names (cond k (first_uses seen is) (i ∷ first_uses (seen ++ i.name ∷ []) is))) ≡ true) (i ∷ is)
    by true e rest more = (is_among_left i.name seen (names (first_uses seen is)) e, rest)
    by false e rest more = (
      is_among_right i.name seen (i.name ∷ names (first_uses (seen ++ i.name ∷ []) is)) (rw (bytes_eq-self i.name) refl),
      AllByRecursion-weaken (λ (j : Ident). is_among j.name ((seen ++ i.name ∷ []) ++ names (first_uses (seen ++ i.name ∷ []) is)) ≡ true) (λ (j : Ident). is_among j.name (seen ++ i.name ∷ names (first_uses (seen ++ i.name ∷ []) is)) ≡ true)
          (λ j among. subst (λ ns. is_among j.name ns ≡ true) (append_assoc seen (i.name ∷ []) (names (first_uses (seen ++ i.name ∷ []) is))) among) is more,
    )

implicit_names : (is : List Ident) → wire_names (map (λ (i : Ident). wire i.name None) is) ≡ names is
implicit_names [] = refl
implicit_names (i ∷ is) = ap (λ r. i.name ∷ r) (implicit_names is)

-- the names of the nets
pub net_names : (m : Module) → wire_names (nets m) ≡ names (port_idents m) ++ (wire_names (other_wires m) ++ names (first_uses (declared_names m) (uses m)))
net_names m =
    map-append (λ (w : Wire). w.name) (port_wires m) (other_wires m ++ implicit_wires m)
    ∙ ap (λ ns. wire_names (port_wires m) ++ ns) (map-append (λ (w : Wire). w.name) (other_wires m) (implicit_wires m))
    ∙ ap (λ ns. ns ++ (wire_names (other_wires m) ++ wire_names (implicit_wires m))) (header_wires m.header (body_lines m.items))
    ∙ ap (λ ns. names (port_idents m) ++ (wire_names (other_wires m) ++ ns)) (implicit_names (first_uses (declared_names m) (uses m)))

module _ (m : Module) (all_listed : unlisted m ≡ []) (n : List ℕ) where
  abbrev others : List (List ℕ)
  others = wire_names (other_wires m) ++ names (first_uses (declared_names m) (uses m))

  among_all : is_among n (names (port_idents m) ++ others) ≡ true → is_among n (wire_names (nets m)) ≡ true
  among_all h = ap (is_among n) (net_names m) ∙ h

  from_header : is_among n (names (port_idents m)) ≡ true → is_among n (wire_names (nets m)) ≡ true
  from_header h = among_all (is_among_left n (names (port_idents m)) others h)

  from_body : is_among n (names (map (λ (l : PortLine). l.name) (body_lines m.items))) ≡ true → is_among n (wire_names (nets m)) ≡ true
  from_body h =
      let listed = all_known (names (header_names m.header)) (map (λ (l : PortLine). l.name) (body_lines m.items)) all_listed n h in
      let split = map-append (λ (i : Ident). i.name) (header_names m.header) (map (λ (l : PortLine). l.name) (header_lines m.header)) in
      from_header (ap (is_among n) split ∙ is_among_left n (names (header_names m.header)) _ listed)

  from_wires : is_among n (names (map (λ (l : WireLine). l.name) (wire_lines m.items))) ≡ true → is_among n (wire_names (nets m)) ≡ true
  from_wires h = by (is_among n (names (port_idents m))) refl
    where
      by : (k : Bool) → is_among n (names (port_idents m)) ≡ k → is_among n (wire_names (nets m)) ≡ true
      by true e = from_header e
      by false e = among_all (is_among_right n (names (port_idents m)) others (is_among_left n (wire_names (other_wires m)) _ (other_kept (names (port_idents m)) n (wire_lines m.items) e h)))

  from_uses : is_among n (names (first_uses (declared_names m) (uses m))) ≡ true → is_among n (wire_names (nets m)) ≡ true
  from_uses h = among_all (is_among_right n (names (port_idents m)) others (is_among_right n (wire_names (other_wires m)) _ h))

  from_declared : is_among n (declared_names m) ≡ true → is_among n (wire_names (nets m)) ≡ true
  from_declared h =
      either_among n (names (port_idents m)) _ h from_header
      (λ k. either_among n (names (map (λ (l : PortLine). l.name) (body_lines m.items))) (names (map (λ (l : WireLine). l.name) (wire_lines m.items))) k from_body from_wires)

  from_either : is_among n (declared_names m ++ names (first_uses (declared_names m) (uses m))) ≡ true → is_among n (wire_names (nets m)) ≡ true
  from_either h = either_among n (declared_names m) (names (first_uses (declared_names m) (uses m))) h from_declared from_uses

-- each name that is used is a net's
pub used_nets : (m : Module) → unlisted m ≡ [] → AllByRecursion (IsAmongWires (nets m)) (uses m)
used_nets m all_listed =
    AllByRecursion-weaken (λ (i : Ident). is_among i.name (declared_names m ++ names (first_uses (declared_names m) (uses m))) ≡ true) (IsAmongWires (nets m))
    (λ i among. from_either m all_listed i.name among) (uses m) (all_first (declared_names m) (uses m))

-- a net has its reach
pub among-reach : (wires : List Wire) (n : List ℕ) → is_among n (wire_names wires) ≡ true → (r : Option (ℕ × ℕ)) × (reach wires n ≡ Some r)
among-reach [] n h = cc
among-reach (w ∷ ws) n h = by (bytes_eq n w.name) h (λ k. among-reach ws n k)
  where
    by : (b : Bool) → (b || is_among n (wire_names ws)) ≡ true → (is_among n (wire_names ws) ≡ true → (r : Option (ℕ × ℕ)) × (reach ws n ≡ Some r)) → (r : Option (ℕ × ℕ)) × (cond b (Some w.range) (reach ws n) ≡ Some r)
    by true h rest = (w.range, refl)
    by false h rest = rest h
