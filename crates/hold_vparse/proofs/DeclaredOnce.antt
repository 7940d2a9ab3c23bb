-- A module that declares no name twice declares a netlist in which none stands twice.
use Rattle.std.proofs.Common.{◌≡◌, ℕ, List, [], ◌∷◌, ◌++◌, map, flat_map, filter, Bool, true, false, not, cond, refl, sym, ◌∙◌, ap, subst, bytes_eq}
use Rattle.std.specs.Prelude.{None}
use Rattle.std.proofs.lemmas.Bool.{false_from_ne_true, true_from_ne_false, or_parts, or_from}
use Rattle.std.proofs.lemmas.Simd.{map-map}
use Rattle.std.proofs.lemmas.Slice.Eq.{bytes_eq-Decides}
use Rattle.hold_base.proofs.Lists.{append-nil_left, append-nil_right}
use Rattle.hold_base.proofs.Bools.{cond-None, cond-nil}
use Rattle.hold_netlist.specs.Names.{wire_names, pin_names, is_among}
use Rattle.hold_netlist.specs.Doubles.{first_repeat, first_double_in_insts, first_double_name}
use Rattle.hold_netlist.specs.declared.wire.Wire.{Wire}
use Rattle.hold_vsyntax.specs.declared.tree.Ident.{Ident}
use Rattle.hold_vsyntax.specs.declared.tree.Connection.{Connection}
use Rattle.hold_vsyntax.specs.declared.tree.Instance.{Instance}
use Rattle.hold_vsyntax.specs.declared.tree.Module.{Module}
use Rattle.hold_vparse.specs.Lines.{PortLine, WireLine, body_lines, wire_lines, instances}
use Rattle.hold_vparse.specs.Nets.{names, port_idents, declared_names, uses, first_uses, nets}
use Rattle.hold_vparse.specs.DoubleNames.{Role, ListsPort, DeclaresPort, GivesDirection, DeclaresWire, DeclaresInstance, UsesNet, Mention, mentions, doubles, repeated_pins, repeated_in, doubled}
use Rattle.hold_vparse.specs.PortFaults.{misdeclared}
use Rattle.hold_vparse.specs.inner.Uses.{is_use}
use Rattle.hold_vparse.specs.Declares.{pin, inst, design_of}
use Rattle.hold_vparse.proofs.DeclaredWires.{wire_of_line}
use Rattle.hold_vparse.proofs.NameLists.{NoneAmong, Differ, is_among-append, among_neither, unrepeated}
use Rattle.hold_vparse.proofs.NamesOnce.{none_repeats, none_repeats-append, among_nothing, none_among_fewer, not_among, filter-absent, filter-differ}
use Rattle.hold_vparse.proofs.UsedNets.{net_names}
use Rattle.hold_vparse.proofs.Clashes.{NoneClash, picked, none_clash}
use Rattle.hold_vparse.proofs.MentionKinds.{by_role, is_port, is_wire, claims, claims_net, line_name, inst_name, port_mentions, wire_mentions, picked-wider, use_mentions}
use Rattle.hold_vparse.proofs.MentionClashes.{ports_differ, wires_differ, insts_differ, insts_claim_none}

-- the other wires have no port's name
others_apart : (ports : List (List ℕ)) (ls : List WireLine) → NoneAmong (map line_name (filter (λ (l : WireLine). not (is_among l.name.name ports)) ls)) ports
others_apart ports [] = tt
others_apart ports (l ∷ ls) = by (is_among l.name.name ports) refl (others_apart ports ls)
  where
    left : List WireLine
    left = filter (λ (l : WireLine). not (is_among l.name.name ports)) ls

    by : (b : Bool) → is_among l.name.name ports ≡ b → NoneAmong (map line_name left) ports → NoneAmong (map line_name (cond (not b) (l ∷ left) left)) ports
    by true e rest = rest
    by false e rest = (e, rest)

-- first uses are new, and are uses
first_uses-once : (seen : List (List ℕ)) (is : List Ident) → first_repeat seen (names (first_uses seen is)) ≡ None
first_uses-once seen [] = refl
first_uses-once seen (i ∷ is) = by (is_among i.name seen) refl (first_uses-once seen is) (first_uses-once (seen ++ i.name ∷ []) is)
  where
    by : (b : Bool) → is_among i.name seen ≡ b → first_repeat seen (names (first_uses seen is)) ≡ None → first_repeat (seen ++ i.name ∷ []) (names (first_uses (seen ++ i.name ∷ []) is)) ≡ None
        → first_repeat seen (names (cond b (first_uses seen is) (i ∷ first_uses (seen ++ i.name ∷ []) is))) ≡ None
    by true e known new = known
    by false e known new = rw e new

first_uses-absent : (n : List ℕ) (seen : List (List ℕ)) (is : List Ident) → is_among n (names is) ≡ false → is_among n (names (first_uses seen is)) ≡ false
first_uses-absent n seen [] h = refl
first_uses-absent n seen (i ∷ is) h =
    let parts = or_parts (bytes_eq n i.name) (is_among n (names is)) h in
    by (is_among i.name seen) parts.0 (first_uses-absent n seen is parts.1) (first_uses-absent n (seen ++ i.name ∷ []) is parts.1)
  where
    by : (b : Bool) → bytes_eq n i.name ≡ false → is_among n (names (first_uses seen is)) ≡ false → is_among n (names (first_uses (seen ++ i.name ∷ []) is)) ≡ false
        → is_among n (names (cond b (first_uses seen is) (i ∷ first_uses (seen ++ i.name ∷ []) is))) ≡ false
    by true other known new = known
    by false other known new = or_from (bytes_eq n i.name) (is_among n (names (first_uses (seen ++ i.name ∷ []) is))) other new

-- which mentions claim a net
port_claims : (net : Bool) (r : Role) → is_port r ≡ true → claims net r ≡ true
port_claims net ListsPort h = refl
port_claims net DeclaresPort h = refl
port_claims net GivesDirection h = refl
port_claims net DeclaresWire h = refl
port_claims net DeclaresInstance h = absurd cc
port_claims net UsesNet h = absurd cc

wire_claims : (net : Bool) (r : Role) → is_wire r ≡ true → claims net r ≡ true
wire_claims net ListsPort h = refl
wire_claims net DeclaresPort h = refl
wire_claims net GivesDirection h = refl
wire_claims net DeclaresWire h = refl
wire_claims net DeclaresInstance h = absurd cc
wire_claims net UsesNet h = absurd cc

use_claims : (net : Bool) (r : Role) → net ≡ false → is_use r ≡ true → claims net r ≡ true
use_claims net ListsPort undeclared h = refl
use_claims net DeclaresPort undeclared h = refl
use_claims net GivesDirection undeclared h = refl
use_claims net DeclaresWire undeclared h = refl
use_claims net DeclaresInstance undeclared h = absurd cc
use_claims net UsesNet undeclared h = ap not undeclared

-- instances and their pins
pins_once : (wires : List Wire) (seen : List (List ℕ)) (cs : List Connection) → repeated_pins seen cs ≡ [] → first_repeat seen (pin_names (map (pin wires) cs)) ≡ None
pins_once wires seen [] h = refl
pins_once wires seen (c ∷ cs) h =
    let parts = cond-nil (is_among c.pin.name seen) c.pin (repeated_pins (seen ++ c.pin.name ∷ []) cs) h in
    let new = parts.0 in
    rw new (pins_once wires (seen ++ c.pin.name ∷ []) cs parts.1)

insts_once : (wires : List Wire) (seen : List (List ℕ)) (is : List (Ident × Instance)) → first_repeat seen (map inst_name is) ≡ None
    → flat_map repeated_in is ≡ [] → first_double_in_insts seen (map (inst wires) is) ≡ None
insts_once wires seen [] h pins = refl
insts_once wires seen (i ∷ is) h pins =
    let n = cond-None (is_among (inst_name i) seen) (inst_name i) (first_repeat (seen ++ inst_name i ∷ []) (map inst_name is)) h in
    let new = n.0 in
    let here = pins_once wires [] i.1.connections (append-nil_left (repeated_in i) (flat_map repeated_in is) pins) in
    rw (new, here) (insts_once wires (seen ++ inst_name i ∷ []) is n.1 (append-nil_right (repeated_in i) (flat_map repeated_in is) pins))

module _ (m : Module) (once : doubled m ≡ []) where
  abbrev ports : List (List ℕ)
  ports = names (port_idents m)

  abbrev others : List (List ℕ)
  others = map line_name (filter (λ (l : WireLine). not (is_among l.name.name ports)) (wire_lines m.items))

  abbrev implicit : List (List ℕ)
  implicit = names (first_uses (declared_names m) (uses m))

  pins_apart : flat_map repeated_in (instances m.items) ≡ []
  pins_apart = append-nil_right (doubles m [] (mentions m)) (flat_map repeated_in (instances m.items)) once

  clear : NoneClash m (mentions m)
  clear = (none_clash m [] (mentions m) (append-nil_left (doubles m [] (mentions m)) (flat_map repeated_in (instances m.items)) once)).1

  split_names : wire_names (nets m) ≡ ports ++ (others ++ implicit)
  split_names = net_names m ∙ ap (λ ns. ports ++ (ns ++ implicit)) (map-map (λ (w : Wire). w.name) wire_of_line (filter (λ (l : WireLine). not (is_among l.name.name ports)) (wire_lines m.items)))

  lines_named : names (map (λ (l : WireLine). l.name) (wire_lines m.items)) ≡ map line_name (wire_lines m.items)
  lines_named = map-map (λ (i : Ident). i.name) (λ (l : WireLine). l.name) (wire_lines m.items)

  -- a name that isn't declared is no port's and no other wire's
  undeclared : (n : List ℕ) → is_among n (declared_names m) ≡ false → is_among n (ports ++ others) ≡ false
  undeclared n h =
      let directed = names (map (λ (l : PortLine). l.name) (body_lines m.items)) in
      let lines = names (map (λ (l : WireLine). l.name) (wire_lines m.items)) in
      let first = among_neither n ports (directed ++ lines) h in
      let second = among_neither n directed lines first.1 in
      let none = subst (λ ns. is_among n ns ≡ false) lines_named second.1 in
      is_among-append n ports others ∙ or_from (is_among n ports) (is_among n others) first.0 (filter-absent line_name (λ (l : WireLine). not (is_among l.name.name ports)) n (wire_lines m.items) none)

  implicit_new : NoneAmong implicit (declared_names m) × Differ implicit
  implicit_new = unrepeated (declared_names m) implicit (first_uses-once (declared_names m) (uses m))

  wires_once : first_repeat [] (ports ++ (others ++ implicit)) ≡ None
  wires_once =
      none_repeats-append [] ports (others ++ implicit) (none_repeats [] ports (among_nothing ports) (ports_differ m clear))
      (none_repeats-append ports others implicit
      (none_repeats ports others (others_apart ports (wire_lines m.items)) (filter-differ line_name (λ (l : WireLine). not (is_among l.name.name ports)) (wire_lines m.items) (wires_differ m clear)))
      (none_repeats (ports ++ others) implicit (none_among_fewer (declared_names m) (ports ++ others) undeclared implicit implicit_new.0) implicit_new.1))

  undeclared_alike : (n : List ℕ) (x : Mention) → is_among n (declared_names m) ≡ false → bytes_eq n x.name.name ≡ true → is_among x.name.name (declared_names m) ≡ false
  undeclared_alike n x e same = subst (λ k. is_among k (declared_names m) ≡ false) ((bytes_eq-Decides n x.name.name).0 same) e

  -- an implicit net's name is claimed by a use
  implicit_claimed : (n : List ℕ) → is_among n implicit ≡ true → is_among n (picked (claims_net m) (mentions m)) ≡ true
  implicit_claimed n among =
      let e = not_among n implicit (declared_names m) implicit_new.0 among in
      let used = true_from_ne_false (is_among n (names (uses m))) (λ unused. let absent = first_uses-absent n (declared_names m) (uses m) unused in cc) in
      picked-wider (by_role is_use) (claims_net m) n (λ x same r. use_claims (is_among x.name.name (declared_names m)) x.role (undeclared_alike n x e same) r) (mentions m)
      (subst (λ ns. is_among n ns ≡ true) (sym (use_mentions m)) used)

  -- a name that no mention claims for a net is no net's
  unclaimed : (n : List ℕ) → is_among n (picked (claims_net m) (mentions m)) ≡ false → is_among n (ports ++ (others ++ implicit)) ≡ false
  unclaimed n h =
      let ms = mentions m in
      let no_port = false_from_ne_true (is_among n (picked (by_role is_port) ms)) (λ among. let claimed = picked-wider (by_role is_port) (claims_net m) n (λ x same r. port_claims (is_among x.name.name (declared_names m)) x.role r) ms among in cc) in
      let no_wire = false_from_ne_true (is_among n (picked (by_role is_wire) ms)) (λ among. let claimed = picked-wider (by_role is_wire) (claims_net m) n (λ x same r. wire_claims (is_among x.name.name (declared_names m)) x.role r) ms among in cc) in
      let no_implicit = false_from_ne_true (is_among n implicit) (λ among. let claimed = implicit_claimed n among in cc) in
      let lines = subst (λ ns. is_among n ns ≡ false) (wire_mentions m) no_wire in
      let first = subst (λ ns. is_among n ns ≡ false) (port_mentions m) no_port in
      let second = filter-absent line_name (λ (l : WireLine). not (is_among l.name.name ports)) n (wire_lines m.items) lines in
      is_among-append n ports (others ++ implicit)
      ∙ or_from (is_among n ports) (is_among n (others ++ implicit)) first (is_among-append n others implicit ∙ or_from (is_among n others) (is_among n implicit) second no_implicit)

  insts_apart : first_repeat (ports ++ (others ++ implicit)) (map inst_name (instances m.items)) ≡ None
  insts_apart =
      none_repeats (ports ++ (others ++ implicit)) (map inst_name (instances m.items))
      (none_among_fewer (picked (claims_net m) (mentions m)) (ports ++ (others ++ implicit)) unclaimed (map inst_name (instances m.items)) (insts_claim_none m clear))
      (insts_differ m clear)

  pub declared_once : first_double_name (design_of m) ≡ None
  declared_once =
      let wires = subst (λ ns. first_repeat [] ns ≡ None) (sym split_names) wires_once in
      let apart = subst (λ ns. first_repeat ns (map inst_name (instances m.items)) ≡ None) (sym split_names) insts_apart in
      let insts = insts_once (nets m) (wire_names (nets m)) (instances m.items) apart pins_apart in
      rw (wires, insts) refl

pub declared-no_doubles : (m : Module) → doubled m ≡ [] → misdeclared m ≡ [] → first_double_name (design_of m) ≡ None
declared-no_doubles m once fits = declared_once m once
