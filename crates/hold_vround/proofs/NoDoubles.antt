-- A module that is written as a netlist's parts declares no name twice, where no name stands twice in the netlist.
use Rattle.std.proofs.Common.{◌≡◌, ℕ, List, [], ◌∷◌, ◌++◌, map, flat_map, true, false, refl, sym, ◌∙◌, ap, subst}
use Rattle.std.specs.Prelude.{None}
use Rattle.std.specs.Option.{option_or}
use Rattle.std.specs.List.{AllByRecursion}
use Rattle.std.proofs.lemmas.List.{append-nil}
use Rattle.std.proofs.lemmas.Simd.{map-map}
use Rattle.hold_base.proofs.Bools.{cond-None}
use Rattle.hold_base.proofs.Bytes.{bytes_eq-self}
use Rattle.hold_base.proofs.Lists.{AllByRecursion-append, AllByRecursion-weaken}
use Rattle.hold_base.proofs.Options.{option_or-None}
use Rattle.hold_netlist.specs.Design.{Design}
use Rattle.hold_netlist.specs.Names.{wire_names, pin_names, is_among}
use Rattle.hold_netlist.specs.Doubles.{first_repeat, first_double_in_insts, first_double_name}
use Rattle.hold_netlist.specs.declared.wire.Wire.{Wire}
use Rattle.hold_netlist.specs.declared.inst.Inst.{Inst}
use Rattle.hold_vsyntax.specs.declared.tree.Ident.{Ident}
use Rattle.hold_vsyntax.specs.declared.tree.Assignment.{Assignment}
use Rattle.hold_vsyntax.specs.declared.tree.Instance.{Instance}
use Rattle.hold_vsyntax.specs.declared.tree.Module.{Module}
use Rattle.hold_vparse.specs.Lines.{PortLine, WireLine}
use Rattle.hold_vparse.specs.Nets.{names, declared_names, used_in_instance}
use Rattle.hold_vparse.specs.DoubleNames.{Role, ListsPort, GivesDirection, DeclaresWire, DeclaresInstance, UsesNet, Mention, mention, mentions_of_instance, mentions, doubles, repeated_in, doubled}
use Rattle.hold_vparse.proofs.DeclaredWires.{line_names, IsAmongWires}
use Rattle.hold_vparse.proofs.NameLists.{is_among_left, is_among_right}
use Rattle.hold_vround.proofs.Pairs.{Each}
use Rattle.hold_vround.proofs.PortLines.{each_among}
use Rattle.hold_vround.proofs.Placed.{IsPlaced, placed_among, pins_once}
use Rattle.hold_vround.proofs.Statements.{Statements, module_of, body_mentions_of, mentions_in_placed, instances_of}
use Rattle.hold_vround.proofs.DeclaredNets.{wire_line_names, AreApart, apart, names_split, declared}
use Rattle.hold_vround.proofs.DeclaredDesign.{IsWrittenAs, in_order, lefts_among}
use Rattle.hold_vround.proofs.Clear.{AreCovered, mentioned, clear_new, doubles-append, all_new, all_uses, all_directions}

abbrev port_idents_of : Statements → List Ident
port_idents_of s = map (λ (l : PortLine). l.name) s.ports

abbrev wire_idents_of : Statements → List Ident
wire_idents_of s = map (λ (l : WireLine). l.name) s.wires

abbrev left_idents_of : Statements → List Ident
left_idents_of s = map (λ (a : Assignment). a.left.net) s.assigned

mentions_of : (s : Statements) → mentions (module_of s) ≡ map (mention ListsPort) s.listed
    ++ (map (mention GivesDirection) (port_idents_of s) ++ (map (mention DeclaresWire) (wire_idents_of s) ++ (map (mention UsesNet) (left_idents_of s) ++ mentions_in_placed s.placed)))
mentions_of s =
    let body = body_mentions_of s in
    let ports = map-map (mention GivesDirection) (λ (l : PortLine). l.name) s.ports in
    let wires = map-map (mention DeclaresWire) (λ (l : WireLine). l.name) s.wires in
    let lefts = map-map (mention UsesNet) (λ (a : Assignment). a.left.net) s.assigned in
    cc

covered : (role : Role) (known : List (List ℕ)) (is : List Ident) → AllByRecursion (λ (i : Ident). is_among i.name known ≡ true) is → AreCovered known (map (mention role) is)
covered role known [] h = tt
covered role known (i ∷ is) h = (h.0, covered role known is h.1)

mentioned_names : (role : Role) (is : List Ident) → mentioned (map (mention role) is) ≡ names is
mentioned_names role [] = refl
mentioned_names role (i ∷ is) = ap (λ r. i.name ∷ r) (mentioned_names role is)

record IsNewInst (seen : List (List ℕ)) (i : Inst) (is : List Inst) : Type 0 where
  new : is_among i.name seen ≡ false
  pins : first_repeat [] (pin_names i.pins) ≡ None
  rest : first_double_in_insts (seen ++ i.name ∷ []) is ≡ None

new_inst : (seen : List (List ℕ)) (i : Inst) (is : List Inst) → first_double_in_insts seen (i ∷ is) ≡ None → IsNewInst seen i is
new_inst seen i is h =
    let here = cond-None (is_among i.name seen) i.name (option_or (first_repeat [] (pin_names i.pins)) (first_double_in_insts (seen ++ i.name ∷ []) is)) h in
    let both = option_or-None (first_repeat [] (pin_names i.pins)) (first_double_in_insts (seen ++ i.name ∷ []) is) here.1 in
    record { new = here.0; pins = both.0; rest = both.1 }

-- the instances and their uses
module _ (m : Module) (wires : List Wire) (nets_declared : (name : List ℕ) → is_among name (wire_names wires) ≡ true → is_among name (declared_names m) ≡ true) where
  one_inst : (known : List (List ℕ)) (seen : List Mention) (i : Inst) (y : Ident × Instance) → AreCovered known seen → is_among i.name known ≡ false → IsPlaced wires i y
      → doubles m seen (mentions_of_instance y.1) ≡ []
  one_inst known seen i y known_seen new placed =
      let x = mention DeclaresInstance y.1.name in
      let new_name : is_among y.1.name.name known ≡ false = subst (λ n. is_among n known ≡ false) (sym placed.named) new in
      let clear = clear_new m known seen x known_seen new_name in
      rw clear (all_uses m (seen ++ x ∷ []) (used_in_instance y.1)
      (AllByRecursion-weaken (IsAmongWires wires) (λ (j : Ident). is_among j.name (declared_names m) ≡ true) (λ j among. nets_declared j.name among) (used_in_instance y.1) (placed_among wires i y placed)))

  covered_inst : (known : List (List ℕ)) (seen : List Mention) (i : Inst) (y : Ident × Instance) → ((name : List ℕ) → is_among name (wire_names wires) ≡ true → is_among name known ≡ true)
      → AreCovered known seen → IsPlaced wires i y → AreCovered (known ++ i.name ∷ []) (seen ++ mentions_of_instance y.1)
  covered_inst known seen i y wires_known known_seen placed =
      let more = known ++ i.name ∷ [] in
      AllByRecursion-append (λ (z : Mention). is_among z.name.name more ≡ true) seen (mentions_of_instance y.1)
      (AllByRecursion-weaken (λ (z : Mention). is_among z.name.name known ≡ true) (λ (z : Mention). is_among z.name.name more ≡ true) (λ z among. is_among_left z.name.name known (i.name ∷ []) among) seen known_seen) (
        subst (λ n. is_among n more ≡ true) (sym placed.named) (is_among_right i.name known (i.name ∷ []) (rw (bytes_eq-self i.name) refl)),
        covered UsesNet more (used_in_instance y.1) (AllByRecursion-weaken (IsAmongWires wires) (λ (j : Ident). is_among j.name more ≡ true) (λ j among. is_among_left j.name known (i.name ∷ []) (wires_known j.name among)) (used_in_instance y.1) (placed_among wires i y placed)),
      )

  all_insts : (known : List (List ℕ)) (seen : List Mention) (is : List Inst) (ys : List (Ident × Instance)) → ((name : List ℕ) → is_among name (wire_names wires) ≡ true → is_among name known ≡ true)
      → AreCovered known seen → first_double_in_insts known is ≡ None → Each (IsPlaced wires) is ys → doubles m seen (mentions_in_placed ys) ≡ []
  all_insts known seen [] [] wires_known known_seen once placed = refl
  all_insts known seen [] (y ∷ ys) wires_known known_seen once placed = absurd placed
  all_insts known seen (i ∷ is) [] wires_known known_seen once placed = absurd placed
  all_insts known seen (i ∷ is) (y ∷ ys) wires_known known_seen once placed =
      let n = new_inst known i is once in
      doubles-append m seen (mentions_of_instance y.1) (mentions_in_placed ys) (one_inst known seen i y known_seen n.new placed.0)
      (all_insts (known ++ i.name ∷ []) (seen ++ mentions_of_instance y.1) is ys (λ name among. is_among_left name known (i.name ∷ []) (wires_known name among))
      (covered_inst known seen i y wires_known known_seen placed.0) n.rest placed.1)

-- no instance names a pin twice
all_pins_once : (wires : List Wire) (known : List (List ℕ)) (is : List Inst) (ys : List (Ident × Instance)) → first_double_in_insts known is ≡ None → Each (IsPlaced wires) is ys
    → flat_map repeated_in ys ≡ []
all_pins_once wires known [] [] once placed = refl
all_pins_once wires known [] (y ∷ ys) once placed = absurd placed
all_pins_once wires known (i ∷ is) [] once placed = absurd placed
all_pins_once wires known (i ∷ is) (y ∷ ys) once placed =
    let n = new_inst known i is once in
    let here = pins_once wires [] i.pins y.1.connections placed.0.each n.pins in
    rw here (all_pins_once wires (known ++ i.name ∷ []) is ys n.rest placed.1)

-- all kinds of mentions, one after the other
module _ (d : Design) (s : Statements) (once : first_double_name d ≡ None) (h : IsWrittenAs d s) where
  abbrev m : Module
  m = module_of s

  abbrev listed : List Mention
  listed = map (mention ListsPort) s.listed

  abbrev given : List Mention
  given = map (mention GivesDirection) (port_idents_of s)

  abbrev made : List Mention
  made = map (mention DeclaresWire) (wire_idents_of s)

  abbrev lefts : List Mention
  lefts = map (mention UsesNet) (left_idents_of s)

  names_apart : AreApart (line_names s.ports) (wire_line_names s.wires)
  names_apart = apart s d.wires (in_order d s once h)

  listed_known : AreCovered (line_names s.ports) listed
  listed_known = covered ListsPort (line_names s.ports) s.listed (subst (λ ns. AllByRecursion (λ (i : Ident). is_among i.name ns ≡ true) s.listed) h.same_names (each_among s.listed))

  given_known : AreCovered (line_names s.ports) given
  given_known = covered GivesDirection (line_names s.ports) (port_idents_of s) (each_among (port_idents_of s))

  header_known : AreCovered (line_names s.ports) (listed ++ given)
  header_known = AllByRecursion-append (λ (y : Mention). is_among y.name.name (line_names s.ports) ≡ true) listed given listed_known given_known

  made_known : AreCovered (wire_line_names s.wires) made
  made_known = covered DeclaresWire (wire_line_names s.wires) (wire_idents_of s) (each_among (wire_idents_of s))

  declared_known : AreCovered (wire_names d.wires) ((listed ++ given) ++ made)
  declared_known =
      let ports = line_names s.ports in
      let others = wire_line_names s.wires in
      let both = ports ++ others in
      subst (λ ns. AreCovered ns ((listed ++ given) ++ made)) (sym (names_split s d.wires h.same_wires))
      (AllByRecursion-append (λ (y : Mention). is_among y.name.name both ≡ true) (listed ++ given) made
      (AllByRecursion-weaken (λ (y : Mention). is_among y.name.name ports ≡ true) (λ (y : Mention). is_among y.name.name both ≡ true) (λ y among. is_among_left y.name.name ports others among) (listed ++ given) header_known)
      (AllByRecursion-weaken (λ (y : Mention). is_among y.name.name others ≡ true) (λ (y : Mention). is_among y.name.name both ≡ true) (λ y among. is_among_right y.name.name ports others among) made made_known))

  all_known : AreCovered (wire_names d.wires) (((listed ++ given) ++ made) ++ lefts)
  all_known = AllByRecursion-append (λ (y : Mention). is_among y.name.name (wire_names d.wires) ≡ true) ((listed ++ given) ++ made) lefts declared_known (covered UsesNet (wire_names d.wires) (left_idents_of s) (lefts_among d s h))

  nets_declared_in : (name : List ℕ) → is_among name (wire_names d.wires) ≡ true → is_among name (declared_names m) ≡ true
  nets_declared_in = declared s d.wires (in_order d s once h)

  listed_once : doubles m [] listed ≡ []
  listed_once = all_new m [] [] listed tt (rw (mentioned_names ListsPort s.listed, h.same_names) names_apart.first_ports)

  given_once : doubles m listed given ≡ []
  given_once = rw append-nil at (all_directions m s.listed [] [] (port_idents_of s) tt names_apart.first_ports)

  made_once : doubles m (listed ++ given) made ≡ []
  made_once = all_new m (line_names s.ports) (listed ++ given) made header_known (rw (mentioned_names DeclaresWire (wire_idents_of s)) names_apart.first_others)

  lefts_once : doubles m ((listed ++ given) ++ made) lefts ≡ []
  lefts_once = all_uses m ((listed ++ given) ++ made) (left_idents_of s)
      (AllByRecursion-weaken (IsAmongWires d.wires) (λ (i : Ident). is_among i.name (declared_names m) ≡ true) (λ i among. nets_declared_in i.name among) (left_idents_of s) (lefts_among d s h))

  insts_new : first_double_in_insts (wire_names d.wires) d.insts ≡ None
  insts_new = (option_or-None (first_repeat [] (wire_names d.wires)) (first_double_in_insts (wire_names d.wires) d.insts) once).1

  placed_once : doubles m (((listed ++ given) ++ made) ++ lefts) (mentions_in_placed s.placed) ≡ []
  placed_once = all_insts m d.wires nets_declared_in (wire_names d.wires) (((listed ++ given) ++ made) ++ lefts) d.insts s.placed (λ name among. among) all_known insts_new h.each_placed

  mentions_once : doubles m [] (mentions m) ≡ []
  mentions_once =
      rw (mentions_of s)
      (doubles-append m [] listed (given ++ (made ++ (lefts ++ mentions_in_placed s.placed))) listed_once
      (doubles-append m listed given (made ++ (lefts ++ mentions_in_placed s.placed)) given_once
      (doubles-append m (listed ++ given) made (lefts ++ mentions_in_placed s.placed) made_once
      (doubles-append m ((listed ++ given) ++ made) lefts (mentions_in_placed s.placed) lefts_once placed_once))))

  -- no name is declared twice, and no pin named twice
  pub none_doubled : doubled m ≡ []
  none_doubled =
      let pins = ap (flat_map repeated_in) (instances_of s) ∙ all_pins_once d.wires (wire_names d.wires) d.insts s.placed insts_new h.each_placed in
      let first = mentions_once in
      rw (first, pins) refl
