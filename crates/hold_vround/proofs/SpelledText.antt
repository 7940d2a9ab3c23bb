-- How a netlist's whole text is read.
use Rattle.std.proofs.Common.{◌≡◌, ℕ, zero, suc, ◌+◌, List, [], ◌∷◌, ◌++◌, length, take, drop, None, refl, sym, ◌∙◌, ap, subst, arith}
use Rattle.std.specs.Prelude.{codes, flat_map}
use Rattle.std.specs.List.{AllByRecursion}
use Rattle.std.proofs.lemmas.List.{append_assoc}
use Rattle.std.proofs.lemmas.Grind.{flat_map-append}
use Rattle.hold_netlist.specs.declared.wire.Port.{Port}
use Rattle.hold_netlist.specs.declared.wire.Wire.{Wire}
use Rattle.hold_netlist.specs.declared.inst.Inst.{Inst}
use Rattle.hold_netlist.specs.declared.inst.Assign.{Assign}
use Rattle.hold_netlist.specs.Design.{Design}
use Rattle.hold_netlist.specs.Bits.{bits_of}
use Rattle.hold_base.specs.NameBytes.{IsName}
use Rattle.hold_netlist.specs.Names.{port_names, wire_names}
use Rattle.hold_netlist.specs.WellFormed.{IsWrittenWire, IsWrittenInst, IsWrittenAssign, IsWellFormed}
use Rattle.hold_netlist.specs.CanonicalText.{port_line, port_lines, wire_line, assign_line, inst_line, module_line, canonical_text}
use Rattle.hold_vlex.specs.Lexed.{lexed}
use Rattle.hold_vsyntax.specs.declared.tree.Item.{Item}
use Rattle.hold_vsyntax.specs.Symbols.{Symbol, symbols}
use Rattle.hold_vsyntax.specs.Grammar.{header_piece, item_piece, end_piece}
use Rattle.hold_vround.proofs.CanonicalTree.{port_items, wire_items, assign_items, inst_items, tree_of}
use Rattle.hold_vround.proofs.ModulePieces.{items_symbols, module_symbols}
use Rattle.hold_vround.proofs.Spells.{Spells, Spells-nil, Spells-as, join, seen-whole}
use Rattle.hold_vround.proofs.SpelledBits.{Spells-text}
use Rattle.hold_vround.proofs.SpelledLines.{grouped_6, Spells-module_line, Spells-port_line, Spells-wire_line, Spells-assign_line, Spells-inst_line, Spells-end_line}

Spells-port_lines : (at : ℕ) (ports : List Port) (wires : List Wire) (rest : List ℕ) → AllByRecursion IsName (port_names ports) → AllByRecursion IsWrittenWire wires → Spells at (port_lines ports wires) rest (items_symbols (port_items at ports wires))
Spells-port_lines at [] wires rest named written = Spells-nil at rest
Spells-port_lines at (p ∷ ps) [] rest named written = Spells-nil at rest
Spells-port_lines at (p ∷ ps) (w ∷ ws) rest named written =
    join at _ (port_line p w) (port_lines ps ws) rest _ _ refl
    (Spells-port_line at p w _ named.0 written.0.bounds)
    (Spells-port_lines (at + length (port_line p w)) ps ws rest named.1 written.1)

Spells-wire_lines : (at : ℕ) (wires : List Wire) (rest : List ℕ) → AllByRecursion IsWrittenWire wires → Spells at (flat_map wire_line wires) rest (items_symbols (wire_items at wires))
Spells-wire_lines at [] rest written = Spells-nil at rest
Spells-wire_lines at (w ∷ ws) rest written =
    join at _ (wire_line w) (flat_map wire_line ws) rest _ _ refl (Spells-wire_line at w _ written.0) (Spells-wire_lines (at + length (wire_line w)) ws rest written.1)

module _ (wires : List Wire) (written : AllByRecursion IsWrittenWire wires) where
  Spells-assign_lines : (at : ℕ) (assigns : List Assign) (rest : List ℕ) → AllByRecursion (IsWrittenAssign (bits_of wires)) assigns → Spells at (flat_map (assign_line wires) assigns) rest (items_symbols (assign_items at wires assigns))
  Spells-assign_lines at [] rest h = Spells-nil at rest
  Spells-assign_lines at (a ∷ more) rest h =
      join at _ (assign_line wires a) (flat_map (assign_line wires) more) rest _ _ refl
      (Spells-assign_line at wires a _ written h.0)
      (Spells-assign_lines (at + length (assign_line wires a)) more rest h.1)

  Spells-inst_lines : (at : ℕ) (insts : List Inst) (rest : List ℕ) → AllByRecursion (IsWrittenInst (bits_of wires)) insts → Spells at (flat_map (inst_line wires) insts) rest (items_symbols (inst_items at wires insts))
  Spells-inst_lines at [] rest h = Spells-nil at rest
  Spells-inst_lines at (i ∷ more) rest h =
      join at _ (inst_line wires i) (flat_map (inst_line wires) more) rest _ _ refl
      (Spells-inst_line at wires i _ written h.0)
      (Spells-inst_lines (at + length (inst_line wires i)) more rest h.1)

-- the first wires have names
named-take : (k : ℕ) (wires : List Wire) → AllByRecursion IsWrittenWire wires → AllByRecursion IsName (take k (wire_names wires))
named-take zero [] h = tt
named-take zero (w ∷ ws) h = tt
named-take (suc k) [] h = tt
named-take (suc k) (w ∷ ws) h = (h.0.name, named-take k ws h.1)

written-drop : (k : ℕ) (wires : List Wire) → AllByRecursion IsWrittenWire wires → AllByRecursion IsWrittenWire (drop k wires)
written-drop zero [] h = tt
written-drop zero (w ∷ ws) h = h
written-drop (suc k) [] h = tt
written-drop (suc k) (w ∷ ws) h = written-drop k ws h.1

-- the pieces of the statements in a row
items-in_row : (a b c d : List Item) (end : List Symbol) → items_symbols a ++ (items_symbols b ++ (items_symbols c ++ (items_symbols d ++ end))) ≡ items_symbols (a ++ (b ++ (c ++ d))) ++ end
items-in_row a b c d end =
    sym (ap (λ (l : List Symbol). l ++ end)
    (flat_map-append item_piece a (b ++ (c ++ d))
    ∙ ap (λ (l : List Symbol). items_symbols a ++ l) (flat_map-append item_piece b (c ++ d) ∙ ap (λ (l : List Symbol). items_symbols b ++ l) (flat_map-append item_piece c d)))
    ∙ append_assoc (items_symbols a) _ end
    ∙ ap (λ (l : List Symbol). items_symbols a ++ l) (append_assoc (items_symbols b) _ end ∙ ap (λ (l : List Symbol). items_symbols b ++ l) (append_assoc (items_symbols c) (items_symbols d) end)))

Spells-canonical : (d : Design) → IsWellFormed d → Spells 0 (canonical_text d) [] (module_symbols (tree_of d))
Spells-canonical d h =
    let head : List ℕ = module_line d.name d.ports in
    let ports : List ℕ = port_lines d.ports d.wires in
    let others : List Wire = drop (length d.ports) d.wires in
    let wires : List ℕ = flat_map wire_line others in
    let assigns : List ℕ = flat_map (assign_line d.wires) d.assigns in
    let insts : List ℕ = flat_map (inst_line d.wires) d.insts in
    let end : List ℕ = codes "endmodule\n" in
    let at : ℕ = length head in
    let at_assigns : ℕ = at + (length ports + length wires) in
    let at_insts : ℕ = at + (length ports + (length wires + length assigns)) in
    let named : AllByRecursion IsName (port_names d.ports) = subst (AllByRecursion IsName) (sym h.ports) (named-take (length d.ports) d.wires h.wires) in
    Spells-text 0 (canonical_text d) (head ++ (ports ++ (wires ++ (assigns ++ (insts ++ end))))) [] _ (grouped_6 head ports wires assigns insts end)
    (Spells-as 0 _ [] _ _ (ap (λ (l : List Symbol). header_piece (tree_of d) ++ l) (items-in_row (port_items at d.ports d.wires) (wire_items (at + length ports) others) (assign_items at_assigns d.wires d.assigns) (inst_items at_insts d.wires d.insts) end_piece))
    (join 0 at head (ports ++ (wires ++ (assigns ++ (insts ++ end)))) [] _ _ (omega arith) (Spells-module_line d.name d.ports _ h.name named)
    (join at _ ports (wires ++ (assigns ++ (insts ++ end))) [] _ _ refl (Spells-port_lines at d.ports d.wires _ named h.wires)
    (join _ at_assigns wires (assigns ++ (insts ++ end)) [] _ _ (omega arith) (Spells-wire_lines _ others _ (written-drop (length d.ports) d.wires h.wires))
    (join at_assigns at_insts assigns (insts ++ end) [] _ _ (omega arith) (Spells-assign_lines d.wires h.wires at_assigns d.assigns _ h.assigns)
    (join at_insts _ insts end [] _ _ refl (Spells-inst_lines d.wires h.wires at_insts d.insts _ h.insts)
    (Spells-end_line _ [])))))))

pub canonical-tokens : (d : Design) → IsWellFormed d → (symbols (lexed (canonical_text d)).tokens ≡ module_symbols (tree_of d)) × ((lexed (canonical_text d)).fault ≡ None)
canonical-tokens d h = seen-whole (canonical_text d) (module_symbols (tree_of d)) (Spells-canonical d h)
