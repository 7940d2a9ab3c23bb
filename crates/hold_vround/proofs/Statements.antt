-- A module with a plain list of ports, whose body has one declaration a statement: ports, wires, assignments and
-- instances, in this order. What is listed of such a module is what was put in.
--
-- Statements: its parts. items_of s, module_of s: its body; the module.
use Rattle.std.proofs.Common.{◌≡◌, ℕ, List, [], ◌∷◌, ◌++◌, map, flat_map, false, refl, ◌∙◌, ap}
use Rattle.std.specs.Prelude.{Option, Some, None}
use Rattle.std.proofs.lemmas.List.{append-nil}
use Rattle.std.proofs.lemmas.List.Concat.{flat_map-append, flat_map_single}
use Rattle.hold_base.proofs.Lists.{flat_map-none, flat_map-self}
use Rattle.hold_vsyntax.specs.declared.tree.Ident.{Ident}
use Rattle.hold_vsyntax.specs.declared.tree.Header.TheVariants.{Plain}
use Rattle.hold_vsyntax.specs.declared.tree.Assignment.{Assignment}
use Rattle.hold_vsyntax.specs.declared.tree.Instance.{Instance}
use Rattle.hold_vsyntax.specs.declared.tree.Item.{Item}
use Rattle.hold_vsyntax.specs.declared.tree.Item.TheVariants.{Ports, Wires, Assignments, Instances}
use Rattle.hold_vsyntax.specs.declared.tree.Module.{Module}
use Rattle.hold_vparse.specs.Lines.{PortLine, WireLine, port_line, wire_line, bounds_of, lines_of_item, body_lines, wires_of_item, wire_lines, assignments_of_item, assignments, instances_of_item, instances}
use Rattle.hold_vparse.specs.Nets.{used_in_instance, used_in_item, uses}
use Rattle.hold_vparse.specs.DoubleNames.{Mention, mention, GivesDirection, DeclaresWire, UsesNet, mentions_of_instance, mentions_of_item}
use Rattle.hold_vround.proofs.CanonicalTree.{one, range_of}

pub record Statements : Type 0 where
  pub name : Ident
  pub listed : List Ident
  pub ports : List PortLine
  pub wires : List WireLine
  pub assigned : List Assignment
  pub placed : List (Ident × Instance)

abbrev pub port_statement : PortLine → Item
port_statement l = Ports (record { direction = l.direction; wire = false; range = range_of l.range; names = one l.name })

abbrev pub wire_statement : WireLine → Item
wire_statement l = Wires (record { range = range_of l.range; names = one l.name })

abbrev pub assign_statement : Assignment → Item
assign_statement a = Assignments (one a)

abbrev pub inst_statement : Ident × Instance → Item
inst_statement i = Instances (record { kind = i.0; list = one i.1 })

abbrev pub items_of : Statements → List Item
items_of s = map port_statement s.ports ++ (map wire_statement s.wires ++ (map assign_statement s.assigned ++ map inst_statement s.placed))

abbrev pub module_of : Statements → Module
module_of s = record { name = s.name; header = Plain s.listed; items = items_of s }

each_statement : {X A : Type 0} (f : Item → List A) (g : X → Item) (h : X → List A) → ((x : X) → f (g x) ≡ h x) → (xs : List X) → flat_map f (map g xs) ≡ flat_map h xs
each_statement f g h e [] = refl
each_statement f g h e (x ∷ xs) = let here = e x in let rest = each_statement f g h e xs in cc

-- what is taken of the body is what is taken of each kind of statement
module _ {A : Type 0} (f : Item → List A) (p : PortLine → List A) (w : WireLine → List A) (a : Assignment → List A) (i : Ident × Instance → List A)
    (fp : (l : PortLine) → f (port_statement l) ≡ p l) (fw : (l : WireLine) → f (wire_statement l) ≡ w l)
    (fa : (x : Assignment) → f (assign_statement x) ≡ a x) (fi : (x : Ident × Instance) → f (inst_statement x) ≡ i x) where
  pub of_each : (s : Statements) → flat_map f (items_of s) ≡ flat_map p s.ports ++ (flat_map w s.wires ++ (flat_map a s.assigned ++ flat_map i s.placed))
  of_each s =
      let ports = each_statement f port_statement p fp s.ports in
      let wires = each_statement f wire_statement w fw s.wires in
      let assigned = each_statement f assign_statement a fa s.assigned in
      let placed = each_statement f inst_statement i fi s.placed in
      let first = flat_map-append f (map port_statement s.ports) (map wire_statement s.wires ++ (map assign_statement s.assigned ++ map inst_statement s.placed)) in
      let second = flat_map-append f (map wire_statement s.wires) (map assign_statement s.assigned ++ map inst_statement s.placed) in
      let third = flat_map-append f (map assign_statement s.assigned) (map inst_statement s.placed) in
      cc

pub same_bounds : (r : Option (ℕ × ℕ)) → bounds_of (range_of r) ≡ r
same_bounds None = refl
same_bounds (Some r) = refl

pub body_lines_of : (s : Statements) → body_lines (items_of s) ≡ s.ports
body_lines_of s =
    of_each lines_of_item (λ l. l ∷ []) (λ l. []) (λ x. []) (λ x. []) (λ l. ap (λ r. port_line l.direction r l.name ∷ []) (same_bounds l.range)) (λ l. refl) (λ x. refl) (λ x. refl) s
    ∙ let ports = flat_map-self s.ports in let wires = flat_map-none {Y = PortLine} s.wires in let assigned = flat_map-none {Y = PortLine} s.assigned in let placed = flat_map-none {Y = PortLine} s.placed in let end = append-nil s.ports in cc

pub wire_lines_of : (s : Statements) → wire_lines (items_of s) ≡ s.wires
wire_lines_of s =
    of_each wires_of_item (λ l. []) (λ l. l ∷ []) (λ x. []) (λ x. []) (λ l. refl) (λ l. ap (λ r. wire_line r l.name ∷ []) (same_bounds l.range)) (λ x. refl) (λ x. refl) s
    ∙ let ports = flat_map-none {Y = WireLine} s.ports in let wires = flat_map-self s.wires in let assigned = flat_map-none {Y = WireLine} s.assigned in let placed = flat_map-none {Y = WireLine} s.placed in let end = append-nil s.wires in cc

pub assignments_of : (s : Statements) → assignments (items_of s) ≡ s.assigned
assignments_of s =
    of_each assignments_of_item (λ l. []) (λ l. []) (λ x. x ∷ []) (λ x. []) (λ l. refl) (λ l. refl) (λ x. refl) (λ x. refl) s
    ∙ let ports = flat_map-none {Y = Assignment} s.ports in let wires = flat_map-none {Y = Assignment} s.wires in let assigned = flat_map-self s.assigned in let placed = flat_map-none {Y = Assignment} s.placed in let end = append-nil s.assigned in cc

pub instances_of : (s : Statements) → instances (items_of s) ≡ s.placed
instances_of s =
    of_each instances_of_item (λ l. []) (λ l. []) (λ x. []) (λ x. x ∷ []) (λ l. refl) (λ l. refl) (λ x. refl) (λ x. refl) s
    ∙ let ports = flat_map-none {Y = Ident × Instance} s.ports in let wires = flat_map-none {Y = Ident × Instance} s.wires in let assigned = flat_map-none {Y = Ident × Instance} s.assigned in let placed = flat_map-self s.placed in cc

-- the left sides, and then what the instances use
pub uses_of : (s : Statements) → uses (module_of s) ≡ map (λ (a : Assignment). a.left.net) s.assigned ++ flat_map (λ (i : Ident × Instance). used_in_instance i.1) s.placed
uses_of s =
    of_each used_in_item (λ l. []) (λ l. []) (λ a. a.left.net ∷ []) (λ i. used_in_instance i.1) (λ l. refl) (λ l. refl) (λ a. refl) (λ i. append-nil (used_in_instance i.1)) s
    ∙ let ports = flat_map-none {Y = Ident} s.ports in let wires = flat_map-none {Y = Ident} s.wires in let assigned = flat_map_single (λ (a : Assignment). a.left.net) s.assigned in cc

-- what the body mentions
abbrev pub directions_given : Statements → List Mention
directions_given s = map (λ (l : PortLine). mention GivesDirection l.name) s.ports

abbrev pub wires_declared : Statements → List Mention
wires_declared s = map (λ (l : WireLine). mention DeclaresWire l.name) s.wires

abbrev pub lefts_used : Statements → List Mention
lefts_used s = map (λ (a : Assignment). mention UsesNet a.left.net) s.assigned

abbrev pub mentions_in_placed : List (Ident × Instance) → List Mention
mentions_in_placed is = flat_map (λ (i : Ident × Instance). mentions_of_instance i.1) is

pub body_mentions_of : (s : Statements) → flat_map mentions_of_item (items_of s) ≡ directions_given s ++ (wires_declared s ++ (lefts_used s ++ mentions_in_placed s.placed))
body_mentions_of s =
    of_each mentions_of_item (λ l. mention GivesDirection l.name ∷ []) (λ l. mention DeclaresWire l.name ∷ []) (λ a. mention UsesNet a.left.net ∷ []) (λ i. mentions_of_instance i.1) (λ l. refl) (λ l. refl) (λ a. refl) (λ i. append-nil (mentions_of_instance i.1)) s
    ∙ let ports = flat_map_single (λ (l : PortLine). mention GivesDirection l.name) s.ports in
    let wires = flat_map_single (λ (l : WireLine). mention DeclaresWire l.name) s.wires in
    let assigned = flat_map_single (λ (a : Assignment). mention UsesNet a.left.net) s.assigned in
    cc
