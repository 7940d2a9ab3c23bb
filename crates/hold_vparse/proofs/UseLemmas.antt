-- The uses among the mentions, and the first of each name.
use Rattle.std.proofs.Common.{◌≡◌, ℕ, List, [], ◌∷◌, ◌++◌, Bool, true, false, cond, refl, sym, ap, ◌∙◌, map, not, is_none, append_assoc}
use Rattle.std.specs.Prelude.{flat_map, ◌&&◌, ◌||◌, None}
use Rattle.hold_netlist.specs.declared.wire.Wire.{Wire}
use Rattle.hold_netlist.specs.inner.NameTable.{names_of}
use Rattle.hold_netlist.specs.NameTable.{number_of}
use Rattle.hold_netlist.proofs.NameTableLemmas.{is_none_number}
use Rattle.hold_netlist.specs.Names.{is_among}
use Rattle.hold_vsyntax.specs.declared.tree.Ident.{Ident}
use Rattle.hold_vsyntax.specs.declared.tree.Assignment.{Assignment}
use Rattle.hold_vsyntax.specs.declared.tree.Instance.{Instance}
use Rattle.hold_vsyntax.specs.declared.tree.Item.{Item}
use Rattle.hold_vsyntax.specs.declared.tree.Item.TheVariants.{Ports, Wires, Assignments, Instances}
use Rattle.hold_vsyntax.specs.declared.tree.Module.{Module}
use Rattle.hold_vparse.specs.Lines.{PortLine, all, header_names, header_lines}
use Rattle.hold_vparse.specs.Nets.{used_in_instance, used_in_item, uses, first_uses, wire}
use Rattle.hold_vparse.specs.DoubleNames.{Mention, mention, Role, ListsPort, DeclaresPort, GivesDirection, DeclaresWire, UsesNet, mentions, mentions_of_item, mentions_of_instance}
use Rattle.hold_vparse.specs.inner.Uses.{is_use, used}
use Rattle.hold_vparse.proofs.NameLists.{is_among-append}

used-append : (ms ns : List Mention) → used (ms ++ ns) ≡ used ms ++ used ns
used-append [] ns = refl
used-append (m ∷ ms) ns = by (is_use m.role) (used-append ms ns)
  where
    by : (b : Bool) → used (ms ++ ns) ≡ used ms ++ used ns → cond b (m.name ∷ used (ms ++ ns)) (used (ms ++ ns)) ≡ cond b (m.name ∷ used ms) (used ms) ++ used ns
    by true h = ap (λ is. m.name ∷ is) h
    by false h = h

used-map : (is : List Ident) → used (map (mention UsesNet) is) ≡ is
used-map [] = refl
used-map (i ∷ is) = ap (λ js. i ∷ js) (used-map is)

used-left : (list : List Assignment) → used (map (λ (a : Assignment). mention UsesNet a.left.net) list) ≡ map (λ (a : Assignment). a.left.net) list
used-left [] = refl
used-left (a ∷ rest) = ap (λ js. a.left.net ∷ js) (used-left rest)

used-none : (role : Role) (is : List Ident) → is_use role ≡ false → used (map (mention role) is) ≡ []
used-none role [] h = refl
used-none role (i ∷ is) h = ap (λ (b : Bool). cond b (i ∷ used (map (mention role) is)) (used (map (mention role) is))) h ∙ used-none role is h

used-ports : (ls : List PortLine) → used (map (λ (l : PortLine). mention DeclaresPort l.name) ls) ≡ []
used-ports [] = refl
used-ports (l ∷ ls) = used-ports ls

used-instances : (is : List Instance) → used (flat_map mentions_of_instance is) ≡ flat_map used_in_instance is
used-instances [] = refl
used-instances (i ∷ is) = used-append (mentions_of_instance i) (flat_map mentions_of_instance is) ∙ ap (λ js. js ++ used (flat_map mentions_of_instance is)) (used-map (used_in_instance i))
    ∙ ap (λ js. used_in_instance i ++ js) (used-instances is)

used-item : (i : Item) → used (mentions_of_item i) ≡ used_in_item i
used-item (Ports p) = used-none GivesDirection (all p.names) refl
used-item (Wires w) = used-none DeclaresWire (all w.names) refl
used-item (Assignments s) = used-left (all s)
used-item (Instances i) = used-instances (all i.list)

used-items : (is : List Item) → used (flat_map mentions_of_item is) ≡ flat_map used_in_item is
used-items [] = refl
used-items (i ∷ is) = used-append (mentions_of_item i) (flat_map mentions_of_item is) ∙ ap (λ js. js ++ used (flat_map mentions_of_item is)) (used-item i) ∙ ap (λ js. used_in_item i ++ js) (used-items is)

-- the uses among all mentions are the module's
pub used-mentions : (m : Module) → used (mentions m) ≡ uses m
used-mentions m =
    used-append (map (mention ListsPort) (header_names m.header)) _
    ∙ ap (λ js. js ++ used (map (λ (l : PortLine). mention DeclaresPort l.name) (header_lines m.header) ++ flat_map mentions_of_item m.items)) (used-none ListsPort (header_names m.header) refl)
    ∙ used-append (map (λ (l : PortLine). mention DeclaresPort l.name) (header_lines m.header)) (flat_map mentions_of_item m.items)
    ∙ ap (λ js. js ++ used (flat_map mentions_of_item m.items)) (used-ports (header_lines m.header))
    ∙ used-items m.items

-- one mention more
pub first_uses-used : (seen : List (List ℕ)) (m : Mention) (ms : List Mention) (new : Bool) → new ≡ (is_use m.role && not (is_among m.name.name seen))
    → first_uses seen (used (m ∷ ms)) ≡ cond new (m.name ∷ first_uses (seen ++ m.name.name ∷ []) (used ms)) (first_uses seen (used ms))
first_uses-used seen m ms new told = by (is_use m.role) (is_among m.name.name seen) ∙ ap (λ (b : Bool). cond b (m.name ∷ first_uses (seen ++ m.name.name ∷ []) (used ms)) (first_uses seen (used ms))) (sym told)
  where
    among : (a : Bool) → cond a (first_uses seen (used ms)) (m.name ∷ first_uses (seen ++ m.name.name ∷ []) (used ms))
        ≡ cond (not a) (m.name ∷ first_uses (seen ++ m.name.name ∷ []) (used ms)) (first_uses seen (used ms))
    among true = refl
    among false = refl

    by : (u a : Bool) → first_uses seen (cond u (m.name ∷ used ms) (used ms)) ≡ cond (u && not (is_among m.name.name seen)) (m.name ∷ first_uses (seen ++ m.name.name ∷ []) (used ms)) (first_uses seen (used ms))
    by true a = among (is_among m.name.name seen)
    by false a = refl

-- the list of implicit wires after one mention more
pub implicit_step : (declared seen more : List (List ℕ)) (list longer whole : List Wire) (m : Mention) (ms : List Mention) (new : Bool)
    → new ≡ (is_use m.role && not (is_among m.name.name (declared ++ seen))) → more ≡ cond new (seen ++ m.name.name ∷ []) seen → longer ≡ cond new (list ++ wire m.name.name None ∷ []) list
    → list ++ map (λ (i : Ident). wire i.name None) (first_uses (declared ++ seen) (used (m ∷ ms))) ≡ whole
    → longer ++ map (λ (i : Ident). wire i.name None) (first_uses (declared ++ more) (used ms)) ≡ whole
implicit_step declared seen more list longer whole m ms true told put pushed so_far =
    let first = first_uses-used (declared ++ seen) m ms true told in
    let later : first_uses (declared ++ more) (used ms) ≡ first_uses ((declared ++ seen) ++ m.name.name ∷ []) (used ms) =
    ap (λ (s : List (List ℕ)). first_uses s (used ms)) (ap (λ (s : List (List ℕ)). declared ++ s) put ∙ sym (append_assoc declared seen (m.name.name ∷ []))) in
    ap (λ (l : List Wire). l ++ map (λ (i : Ident). wire i.name None) (first_uses (declared ++ more) (used ms))) pushed
    ∙ append_assoc list (wire m.name.name None ∷ []) (map (λ (i : Ident). wire i.name None) (first_uses (declared ++ more) (used ms)))
    ∙ ap (λ (is : List Ident). list ++ wire m.name.name None ∷ map (λ (i : Ident). wire i.name None) is) later
    ∙ ap (λ (is : List Ident). list ++ map (λ (i : Ident). wire i.name None) is) (sym first) ∙ so_far
implicit_step declared seen more list longer whole m ms false told put pushed so_far =
    let first = first_uses-used (declared ++ seen) m ms false told in
    ap (λ (l : List Wire). l ++ map (λ (i : Ident). wire i.name None) (first_uses (declared ++ more) (used ms))) pushed
    ∙ ap (λ (s : List (List ℕ)). list ++ map (λ (i : Ident). wire i.name None) (first_uses (declared ++ s) (used ms))) put
    ∙ ap (λ (is : List Ident). list ++ map (λ (i : Ident). wire i.name None) is) (sym first) ∙ so_far

-- a name that no declaration has is new where the table has no number for it
pub new_use : (name : List ℕ) (declared : List (List ℕ)) (pairs : List (List ℕ × ℕ)) (u has : Bool) → u ≡ true → has ≡ is_among name declared → has ≡ false
    → is_none (number_of name pairs) ≡ (u && not (is_among name (declared ++ names_of pairs)))
new_use name declared pairs u has h told missing =
    is_none_number name pairs ∙ ap (λ (a : Bool). not (a || is_among name (names_of pairs))) (sym missing ∙ told) ∙ ap not (sym (is_among-append name declared (names_of pairs)))
    ∙ ap (λ (b : Bool). b && not (is_among name (declared ++ names_of pairs))) (sym h)
