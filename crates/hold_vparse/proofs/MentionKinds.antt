-- The names of a module's mentions, kind by kind.
--
-- by_role p: whether p holds of a mention's role.
-- is_port role, is_wire role, is_inst role: whether a mention in this role has a port in the header, a wire, an
--   instance declared.
-- claims net role: whether a mention in this role makes its name a net's, where `net` says whether the name is
--   declared as one: a use does where it isn't.
-- claims_net m: the same of a mention in a module.
-- line_name l: the name that a line declares as a wire's. inst_name i: an instance's name.
use Rattle.std.proofs.Common.{◌≡◌, ℕ, List, [], ◌∷◌, ◌++◌, map, flat_map, Bool, true, false, not, ◌||◌, cond, refl, sym, ◌∙◌, ap, bytes_eq}
use Rattle.std.proofs.lemmas.Bool.{or_right}
use Rattle.std.proofs.lemmas.List.{append-nil, map-append}
use Rattle.std.proofs.lemmas.Simd.{map-map}
use Rattle.hold_netlist.specs.Names.{is_among}
use Rattle.hold_vsyntax.specs.declared.tree.Ident.{Ident}
use Rattle.hold_vsyntax.specs.declared.tree.Assignment.{Assignment}
use Rattle.hold_vsyntax.specs.declared.tree.Instance.{Instance}
use Rattle.hold_vsyntax.specs.declared.tree.Item.{Item}
use Rattle.hold_vsyntax.specs.declared.tree.Item.TheVariants.{Ports, Wires, Assignments, Instances}
use Rattle.hold_vsyntax.specs.declared.tree.Module.{Module}
use Rattle.hold_vparse.specs.Lines.{all, PortLine, WireLine, wire_line, bounds_of, header_names, header_lines, wires_of_item, wire_lines, instances_of_item, instances}
use Rattle.hold_vparse.specs.Nets.{names, port_idents, declared_names, used_in_instance, uses}
use Rattle.hold_vparse.specs.DoubleNames.{Role, ListsPort, DeclaresPort, GivesDirection, DeclaresWire, DeclaresInstance, UsesNet, Mention, mention, mentions_of_instance, mentions_of_item, mentions}
use Rattle.hold_vparse.specs.inner.Uses.{is_use, used}
use Rattle.hold_vparse.proofs.UseLemmas.{used-mentions}
use Rattle.hold_vparse.proofs.Clashes.{picked}

abbrev pub by_role : (Role → Bool) → Mention → Bool
by_role p x = p x.role

abbrev pub is_port : Role → Bool
is_port ListsPort = true
is_port DeclaresPort = true
is_port _ = false

abbrev pub is_wire : Role → Bool
is_wire DeclaresWire = true
is_wire _ = false

abbrev pub is_inst : Role → Bool
is_inst DeclaresInstance = true
is_inst _ = false

abbrev pub claims : Bool → Role → Bool
claims net DeclaresInstance = false
claims net UsesNet = not net
claims net _ = true

abbrev pub claims_net : Module → Mention → Bool
claims_net m x = claims (is_among x.name.name (declared_names m)) x.role

abbrev pub line_name : WireLine → List ℕ
line_name l = l.name.name

abbrev pub inst_name : Ident × Instance → List ℕ
inst_name i = i.1.name.name

-- which mentions are picked
picked-append : (p : Mention → Bool) (xs ys : List Mention) → picked p (xs ++ ys) ≡ picked p xs ++ picked p ys
picked-append p [] ys = refl
picked-append p (x ∷ xs) ys = by (p x) (picked-append p xs ys)
  where
    by : (b : Bool) → picked p (xs ++ ys) ≡ picked p xs ++ picked p ys
        → cond b (x.name.name ∷ picked p (xs ++ ys)) (picked p (xs ++ ys)) ≡ cond b (x.name.name ∷ picked p xs) (picked p xs) ++ picked p ys
    by true h = ap (λ r. x.name.name ∷ r) h
    by false h = h

picked-nothing : {X : Type 0} (p : Mention → Bool) (f : X → List Mention) → ((x : X) → picked p (f x) ≡ []) → (xs : List X) → picked p (flat_map f xs) ≡ []
picked-nothing p f none [] = refl
picked-nothing p f none (x ∷ xs) = picked-append p (f x) (flat_map f xs) ∙ ap (λ r. r ++ picked p (flat_map f xs)) (none x) ∙ picked-nothing p f none xs

picked-given : {X Y : Type 0} (p : Mention → Bool) (f : X → List Mention) (given : X → List Y) (name : Y → List ℕ) → ((x : X) → picked p (f x) ≡ map name (given x))
    → (xs : List X) → picked p (flat_map f xs) ≡ map name (flat_map given xs)
picked-given p f given name each [] = refl
picked-given p f given name each (x ∷ xs) =
    picked-append p (f x) (flat_map f xs) ∙ ap (λ r. r ++ picked p (flat_map f xs)) (each x) ∙ ap (λ r. map name (given x) ++ r) (picked-given p f given name each xs)
    ∙ sym (map-append name (given x) (flat_map given xs))

module _ {X : Type 0} (p : Role → Bool) (role : Role) (ident : X → Ident) where
  picked-each : p role ≡ true → (xs : List X) → picked (by_role p) (map (λ x. mention role (ident x)) xs) ≡ map (λ x. (ident x).name) xs
  picked-each holds [] = refl
  picked-each holds (x ∷ xs) = rw holds (ap (λ r. (ident x).name ∷ r) (picked-each holds xs))

  picked-none : p role ≡ false → (xs : List X) → picked (by_role p) (map (λ x. mention role (ident x)) xs) ≡ []
  picked-none fails [] = refl
  picked-none fails (x ∷ xs) = rw fails (picked-none fails xs)

-- of the body
no_wires : (i : Instance) → picked (by_role is_wire) (mentions_of_instance i) ≡ []
no_wires i = picked-none is_wire UsesNet (λ (j : Ident). j) refl (used_in_instance i)

no_ports : (i : Instance) → picked (by_role is_port) (mentions_of_instance i) ≡ []
no_ports i = picked-none is_port UsesNet (λ (j : Ident). j) refl (used_in_instance i)

inst_named : (i : Instance) → picked (by_role is_inst) (mentions_of_instance i) ≡ i.name.name ∷ []
inst_named i = ap (λ r. i.name.name ∷ r) (picked-none is_inst UsesNet (λ (j : Ident). j) refl (used_in_instance i))

wires_picked : (i : Item) → picked (by_role is_wire) (mentions_of_item i) ≡ map line_name (wires_of_item i)
wires_picked (Ports p) = picked-none is_wire GivesDirection (λ (j : Ident). j) refl (all p.names)
wires_picked (Wires w) = picked-each is_wire DeclaresWire (λ (j : Ident). j) refl (all w.names) ∙ sym (map-map line_name (wire_line (bounds_of w.range)) (all w.names))
wires_picked (Assignments s) = picked-none is_wire UsesNet (λ (a : Assignment). a.left.net) refl (all s)
wires_picked (Instances i) = picked-nothing (by_role is_wire) mentions_of_instance no_wires (all i.list)

insts_named : (kind : Ident) (is : List Instance) → picked (by_role is_inst) (flat_map mentions_of_instance is) ≡ map inst_name (map (λ (x : Instance). (kind, x)) is)
insts_named kind [] = refl
insts_named kind (i ∷ is) =
    picked-append (by_role is_inst) (mentions_of_instance i) (flat_map mentions_of_instance is)
    ∙ ap (λ r. r ++ picked (by_role is_inst) (flat_map mentions_of_instance is)) (inst_named i) ∙ ap (λ r. i.name.name ∷ r) (insts_named kind is)

insts_picked : (i : Item) → picked (by_role is_inst) (mentions_of_item i) ≡ map inst_name (instances_of_item i)
insts_picked (Ports p) = picked-none is_inst GivesDirection (λ (j : Ident). j) refl (all p.names)
insts_picked (Wires w) = picked-none is_inst DeclaresWire (λ (j : Ident). j) refl (all w.names)
insts_picked (Assignments s) = picked-none is_inst UsesNet (λ (a : Assignment). a.left.net) refl (all s)
insts_picked (Instances i) = insts_named i.kind (all i.list)

no_ports_in : (i : Item) → picked (by_role is_port) (mentions_of_item i) ≡ []
no_ports_in (Ports p) = picked-none is_port GivesDirection (λ (j : Ident). j) refl (all p.names)
no_ports_in (Wires w) = picked-none is_port DeclaresWire (λ (j : Ident). j) refl (all w.names)
no_ports_in (Assignments s) = picked-none is_port UsesNet (λ (a : Assignment). a.left.net) refl (all s)
no_ports_in (Instances i) = picked-nothing (by_role is_port) mentions_of_instance no_ports (all i.list)

-- of the whole module
module _ (m : Module) where
  abbrev headed : List Mention
  headed = map (λ (l : PortLine). mention DeclaresPort l.name) (header_lines m.header)

  abbrev bodily : List Mention
  bodily = flat_map mentions_of_item m.items

  picked-parts : (p : Role → Bool) → picked (by_role p) (mentions m) ≡ picked (by_role p) (map (mention ListsPort) (header_names m.header)) ++ (picked (by_role p) headed ++ picked (by_role p) bodily)
  picked-parts p =
      picked-append (by_role p) (map (mention ListsPort) (header_names m.header)) (headed ++ bodily)
      ∙ ap (λ r. picked (by_role p) (map (mention ListsPort) (header_names m.header)) ++ r) (picked-append (by_role p) headed bodily)

  picked-body : (p : Role → Bool) → p ListsPort ≡ false → p DeclaresPort ≡ false → picked (by_role p) (mentions m) ≡ picked (by_role p) bodily
  picked-body p listed declared =
      let first = picked-none p ListsPort (λ (i : Ident). i) listed (header_names m.header) in
      let second = picked-none p DeclaresPort (λ (l : PortLine). l.name) declared (header_lines m.header) in
      picked-parts p ∙ rw (first, second) refl

  pub port_mentions : picked (by_role is_port) (mentions m) ≡ names (port_idents m)
  port_mentions =
      let first = picked-each is_port ListsPort (λ (i : Ident). i) refl (header_names m.header) in
      let second = picked-each is_port DeclaresPort (λ (l : PortLine). l.name) refl (header_lines m.header) in
      let parts = picked-parts is_port in
      let none = picked-nothing (by_role is_port) mentions_of_item no_ports_in m.items in
      let end = append-nil (map (λ (l : PortLine). l.name.name) (header_lines m.header)) in
      let fused = map-map (λ (i : Ident). i.name) (λ (l : PortLine). l.name) (header_lines m.header) in
      let both = map-append (λ (i : Ident). i.name) (header_names m.header) (map (λ (l : PortLine). l.name) (header_lines m.header)) in
      cc

  pub wire_mentions : picked (by_role is_wire) (mentions m) ≡ map line_name (wire_lines m.items)
  wire_mentions = picked-body is_wire refl refl ∙ picked-given (by_role is_wire) mentions_of_item wires_of_item line_name wires_picked m.items

  pub inst_mentions : picked (by_role is_inst) (mentions m) ≡ map inst_name (instances m.items)
  inst_mentions = picked-body is_inst refl refl ∙ picked-given (by_role is_inst) mentions_of_item instances_of_item inst_name insts_picked m.items

with_first : (same some more : Bool) → (some ≡ true → more ≡ true) → (same || some) ≡ true → (same || more) ≡ true
with_first true some more rest h = refl
with_first false some more rest h = rest h

without_first : (same some more : Bool) → (same ≡ true → false ≡ true) → (some ≡ true → more ≡ true) → (same || some) ≡ true → more ≡ true
without_first true some more other rest h = absurd (let e = other refl in cc)
without_first false some more other rest h = rest h

-- a name that one test picks is picked by another that holds of each mention of this name of which the first does
pub picked-wider : (p q : Mention → Bool) (n : List ℕ) → ((x : Mention) → bytes_eq n x.name.name ≡ true → p x ≡ true → q x ≡ true)
    → (xs : List Mention) → is_among n (picked p xs) ≡ true → is_among n (picked q xs) ≡ true
picked-wider p q n wider [] h = h
picked-wider p q n wider (x ∷ xs) h = by (p x) (q x) (wider x) (picked-wider p q n wider xs) h
  where
    by : (b c : Bool) → (bytes_eq n x.name.name ≡ true → b ≡ true → c ≡ true) → (is_among n (picked p xs) ≡ true → is_among n (picked q xs) ≡ true)
        → is_among n (cond b (x.name.name ∷ picked p xs) (picked p xs)) ≡ true → is_among n (cond c (x.name.name ∷ picked q xs) (picked q xs)) ≡ true
    by true true wide rest h = with_first (bytes_eq n x.name.name) (is_among n (picked p xs)) (is_among n (picked q xs)) rest h
    by true false wide rest h = without_first (bytes_eq n x.name.name) (is_among n (picked p xs)) (is_among n (picked q xs)) (λ same. wide same refl) rest h
    by false true wide rest h = or_right (bytes_eq n x.name.name) (is_among n (picked q xs)) (rest h)
    by false false wide rest h = rest h

used_picked : (xs : List Mention) → picked (by_role is_use) xs ≡ names (used xs)
used_picked [] = refl
used_picked (x ∷ xs) = by (is_use x.role) (used_picked xs)
  where
    by : (b : Bool) → picked (by_role is_use) xs ≡ names (used xs) → cond b (x.name.name ∷ picked (by_role is_use) xs) (picked (by_role is_use) xs) ≡ names (cond b (x.name ∷ used xs) (used xs))
    by true h = ap (λ r. x.name.name ∷ r) h
    by false h = h

pub use_mentions : (m : Module) → picked (by_role is_use) (mentions m) ≡ names (uses m)
use_mentions m = used_picked (mentions m) ∙ ap names (used-mentions m)
