-- A module without faults declares a netlist whose parts fit together.
use Rattle.std.proofs.Common.{◌≡◌, ℕ, ◌≤◌, List, [], ◌∷◌, ◌++◌, map, flat_map, filter, take, length, Bool, true, false, cond, not, refl, ap, arith}
use Rattle.std.specs.Prelude.{Option, Some, None}
use Rattle.std.specs.List.{AllByRecursion, list_any}
use Rattle.hold_base.proofs.Lists.{AllByRecursion-append, AllByRecursion-append_left, AllByRecursion-append_right, AllByRecursion-map, AllByRecursion-flat_map, AllByRecursion-filter, append-nil_left, append-nil_right}
use Rattle.hold_netlist.specs.Bits.{width_of_range, bits_of}
use Rattle.hold_base.specs.NameBytes.{IsName}
use Rattle.hold_netlist.specs.Names.{port_names, wire_names, is_among}
use Rattle.hold_netlist.specs.WellFormed.{IsSource, IsWrittenWire, IsWrittenPin, IsWrittenInst, IsWrittenAssign, IsWellFormed}
use Rattle.hold_netlist.specs.declared.wire.Wire.{Wire}
use Rattle.hold_vsyntax.specs.declared.tree.Ident.{Ident}
use Rattle.hold_vsyntax.specs.declared.tree.Header.{Header}
use Rattle.hold_vsyntax.specs.declared.tree.Header.TheVariants.{Bare, Plain, Declared}
use Rattle.hold_vsyntax.specs.declared.tree.Selected.TheVariants.{Bit}
use Rattle.hold_vsyntax.specs.declared.tree.Tied.{Tied}
use Rattle.hold_vsyntax.specs.declared.tree.Tied.TheVariants.{Open, Net, Bit as BitOf, Constant}
use Rattle.hold_vsyntax.specs.declared.tree.Assignment.{Assignment}
use Rattle.hold_vsyntax.specs.declared.tree.Connection.{Connection}
use Rattle.hold_vsyntax.specs.declared.tree.Instance.{Instance}
use Rattle.hold_vsyntax.specs.declared.tree.Item.{Item}
use Rattle.hold_vsyntax.specs.declared.tree.Item.TheVariants.{Ports, Wires, Assignments, Instances}
use Rattle.hold_vsyntax.specs.declared.tree.Module.{Module}
use Rattle.hold_vsyntax.specs.Named.{IsNamedModule}
use Rattle.hold_vparse.specs.Lines.{all, PortLine, WireLine, header_lines, body_lines, wire_lines, line_of, as_declared, ports_in, ports_of, assignments, instances_of_item, instances}
use Rattle.hold_vparse.specs.Nets.{names, port_idents, declared_names, used_in_tied, used_in_instance, used_in_item, uses, first_uses, wire, port_wires, other_wires, implicit_wires, nets}
use Rattle.hold_vparse.specs.PortFaults.{undirected, unlisted, unlike, misdeclared}
use Rattle.hold_vparse.specs.BitFaults.{reach, is_missing, misfit_assignment, misfit_tied, misfit_named, misfit}
use Rattle.hold_vparse.specs.Declares.{first_bit, assigned, source, pin, inst, port, design_of}
use Rattle.hold_vparse.specs.NameFaults.{has_large_bound}
use Rattle.hold_vparse.proofs.DeclaredWires.{IsAmongWires, wire_of_port, wire_of_line}
use Rattle.hold_vparse.proofs.LayoutLemmas.{first_bit-reach, small_first, small_rest}
use Rattle.hold_vparse.proofs.NamedParts.{HasName, HaveNames, IsNamedHeader, IsNamedConnection, IsNamedPlacement, IsNamedInParts, named_in_parts}
use Rattle.hold_vparse.proofs.UsedNets.{used_nets, among-reach}
use Rattle.hold_vparse.proofs.SelectedBits.{selected_within, unless_listed, constant_source, assigned_written}

-- the ports have the first wires' names
ports_first : (ls : List PortLine) (rest : List Wire) → port_names (map port ls) ≡ take (length (map port ls)) (wire_names (map wire_of_port ls ++ rest))
ports_first [] rest = refl
ports_first (l ∷ ls) rest = ap (λ ns. l.name.name ∷ ns) (ports_first ls rest)

-- wires
listed_wires : (is : List Ident) (lines : List PortLine) → HaveNames is → AllByRecursion (λ (w : Wire). IsName w.name) (map wire_of_port (map (λ (i : Ident). as_declared i (line_of i.name lines)) is))
listed_wires [] lines h = tt
listed_wires (i ∷ is) lines h = (by (line_of i.name lines), listed_wires is lines h.1)
  where
    by : (o : Option PortLine) → IsName (wire_of_port (as_declared i o)).name
    by None = h.0
    by (Some l) = h.0

port_wires_named : (h : Header) (lines : List PortLine) → IsNamedHeader h → AllByRecursion (λ (w : Wire). IsName w.name) (map wire_of_port (ports_in h lines))
port_wires_named Bare lines h = tt
port_wires_named (Plain is) lines h = listed_wires is lines h.listed_names
port_wires_named (Declared first rest) lines h = AllByRecursion-map (λ (w : Wire). IsName w.name) wire_of_port (header_lines (Declared first rest)) h.declared_names

first_uses_named : (seen : List (List ℕ)) (is : List Ident) → HaveNames is → HaveNames (first_uses seen is)
first_uses_named seen [] h = tt
first_uses_named seen (i ∷ is) h = by (is_among i.name seen) (first_uses_named seen is h.1) (first_uses_named (seen ++ i.name ∷ []) is h.1)
  where
    by : (k : Bool) → HaveNames (first_uses seen is) → HaveNames (first_uses (seen ++ i.name ∷ []) is) → HaveNames (cond k (first_uses seen is) (i ∷ first_uses (seen ++ i.name ∷ []) is))
    by true rest later = rest
    by false rest later = (h.0, later)

nets_named : (m : Module) → IsNamedInParts m → AllByRecursion (λ (w : Wire). IsName w.name) (nets m)
nets_named m h =
    AllByRecursion-append (λ (w : Wire). IsName w.name) (port_wires m) (other_wires m ++ implicit_wires m) (port_wires_named m.header (body_lines m.items) h.in_header)
    (AllByRecursion-append (λ (w : Wire). IsName w.name) (other_wires m) (implicit_wires m)
    (AllByRecursion-map (λ (w : Wire). IsName w.name) wire_of_line (filter (λ (l : WireLine). not (is_among l.name.name (names (port_idents m)))) (wire_lines m.items))
    (AllByRecursion-filter (λ (l : WireLine). HasName l.name) (λ (l : WireLine). not (is_among l.name.name (names (port_idents m)))) (wire_lines m.items) h.in_wires))
    (AllByRecursion-map (λ (w : Wire). IsName w.name) (λ (i : Ident). wire i.name None) (first_uses (declared_names m) (uses m)) (first_uses_named (declared_names m) (uses m) h.in_uses)))

wires_written : (ws : List Wire) → AllByRecursion (λ (w : Wire). IsName w.name) ws → list_any has_large_bound ws ≡ false → AllByRecursion IsWrittenWire ws
wires_written [] h small = tt
wires_written (w ∷ ws) h small = (record { name = h.0; bounds = small_first w ws small }, wires_written ws h.1 (small_rest w ws small))

-- where a list of lists has nothing, none of them has
none_each : {X : Type 0} (f : X → List Ident) (xs : List X) → flat_map f xs ≡ [] → AllByRecursion (λ x. f x ≡ []) xs
none_each f [] h = tt
none_each f (x ∷ xs) h = (append-nil_left (f x) (flat_map f xs) h, none_each f xs (append-nil_right (f x) (flat_map f xs) h))

-- pins
net_width-some : (r : Option (ℕ × ℕ)) → 1 ≤ width_of_range r
net_width-some None = omega arith
net_width-some (Some r) = omega arith

tied_written : (wires : List Wire) (t : Tied) → AllByRecursion (IsAmongWires wires) (used_in_tied t) → misfit_tied wires t ≡ [] → IsSource (bits_of wires) (source wires t)
tied_written wires Open among fits = tt
tied_written wires (Net name) among fits =
    let net = among-reach wires name.name among.0 in
    omega (arith, first_bit-reach name.name wires net.0 net.1, net_width-some net.0)
tied_written wires (BitOf name i) among fits =
    (selected_within (bits_of wires) (first_bit wires name.name) (reach wires name.name) (Bit i) (λ r e. first_bit-reach name.name wires r e)
    (unless_listed (is_missing (reach wires name.name) (Bit i)) name fits)).0
tied_written wires (Constant value) among fits = constant_source (bits_of wires) value

pins_written : (wires : List Wire) (cs : List Connection) → AllByRecursion IsNamedConnection cs → AllByRecursion (IsAmongWires wires) (flat_map (λ (c : Connection). used_in_tied c.tied) cs)
    → flat_map (λ (c : Connection). misfit_tied wires c.tied) cs ≡ [] → AllByRecursion (IsWrittenPin (bits_of wires)) (map (pin wires) cs)
pins_written wires [] named among fits = tt
pins_written wires (c ∷ cs) named among fits =
    let here = AllByRecursion-append_left (IsAmongWires wires) (used_in_tied c.tied) (flat_map (λ (d : Connection). used_in_tied d.tied) cs) among in
    let later = AllByRecursion-append_right (IsAmongWires wires) (used_in_tied c.tied) (flat_map (λ (d : Connection). used_in_tied d.tied) cs) among in
    let fits_here = append-nil_left (misfit_tied wires c.tied) (flat_map (λ (d : Connection). misfit_tied wires d.tied) cs) fits in
    let fits_later = append-nil_right (misfit_tied wires c.tied) (flat_map (λ (d : Connection). misfit_tied wires d.tied) cs) fits in
    (record { name = named.0.pin_name; source = tied_written wires c.tied here fits_here }, pins_written wires cs named.1 later fits_later)

-- instances
abbrev UsesAmong : List Wire → Ident × Instance → Type 0
UsesAmong wires i = AllByRecursion (IsAmongWires wires) (used_in_instance i.1)

listed_uses : (wires : List Wire) (kind : Ident) (is : List Instance) → AllByRecursion (IsAmongWires wires) (flat_map used_in_instance is) → AllByRecursion (UsesAmong wires) (map (λ x. (kind, x)) is)
listed_uses wires kind [] among = tt
listed_uses wires kind (i ∷ is) among = (
  AllByRecursion-append_left (IsAmongWires wires) (used_in_instance i) (flat_map used_in_instance is) among,
  listed_uses wires kind is (AllByRecursion-append_right (IsAmongWires wires) (used_in_instance i) (flat_map used_in_instance is) among),
)

item_uses : (wires : List Wire) (i : Item) → AllByRecursion (IsAmongWires wires) (used_in_item i) → AllByRecursion (UsesAmong wires) (instances_of_item i)
item_uses wires (Ports p) among = tt
item_uses wires (Wires w) among = tt
item_uses wires (Assignments s) among = tt
item_uses wires (Instances i) among = listed_uses wires i.kind (all i.list) among

instance_uses : (wires : List Wire) (is : List Item) → AllByRecursion (IsAmongWires wires) (flat_map used_in_item is) → AllByRecursion (UsesAmong wires) (instances is)
instance_uses wires [] among = tt
instance_uses wires (i ∷ is) among =
    AllByRecursion-append (UsesAmong wires) (instances_of_item i) (instances is) (item_uses wires i (AllByRecursion-append_left (IsAmongWires wires) (used_in_item i) (flat_map used_in_item is) among))
    (instance_uses wires is (AllByRecursion-append_right (IsAmongWires wires) (used_in_item i) (flat_map used_in_item is) among))

insts_written : (wires : List Wire) (is : List (Ident × Instance)) → AllByRecursion IsNamedPlacement is → AllByRecursion (UsesAmong wires) is → AllByRecursion (λ (i : Ident × Instance). misfit_named wires i ≡ []) is
    → AllByRecursion (IsWrittenInst (bits_of wires)) (map (inst wires) is)
insts_written wires [] named among fits = tt
insts_written wires (i ∷ is) named among fits = (
  record { name = named.0.inner.own_name; kind = named.0.kind_name; pins = pins_written wires i.1.connections named.0.inner.each among.0 fits.0 },
  insts_written wires is named.1 among.1 fits.1,
)

-- The ports have to be declared well: a name that only the body gives a direction counts as declared, and has no net.
pub declared-IsWellFormed : (m : Module) → IsNamedModule m → misdeclared m ≡ [] → misfit m ≡ [] → list_any has_large_bound (nets m) ≡ false → IsWellFormed (design_of m)
declared-IsWellFormed m named ports_fit bits_fit small =
    let parts = named_in_parts m named in
    let all_listed = append-nil_left (unlisted m) (unlike m) (append-nil_right (undirected m) (unlisted m ++ unlike m) ports_fit) in
    let assigns_fit = flat_map (misfit_assignment (nets m)) (assignments m.items) in
    let insts_fit = flat_map (misfit_named (nets m)) (instances m.items) in
    record {
      name = parts.own_name;
      ports = ports_first (ports_of m) (other_wires m ++ implicit_wires m);
      wires = wires_written (nets m) (nets_named m parts) small;
      insts = insts_written (nets m) (instances m.items) parts.in_instances (instance_uses (nets m) m.items (used_nets m all_listed))
          (none_each (misfit_named (nets m)) (instances m.items) (append-nil_right assigns_fit insts_fit bits_fit));
      assigns = AllByRecursion-flat_map (λ (a : Assignment). misfit_assignment (nets m) a ≡ []) (IsWrittenAssign (bits_of (nets m))) (assigned (nets m)) (λ a fits. assigned_written (nets m) a fits) (assignments m.items)
          (none_each (misfit_assignment (nets m)) (assignments m.items) (append-nil_left assigns_fit insts_fit bits_fit));
    }
