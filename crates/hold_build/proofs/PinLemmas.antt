-- The pins that a graph of a netlist names are the netlist's.
use Rattle.std.proofs.Common.{◌≡◌, ℕ, zero, suc, ◌+◌, ◌<◌, ◌≤◌, inl, inr, List, [], ◌∷◌, ◌++◌, length, map, take, Bool, true, false, cond, Option, Some, None, refl, ap, subst, arith}
use Rattle.std.specs.Prelude.{All, flat_map, ◌==◌}
use Rattle.std.specs.List.{range_with_len}
use Rattle.std.proofs.lemmas.List.Elements.{All-weaker, Contains-append_cases}
use Rattle.std.proofs.lemmas.List.Sums.{sum_by-cons}
use Rattle.std.proofs.lemmas.Option.{slice_get_within}
use Rattle.hold_base.specs.declared.number.NetNo.{NetNo}
use Rattle.hold_base.specs.declared.number.PinNo.{PinNo}
use Rattle.hold_graph.specs.declared.graph.Arc.{Arc}
use Rattle.hold_graph.specs.declared.graph.Parts.{Parts}
use Rattle.hold_graph.specs.Graph.{NamesItsPins}
use Rattle.hold_job.specs.declared.job.Job.{Job}
use Rattle.hold_netlist.specs.declared.inst.Assign.{Assign}
use Rattle.hold_netlist.specs.declared.inst.Inst.{Inst}
use Rattle.hold_netlist.specs.declared.inst.Pin.{Pin as Connection}
use Rattle.hold_netlist.specs.declared.inst.Source.{Source}
use Rattle.hold_netlist.specs.declared.inst.Source.TheVariants.{Net, Zero, One, Empty}
use Rattle.hold_netlist.specs.declared.wire.Direction.{Direction}
use Rattle.hold_netlist.specs.declared.wire.Direction.TheVariants.{Input, Output}
use Rattle.hold_netlist.specs.declared.wire.Port.{Port}
use Rattle.hold_netlist.specs.declared.wire.Wire.{Wire}
use Rattle.hold_netlist.specs.Bits.{bits_of, width_of}
use Rattle.hold_netlist.specs.Design.{Design}
use Rattle.hold_netlist.specs.Pins.{connection_count, pin_count, pins_of}
use Rattle.hold_netlist.proofs.NumberingLemmas.{first_of-le, IsNumbered-below, IsNumbered-next}
use Rattle.hold_roles.specs.declared.role.CellType.{CellType}
use Rattle.hold_roles.specs.declared.roots.Root.TheVariants.{Pin}
use Rattle.hold_roles.specs.Binding.{Binding}
use Rattle.hold_roles.specs.Drivers.{assign_drive, bit_drive, cell_drives, direction_drives, drivers, drivers_on, inst_drives, net_drive, pin_drive, pin_drives, port_drives, source_drive}
use Rattle.hold_roles.specs.Roots.{EndsAt, IsRoot, last_of}
use Rattle.hold_roles.specs.TypePins.{is_output_pin}
use Rattle.hold_roles.specs.Types.{type_named}
use Rattle.hold_build.specs.Arcs.{IsArc, IsArcAs}
use Rattle.hold_build.proofs.SortLemmas.{one-of}
use Rattle.hold_build.specs.NetlistGraph.{IsGraphOf, IsKept}
use Rattle.hold_build.specs.Pins.{is_clock_pin, is_data_pin, IsPinOf, IsPortPin, IsRegisterPin, Reads}

-- ---- connections and bits of ports

pin-below : (b : Binding) (p : PinNo) (inst : ℕ) (t : CellType) (pin : Connection) → IsPinOf b p inst t pin → p.0 < pins_of b.netlist
pin-below b p inst t pin h = omega (arith, IsNumbered-below pin_count b.netlist.insts p.0 inst h.place h.numbered)

port-below : (d : Design) (p : PinNo) (direction : Direction) (net : NetNo) → IsPortPin d p direction net → p.0 < pins_of d
port-below d p direction net h =
    omega (
      arith,
      h.number,
      IsNumbered-next width_of d.wires net.0 h.place h.bit h.is_bit,
      first_of-le width_of d.wires (h.place + 1) (length d.ports) (let inside = slice_get_within d.ports h.place h.port h.is_port in omega arith),
    )

reads-below : (b : Binding) (p : PinNo) (net : NetNo) → Reads b p net → p.0 < pins_of b.netlist
reads-below b p net (inl h) = pin-below b p h.inst h.t h.pin h.pin_of
reads-below b p net (inr h) = port-below b.netlist p Output net h

-- ---- drivers

drivers_on-append : (n : ℕ) (xs ys : _) → drivers_on n (xs ++ ys) ≡ drivers_on n xs ++ drivers_on n ys
drivers_on-append n [] ys = refl
drivers_on-append n (x ∷ xs) ys = by (n == x.0) (drivers_on-append n xs ys)
  where
    by : (b : Bool) → drivers_on n (xs ++ ys) ≡ drivers_on n xs ++ drivers_on n ys
        → cond b (x.1 ∷ drivers_on n (xs ++ ys)) (drivers_on n (xs ++ ys)) ≡ cond b (x.1 ∷ drivers_on n xs) (drivers_on n xs) ++ drivers_on n ys
    by true more = ap (λ l. x.1 ∷ l) more
    by false more = more

-- Below, pin q is among what drives net bit n by some of the drives, and the drives' pins are below `pins`.
module _ (pins n : ℕ) (q : PinNo) where
  append-below : (xs ys : _) → (EndsAt (λ m. drivers_on n xs) 0 (Pin q) → q.0 < pins) → (EndsAt (λ m. drivers_on n ys) 0 (Pin q) → q.0 < pins)
      → EndsAt (λ m. drivers_on n (xs ++ ys)) 0 (Pin q) → q.0 < pins
  append-below xs ys one two h = elim (Contains-append_cases (drivers_on n xs) (drivers_on n ys) _ (subst (λ l. EndsAt (λ m. l) 0 (Pin q)) (drivers_on-append n xs ys) h)) [
    | inl a ↦ one a
    | inr b ↦ two b
  ]

  -- one driver, if it drives the net bit
  one-below : (x : _) (b : Bool) → EndsAt (λ m. cond b (x ∷ []) []) 0 (Pin q) → (EndsAt (λ m. x ∷ []) 0 (Pin q) → q.0 < pins) → q.0 < pins
  one-below x true h f = f h
  one-below x false h f = absurd (omega (arith, h.1))

  source-below : (x : _) (b : Bool) (s : Source) → EndsAt (λ m. drivers_on n (cond b (net_drive s x) [])) 0 (Pin q) → (EndsAt (λ m. x ∷ []) 0 (Pin q) → q.0 < pins) → q.0 < pins
  source-below x true (Net k) h f = one-below x (n == k.0) h f
  source-below x true Zero h f = absurd (omega (arith, h.1))
  source-below x true One h f = absurd (omega (arith, h.1))
  source-below x true Empty h f = absurd (omega (arith, h.1))
  source-below x false s h f = absurd (omega (arith, h.1))

  pin_drive-below : (t : CellType) (p : ℕ) (x : Connection) → p < pins → EndsAt (λ m. drivers_on n (pin_drive t p x)) 0 (Pin q) → q.0 < pins
  pin_drive-below t p x lt h =
      source-below _ (is_output_pin t x.name) x.source h (λ e. let same : record { 0 = p } ≡ q = cc (one-of _ _ e) in let is : p ≡ q.0 = ap (λ (r : PinNo). r.0) same in omega arith)

  pin_drives-below : (t : CellType) (p : ℕ) (xs : List Connection) → p + length xs ≤ pins → EndsAt (λ m. drivers_on n (pin_drives t p xs)) 0 (Pin q) → q.0 < pins
  pin_drives-below t p [] lt h = absurd (omega (arith, h.1))
  pin_drives-below t p (x ∷ xs) lt h =
      append-below (pin_drive t p x) (pin_drives t (p + 1) xs) (pin_drive-below t p x (omega arith)) (pin_drives-below t (p + 1) xs (omega arith)) h

  cell_drives-below : (t : Option CellType) (p : ℕ) (xs : List Connection) → p + length xs ≤ pins → EndsAt (λ m. drivers_on n (cell_drives t p xs)) 0 (Pin q) → q.0 < pins
  cell_drives-below None p xs lt h = absurd (omega (arith, h.1))
  cell_drives-below (Some t) p xs lt h = pin_drives-below t p xs lt h

  inst_drives-below : (types : List CellType) (p : ℕ) (insts : List Inst) → p + connection_count insts ≤ pins → EndsAt (λ m. drivers_on n (inst_drives types p insts)) 0 (Pin q) → q.0 < pins
  inst_drives-below types p [] lt h = absurd (omega (arith, h.1))
  inst_drives-below types p (i ∷ is) lt h =
      let more = sum_by-cons pin_count i is in
      append-below (cell_drives (type_named i.kind types) p i.pins) (inst_drives types (p + length i.pins) is) (cell_drives-below (type_named i.kind types) p i.pins (omega arith))
      (inst_drives-below types (p + length i.pins) is (omega arith)) h

  bit-below : (p k : ℕ) → p + k < pins → EndsAt (λ m. drivers_on n (bit_drive p k ∷ [])) 0 (Pin q) → q.0 < pins
  bit-below p k lt h =
      one-below _ (n == k) h (λ e. let same : record { 0 = p + k } ≡ q = cc (one-of _ _ e) in let is : p + k ≡ q.0 = ap (λ (r : PinNo). r.0) same in omega arith)

  bits-below : (p k width : ℕ) → p + (k + width) ≤ pins → EndsAt (λ m. drivers_on n (map (bit_drive p) (range_with_len k width))) 0 (Pin q) → q.0 < pins
  bits-below p k zero lt h = absurd (omega (arith, h.1))
  bits-below p k (suc width) lt h =
      append-below (bit_drive p k ∷ []) (map (bit_drive p) (range_with_len (k + 1) width)) (bit-below p k (omega arith)) (bits-below p (k + 1) width (omega arith)) h

  direction-below : (direction : Direction) (p k width : ℕ) → p + (k + width) ≤ pins → EndsAt (λ m. drivers_on n (direction_drives direction p k width)) 0 (Pin q) → q.0 < pins
  direction-below Input p k width lt h = bits-below p k width lt h
  direction-below Output p k width lt h = absurd (omega (arith, h.1))

  ports-below : (p k : ℕ) (ports : List Port) (wires : List Wire) → p + (k + bits_of (take (length ports) wires)) ≤ pins
      → EndsAt (λ m. drivers_on n (port_drives p k ports wires)) 0 (Pin q) → q.0 < pins
  ports-below p k [] wires lt h = absurd (omega (arith, h.1))
  ports-below p k (port ∷ ports) [] lt h = absurd (omega (arith, h.1))
  ports-below p k (port ∷ ports) (w ∷ ws) lt h =
      let more = sum_by-cons width_of w (take (length ports) ws) in
      append-below (direction_drives port.direction p k (width_of w)) (port_drives p (k + width_of w) ports ws) (direction-below port.direction p k (width_of w) (omega arith))
      (ports-below p (k + width_of w) ports ws (omega arith)) h

  assign-below : (left : ℕ) (s : Source) → EndsAt (λ m. drivers_on n (source_drive left s)) 0 (Pin q) → q.0 < pins
  assign-below left (Net k) h = one-below _ (n == left) h (λ e. let never : ⊥ = cc (one-of _ _ e) in absurd never)
  assign-below left Zero h = one-below _ (n == left) h (λ e. let never : ⊥ = cc (one-of _ _ e) in absurd never)
  assign-below left One h = one-below _ (n == left) h (λ e. let never : ⊥ = cc (one-of _ _ e) in absurd never)
  assign-below left Empty h = absurd (omega (arith, h.1))

  assigns-below : (assigns : List Assign) → EndsAt (λ m. drivers_on n (flat_map assign_drive assigns)) 0 (Pin q) → q.0 < pins
  assigns-below [] h = absurd (omega (arith, h.1))
  assigns-below (a ∷ more) h = append-below (assign_drive a) (flat_map assign_drive more) (assign-below a.left.0 a.right) (assigns-below more) h

-- the pin that is a root is one of the netlist's
pub root-below : (types : List CellType) (d : Design) (n : ℕ) (q : PinNo) → IsRoot (drivers types d) n (Pin q) → q.0 < pins_of d
root-below types d n q h =
    let bit = last_of n h.bits in
    append-below (pins_of d) bit q (inst_drives types 0 d.insts) (port_drives (connection_count d.insts) 0 d.ports d.wires ++ flat_map assign_drive d.assigns)
    (inst_drives-below (pins_of d) bit q types 0 d.insts (omega arith))
    (append-below (pins_of d) bit q (port_drives (connection_count d.insts) 0 d.ports d.wires) (flat_map assign_drive d.assigns)
    (ports-below (pins_of d) bit q (connection_count d.insts) 0 d.ports d.wires (omega arith)) (assigns-below (pins_of d) bit q d.assigns)) h.end

-- ---- the lists of a graph

from-below : (b : Binding) (arc : Arc) (wire : Bool) → IsArcAs wire b arc.from arc.to → arc.from.0 < pins_of b.netlist
from-below b arc true h = root-below b.types b.netlist h.net.0 arc.from h.root
from-below b arc false h = pin-below b arc.from h.inst h.t h.input h.begins

to-below : (b : Binding) (arc : Arc) (wire : Bool) → IsArcAs wire b arc.from arc.to → arc.to.0 < pins_of b.netlist
to-below b arc true h = reads-below b arc.to h.net h.reads
to-below b arc false h = pin-below b arc.to h.inst h.t h.output h.ends

register-below : (b : Binding) (sort : CellType → List ℕ → Bool) (p : PinNo) → IsRegisterPin b sort p → p.0 < pins_of b.netlist
register-below b sort p h = pin-below b p h.inst h.t h.pin h.pin_of

kept-below : (b : Binding) (job : Job) (p : PinNo) → IsKept b job p → p.0 < pins_of b.netlist
kept-below b job p h = omega (arith, IsNumbered-below pin_count b.netlist.insts p.0 h.by.inst h.by.place h.by.numbered)

listed-below : {X : Type 0} (pins all : ℕ) (number : X → ℕ) (P : X → Type 0) → ((x : X) → P x → number x < all) → pins ≡ all → (xs : List X) → All P xs → All (λ x. number x < pins) xs
listed-below pins all number P below same xs h = All-weaker P (λ x. number x < pins) (λ x p. omega (arith, below x p, same)) xs h

pub names-its-pins : (b : Binding) (job : Job) (parts : Parts) → IsGraphOf b job parts → NamesItsPins parts
names-its-pins b job parts h = record {
  from = listed-below parts.pins (pins_of b.netlist) (λ arc. arc.from.0) (IsArc b) (λ arc a. from-below b arc arc.wire a) h.pins parts.arcs h.arcs.sound;
  to = listed-below parts.pins (pins_of b.netlist) (λ arc. arc.to.0) (IsArc b) (λ arc a. to-below b arc arc.wire a) h.pins parts.arcs h.arcs.sound;
  launches = listed-below parts.pins (pins_of b.netlist) (λ p. p.0) (IsRegisterPin b is_output_pin) (register-below b is_output_pin) h.pins parts.launches h.launches.sound;
  captures = listed-below parts.pins (pins_of b.netlist) (λ p. p.0) (IsRegisterPin b is_data_pin) (register-below b is_data_pin) h.pins parts.captures h.captures.sound;
  clocks = listed-below parts.pins (pins_of b.netlist) (λ p. p.0) (IsRegisterPin b is_clock_pin) (register-below b is_clock_pin) h.pins parts.clocks h.clocks.sound;
  keeps = listed-below parts.pins (pins_of b.netlist) (λ p. p.0) (IsKept b job) (kept-below b job) h.pins parts.keeps h.keeps.sound;
}
