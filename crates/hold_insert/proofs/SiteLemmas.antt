-- Sites of the graph of a bound netlist are connections that are no outputs.
use Rattle.std.proofs.Common.{◌≡◌, ℕ, zero, suc, ◌+◌, ◌-◌, ◌<◌, ◌≤◌, List, [], ◌∷◌, length, map, get_or, take, Bool, true, false, Some, refl, sym, ap, ◌∙◌, ◌⊎◌, inl, inr, subst, arith}
use Rattle.std.specs.Prelude.{slice_get, Contains, nat_lt}
use Rattle.std.specs.Bool.{MatchBool}
use Rattle.std.proofs.lemmas.Bool.Decides.{nat_tests}
use Rattle.std.proofs.lemmas.List.{length-map, get_or-map}
use Rattle.std.proofs.lemmas.List.Elements.{All-contains}
use Rattle.std.proofs.lemmas.List.Sums.{sum_by-cons}
use Rattle.std.proofs.lemmas.Option.{get_or_from_slice_get, slice_get_within}
use Rattle.hold_base.proofs.Bools.{false-never}
use Rattle.hold_base.specs.declared.number.NetNo.{NetNo}
use Rattle.hold_base.specs.declared.number.PinNo.{PinNo}
use Rattle.hold_build.specs.Arcs.{IsArc, IsArcAs, IsWireArc}
use Rattle.hold_build.specs.NetlistGraph.{IsCapture}
use Rattle.hold_build.specs.Pins.{IsInputOn, IsPinOf, IsPortPin, Reads}
use Rattle.hold_graph.specs.declared.graph.Arc.{Arc}
use Rattle.hold_graph.specs.declared.graph.Parts.{Parts}
use Rattle.hold_graph.specs.Path.{HasArc, EachNext, last_pin}
use Rattle.hold_graph.specs.SitePins.{IsSite}
use Rattle.hold_graph.specs.inner.Marks.{LeadsTo}
use Rattle.hold_graph.proofs.SiteLists.{leads_to_capture}
use Rattle.hold_netlist.specs.declared.inst.Inst.{Inst}
use Rattle.hold_netlist.specs.declared.inst.Pin.{Pin as Connection}
use Rattle.hold_netlist.specs.declared.wire.Direction.TheVariants.{Input, Output}
use Rattle.hold_netlist.specs.Bits.{width_of, IsNetBit}
use Rattle.hold_netlist.specs.Names.{pin_names}
use Rattle.hold_netlist.specs.Pins.{connection_count, pin_count}
use Rattle.hold_netlist.proofs.NumberingLemmas.{IsNumbered-below, IsNumbered-one}
use Rattle.hold_roles.specs.declared.role.CellType.{CellType}
use Rattle.hold_roles.specs.declared.roots.Root.TheVariants.{Pin}
use Rattle.hold_roles.specs.Binding.{Binding}
use Rattle.hold_roles.specs.Drivers.{drivers}
use Rattle.hold_roles.specs.Roots.{EndsAt, IsRoot}
use Rattle.hold_roles.specs.TypePins.{is_output_pin}
use Rattle.hold_roles.specs.Types.{type_named}
use Rattle.hold_insert.specs.Premises.{IsTimingGraphOf}
use Rattle.hold_insert.proofs.DriveLemmas.{driver-from, output-drives, IsInputBit}
use Rattle.hold_insert.proofs.TiedLemmas.{shape_of, IsInputName, IsInputIn}

-- ---- a connection by its number

true-lt : (a b : ℕ) → a < b → nat_lt a b ≡ true
true-lt a b lt = grind (arith, nat_tests)

false-lt : (a b : ℕ) → b ≤ a → nat_lt a b ≡ false
false-lt a b le = grind (arith, nat_tests)

-- the instance of that place has a connection of this name at that place, which is no output
pub input-in : (types : List CellType) (insts : List Inst) (inst place : ℕ) (i : Inst) (t : CellType) (pin : Connection) (p : ℕ) → p ≡ connection_count (take inst insts) + place
    → slice_get insts inst ≡ Some i → type_named i.kind types ≡ Some t → slice_get i.pins place ≡ Some pin → is_output_pin t pin.name ≡ false
    → IsInputIn types (map shape_of insts) p
input-in types [] inst place i t pin p number at typed here input = cc
input-in types (x ∷ insts) zero place i t pin p number at typed here input =
    let same : x ≡ i = cc in
    let inside = slice_get_within i.pins place pin here in
    let long = length-map x.pins (λ (y : Connection). y.name) in
    let as_long : length x.pins ≡ length i.pins = ap (λ (y : Inst). length y.pins) same in
    let test : nat_lt p (length (pin_names x.pins)) ≡ true = true-lt p (length (pin_names x.pins)) (omega arith) in
    let name : get_or (pin_names x.pins) p [] ≡ pin.name =
    ap (λ (y : Inst). get_or (pin_names y.pins) p []) same ∙ ap (λ k. get_or (pin_names i.pins) k []) (let e : p ≡ place = omega arith in e)
    ∙ get_or-map (λ (y : Connection). y.name) i.pins place pin [] inside ∙ ap (λ (y : Connection). y.name) (get_or_from_slice_get i.pins place pin pin here) in
    let type_of : type_named x.kind types ≡ Some t = ap (λ (y : Inst). type_named y.kind types) same ∙ typed in
    let told : IsInputName (Some t) pin.name = input in
    subst (λ b. MatchBool b (IsInputName (type_named x.kind types) (get_or (pin_names x.pins) p [])) (IsInputIn types (map shape_of insts) (p - length (pin_names x.pins)))) (sym test)
    (subst (λ o. IsInputName o (get_or (pin_names x.pins) p [])) (sym type_of) (subst (λ n. IsInputName (Some t) n) (sym name) told))
input-in types (x ∷ insts) (suc inst) place i t pin p number at typed here input =
    let more = sum_by-cons pin_count x (take inst insts) in
    let long = length-map x.pins (λ (y : Connection). y.name) in
    let test : nat_lt p (length (pin_names x.pins)) ≡ false = false-lt p (length (pin_names x.pins)) (omega arith) in
    subst (λ b. MatchBool b (IsInputName (type_named x.kind types) (get_or (pin_names x.pins) p [])) (IsInputIn types (map shape_of insts) (p - length (pin_names x.pins)))) (sym test)
    (input-in types insts inst place i t pin (p - length (pin_names x.pins)) (omega arith) at typed here input)

-- ---- sites

module _ (b : Binding) (graph : Parts) (of : IsTimingGraphOf b graph) (no_loop : (pin : PinNo) → HasArc graph.arcs pin pin → ⊥) where
  connection-below : (p : PinNo) (inst : ℕ) (t : CellType) (pin : Connection) → IsPinOf b p inst t pin → p.0 < connection_count b.netlist.insts
  connection-below p inst t pin h = IsNumbered-below pin_count b.netlist.insts p.0 inst h.place h.numbered

  -- an output port's bit is no connection, and nothing is driven by it
  port-drives-none : (p : PinNo) (net : NetNo) (n : ℕ) → IsPortPin b.netlist p Output net → EndsAt (drivers b.types b.netlist) n (Pin p) → ⊥
  port-drives-none p net n port drives = by (driver-from b.types b.netlist n p drives)
    where
      by : (p.0 < connection_count b.netlist.insts) ⊎ IsInputBit (connection_count b.netlist.insts) 0 b.netlist.ports b.netlist.wires n p.0 → ⊥
      by (inl lt) = omega (arith, port.number)
      by (inr bit) =
          let same : n ≡ net.0 = omega (arith, bit.number, port.number) in
          let there : IsNetBit b.netlist.wires net.0 bit.place bit.bit = record { number = omega (arith, bit.net); within = (bit.wire, bit.wire_at, bit.within) } in
          let one = IsNumbered-one width_of b.netlist.wires net.0 port.place port.bit bit.place bit.bit port.is_bit there in
          let port_at : slice_get b.netlist.ports port.place ≡ Some bit.port = ap (slice_get b.netlist.ports) one.0 ∙ bit.at in
          let is_port = port.is_port in
          let directed = port.directed in
          let input = bit.input in
          let same_port : port.port ≡ bit.port = cc in
          let clash : Output ≡ Input = cc in
          cc

  port-starts-none : (p to : PinNo) (net : NetNo) (wire : Bool) → IsPortPin b.netlist p Output net → IsArcAs wire b p to → ⊥
  port-starts-none p to net true port h = port-drives-none p net _ port h.root.end
  port-starts-none p to net false port h = let lt = connection-below p h.inst h.t h.input h.begins in omega (arith, port.number)

  -- so no walk leads from it to a capture
  port-leads-none : (p : PinNo) (net : NetNo) → IsPortPin b.netlist p Output net → LeadsTo graph.arcs graph.captures p → ⊥
  port-leads-none p net port h = by h.steps h.next h.there
    where
      by : (steps : List PinNo) → EachNext graph.arcs p steps → Contains graph.captures (last_pin p steps) → ⊥
      by [] next there =
          let capture : IsCapture b p = All-contains (IsCapture b) graph.captures p of.captures.sound there in
          let lt = connection-below p capture.inst capture.t capture.pin capture.pin_of in
          omega (arith, port.number)
      by (x ∷ steps) next there =
          let arc = next.0.arc in
          let is : IsArc b arc = All-contains (IsArc b) graph.arcs arc of.arcs.sound next.0.listed in
          port-starts-none p arc.to net arc.wire port (subst (λ f. IsArcAs arc.wire b f arc.to) next.0.from is)

  -- a connection that reads a net bit isn't an output: an arc would lead from it to itself
  reads-no_output : (p : PinNo) (net : NetNo) (h : IsInputOn b p net) → is_output_pin h.t h.pin.name ≡ false
  reads-no_output p net h = false-never (is_output_pin h.t h.pin.name) (HasArc graph.arcs p p) loop (no_loop p)
    where
      loop : is_output_pin h.t h.pin.name ≡ true → HasArc graph.arcs p p
      loop out =
          let at = h.pin_of in
          let drives : EndsAt (drivers b.types b.netlist) net.0 (Pin p) =
          output-drives b.types b.netlist h.inst at.place at.i h.t h.pin net p.0 at.numbered.number at.is_inst at.typed at.is_pin out h.on in
          let root : IsRoot (drivers b.types b.netlist) net.0 (Pin p) = record { bits = []; walk = tt; end = drives } in
          let arc : Arc = record { from = p; to = p; wire = true } in
          let is : IsWireArc b p p = record { net = net; reads = inl h; root = root } in
          record { arc = arc; listed = of.arcs.whole arc is; from = refl; to = refl }

  -- a site is a connection that reads a net bit
  site-reads : (p : PinNo) → IsSite graph p → (net : NetNo) × IsInputOn b p net
  site-reads p site =
      let arc : Arc = record { from = site.ends.source; to = p; wire = true } in
      let is : IsArc b arc = All-contains (IsArc b) graph.arcs arc of.arcs.sound site.ends.wire in
      by is.net is.reads
    where
      by : (net : NetNo) → Reads b p net → (m : NetNo) × IsInputOn b p m
      by net (inl h) = (net, h)
      by net (inr port) = absurd (port-leads-none p net port (leads_to_capture graph p site.ends))

  pub site-below : (p : PinNo) → IsSite graph p → p.0 < connection_count b.netlist.insts
  site-below p site = let reads = (site-reads p site).1 in connection-below p reads.inst reads.t reads.pin reads.pin_of

  pub site-input : (p : PinNo) → IsSite graph p → IsInputIn b.types (map shape_of b.netlist.insts) p.0
  site-input p site =
      let reads = site-reads p site in
      let at = reads.1.pin_of in
      input-in b.types b.netlist.insts reads.1.inst at.place at.i reads.1.t reads.1.pin p.0 at.numbered.number at.is_inst at.typed at.is_pin (reads-no_output p reads.0 reads.1)
