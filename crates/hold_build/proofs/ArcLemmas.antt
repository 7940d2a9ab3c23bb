-- The arcs of a netlist, those along wires and those through cells, and how many there are.
use Rattle.std.proofs.Common.{◌≡◌, ◌+◌, ◌<◌, ◌≤◌, ◌⊎◌, inl, inr, List, ◌++◌, length, Bool, true, false, refl, sym, ap, subst, ◌∙◌, arith, length-append}
use Rattle.std.specs.Prelude.{Contains}
use Rattle.std.proofs.lemmas.List.Elements.{All-contains_itself, All-weaker}
use Rattle.std.proofs.lemmas.Option.{slice_get_within}
use Rattle.hold_base.specs.Limits.{arcs_limit}
use Rattle.hold_graph.specs.declared.graph.Arc.{Arc}
use Rattle.hold_roles.specs.Binding.{Binding}
use Rattle.hold_build.specs.declared.sinks.Sink.{Sink}
use Rattle.hold_build.specs.Arcs.{IsArc, IsArcAs, IsCellArc, IsWireArc}
use Rattle.hold_build.specs.Faults.{HasTooManyArcs}
use Rattle.hold_build.specs.Listing.{ListsEach}
use Rattle.hold_build.specs.Pins.{Reads}
use Rattle.hold_build.specs.inner.CellArcs.{cell_arcs, over_count}
use Rattle.hold_build.specs.inner.Insts.{over_insts}
use Rattle.hold_build.specs.inner.Sinks.{sinks}
use Rattle.hold_build.specs.inner.WireArcs.{IsSinkArc}
use Rattle.hold_build.proofs.ListingLemmas.{at-Contains, Contains-at, ListsEach-append, ListsEach-length, ListsEach-same}
use Rattle.hold_build.proofs.SinkLemmas.{sinks-has, sinks-of}
use Rattle.hold_build.proofs.CellArcLemmas.{cell_arcs-has, cell_arcs-of, cell_arcs-once, length-cell_arcs}

pub record IsWire (b : Binding) (arc : Arc) : Type 0 where
  pub wire : arc.wire ≡ true
  pub arc_is : IsWireArc b arc.from arc.to

pub record IsCell (b : Binding) (arc : Arc) : Type 0 where
  pub cell : arc.wire ≡ false
  pub arc_is : IsCellArc b arc.from arc.to

wires-each : (b : Binding) (found : List Sink) (arcs : List Arc) → found ≡ sinks b.types b.netlist → ListsEach (IsSinkArc b found (length found)) arcs → ListsEach (IsWire b) arcs
wires-each b found arcs is = ListsEach-same (IsSinkArc b found (length found)) (IsWire b) arcs there back
  where
    there : (arc : Arc) → IsSinkArc b found (length found) arc → IsWire b arc
    there arc h =
        let reads = sinks-of b h.sink (subst (λ l. Contains l h.sink) is (Contains-at found h.place h.sink h.at)) in
        record { wire = h.wire; arc_is = record { net = h.sink.net; reads = subst (λ p. Reads b p h.sink.net) h.to reads; root = h.root } }

    back : (arc : Arc) → IsWire b arc → IsSinkArc b found (length found) arc
    back arc h =
        let s : Sink = record { pin = arc.to; net = h.arc_is.net } in
        let at = at-Contains found s (subst (λ l. Contains l s) (sym is) (sinks-has b s h.arc_is.reads)) in
        record { place = at.0; before = slice_get_within found at.0 s at.1; sink = s; at = at.1; to = refl; root = h.arc_is.root; wire = h.wire }

cells-each : (b : Binding) → ListsEach (IsCell b) (over_insts cell_arcs b.types 0 b.netlist.insts)
cells-each b = record {
  sound = All-weaker (Contains (over_insts cell_arcs b.types 0 b.netlist.insts)) (IsCell b)
      (λ arc h. let told = cell_arcs-of b arc h in record { cell = told.0; arc_is = told.1 })
      (over_insts cell_arcs b.types 0 b.netlist.insts) (All-contains_itself (over_insts cell_arcs b.types 0 b.netlist.insts));
  whole = λ arc h. cell_arcs-has b arc h.cell h.arc_is;
  once = cell_arcs-once b.types b.netlist.insts;
}

both-each : (b : Binding) (wires cells : List Arc) → ListsEach (IsWire b) wires → ListsEach (IsCell b) cells → ListsEach (IsArc b) (wires ++ cells)
both-each b wires cells h k =
    ListsEach-same (λ arc. IsWire b arc ⊎ IsCell b arc) (IsArc b) (wires ++ cells) there (λ arc a. back arc arc.wire refl a)
    (ListsEach-append (IsWire b) (IsCell b) wires cells h k (λ arc w c. let one = w.wire in let two = c.cell in cc))
  where
    there : (arc : Arc) → IsWire b arc ⊎ IsCell b arc → IsArc b arc
    there arc (inl w) = subst (λ x. IsArcAs x b arc.from arc.to) (sym w.wire) w.arc_is
    there arc (inr c) = subst (λ x. IsArcAs x b arc.from arc.to) (sym c.cell) c.arc_is

    back : (arc : Arc) (x : Bool) → arc.wire ≡ x → IsArcAs x b arc.from arc.to → IsWire b arc ⊎ IsCell b arc
    back arc true is a = inl (record { wire = is; arc_is = a })
    back arc false is a = inr (record { cell = is; arc_is = a })

module _ (b : Binding) (found seen : List Sink) (wires : List Arc) (is : found ≡ sinks b.types b.netlist) (lent : seen ≡ found)
    (listed : ListsEach (IsSinkArc b seen (length seen)) wires) where
  all-each : ListsEach (IsArc b) (wires ++ over_insts cell_arcs b.types 0 b.netlist.insts)
  all-each = both-each b wires (over_insts cell_arcs b.types 0 b.netlist.insts) (wires-each b seen wires (lent ∙ is) listed) (cells-each b)

  all-length : length (wires ++ over_insts cell_arcs b.types 0 b.netlist.insts) ≡ length wires + over_count b.types b.netlist.insts
  all-length = omega (arith, length-append wires (over_insts cell_arcs b.types 0 b.netlist.insts), length-cell_arcs b.types 0 b.netlist.insts)

  pub arcs-each : (arcs : List Arc) → arcs ≡ wires ++ over_insts cell_arcs b.types 0 b.netlist.insts → ListsEach (IsArc b) arcs
  arcs-each arcs made = subst (ListsEach (IsArc b)) (sym made) all-each

  pub arcs-few : (arcs : List Arc) → arcs ≡ wires ++ over_insts cell_arcs b.types 0 b.netlist.insts → length wires + over_count b.types b.netlist.insts ≤ arcs_limit → length arcs ≤ arcs_limit
  arcs-few arcs made few = let long = ap (λ (l : List Arc). length l) made ∙ all-length in omega arith

  pub arcs-many : arcs_limit < length wires + over_count b.types b.netlist.insts → HasTooManyArcs b
  arcs-many many = let long = all-length in record { arcs = wires ++ over_insts cell_arcs b.types 0 b.netlist.insts; all = all-each; many = omega arith }

-- a list of few arcs leaves no room for one of too many
pub few-arcs : (b : Binding) (arcs : List Arc) → ListsEach (IsArc b) arcs → length arcs ≤ arcs_limit → HasTooManyArcs b → ⊥
few-arcs b arcs h few many = omega (arith, ListsEach-length (IsArc b) many.arcs arcs many.all h, many.many)
