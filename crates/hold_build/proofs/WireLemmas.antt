-- Arcs along wires, sink by sink.
use Rattle.std.proofs.Common.{◌≡◌, ℕ, ◌+◌, ◌⊎◌, inl, inr, List, [], ◌∷◌, ◌++◌, true, refl, sym, ap, subst, ◌∙◌, arith}
use Rattle.std.specs.Prelude.{Some, slice_get}
use Rattle.std.proofs.lemmas.Bool.{cases_eq}
use Rattle.hold_base.specs.declared.number.PinNo.{PinNo}
use Rattle.hold_graph.specs.declared.graph.Arc.{Arc}
use Rattle.hold_roles.specs.declared.roots.Root.{Root}
use Rattle.hold_roles.specs.declared.roots.Root.TheVariants.{Pin}
use Rattle.hold_roles.specs.Binding.{Binding}
use Rattle.hold_roles.specs.Drivers.{drivers}
use Rattle.hold_roles.specs.Roots.{IsRoot}
use Rattle.hold_build.specs.declared.sinks.Sink.{Sink}
use Rattle.hold_build.specs.Listing.{ListsEach}
use Rattle.hold_build.specs.inner.WireArcs.{HasDifferentPins, IsSinkArc}
use Rattle.hold_build.proofs.ListingLemmas.{ListsEach-push, ListsEach-same}

abbrev wire_arc : PinNo → PinNo → Arc
wire_arc from to = record { from = from; to = to; wire = true }

module _ (b : Binding) (sinks : List Sink) (differ : HasDifferentPins sinks) (n : ℕ) (s : Sink) (at : slice_get sinks n ≡ Some s) where
  more : (arc : Arc) → IsSinkArc b sinks n arc → IsSinkArc b sinks (n + 1) arc
  more arc h = record { place = h.place; before = omega (arith, h.before); sink = h.sink; at = h.at; to = h.to; root = h.root; wire = h.wire }

  -- an arc to this sink
  record IsHere (arc : Arc) : Type 0 where
    pub to : s.pin ≡ arc.to
    pub root : IsRoot (drivers b.types b.netlist) s.net.0 (Pin arc.from)
    pub wire : arc.wire ≡ true

  before-or-here : (arc : Arc) → IsSinkArc b sinks (n + 1) arc → IsSinkArc b sinks n arc ⊎ IsHere arc
  before-or-here arc h = by (cases_eq h.place n)
    where
      by : ((h.place ≡ n) ⊎ (h.place ≡ n → ⊥)) → IsSinkArc b sinks n arc ⊎ IsHere arc
      by (inl e) =
          let same : h.sink ≡ s = (let there : slice_get sinks n ≡ Some h.sink = ap (slice_get sinks) (sym e) ∙ h.at in cc) in
          inr (record {
            to = ap (λ (x : Sink). x.pin) (sym same) ∙ h.to;
            root = subst (λ (x : Sink). IsRoot (drivers b.types b.netlist) x.net.0 (Pin arc.from)) same h.root;
            wire = h.wire;
          })
      by (inr d) = inl (record { place = h.place; before = omega (arith, h.before, d); sink = h.sink; at = h.at; to = h.to; root = h.root; wire = h.wire })

  pub wire-added : (arcs new : List Arc) (root : Root) (from : PinNo) → IsRoot (drivers b.types b.netlist) s.net.0 root
      → ((r : Root) → IsRoot (drivers b.types b.netlist) s.net.0 r → r ≡ root) → root ≡ Pin from → new ≡ arcs ++ wire_arc from s.pin ∷ []
      → ListsEach (IsSinkArc b sinks n) arcs → ListsEach (IsSinkArc b sinks (n + 1)) new
  wire-added arcs new root from is one pin pushed h = subst (ListsEach (IsSinkArc b sinks (n + 1))) (sym pushed)
      (ListsEach-push (IsSinkArc b sinks n) (IsSinkArc b sinks (n + 1)) arcs (wire_arc from s.pin) h more here fresh
      (λ arc k. elim (before-or-here arc k) [ inl p ↦ inl p | inr q ↦ inr (only arc q) ]))
    where
      here : IsSinkArc b sinks (n + 1) (wire_arc from s.pin)
      here = record {
        place = n;
        before = omega arith;
        sink = s;
        at = at;
        to = refl;
        root = subst (IsRoot (drivers b.types b.netlist) s.net.0) pin is;
        wire = refl;
      }

      fresh : IsSinkArc b sinks n (wire_arc from s.pin) → ⊥
      fresh k = let same : k.place ≡ n = differ.each k.place n k.sink s k.at at k.to in omega (arith, k.before, same)

      only : (arc : Arc) → IsHere arc → wire_arc from s.pin ≡ arc
      only arc q =
          let begins : from ≡ arc.from = (let both : Pin arc.from ≡ Pin from = one (Pin arc.from) q.root ∙ pin in cc) in
          ap (λ f. wire_arc f s.pin) begins ∙ ap (wire_arc arc.from) q.to ∙ ap (λ w. record { from = arc.from; to = arc.to; wire = w }) (sym q.wire)

  pub wire-skipped : (arcs new : List Arc) (root : Root) → ((r : Root) → IsRoot (drivers b.types b.netlist) s.net.0 r → r ≡ root)
      → ((p : PinNo) → root ≡ Pin p → ⊥) → new ≡ arcs → ListsEach (IsSinkArc b sinks n) arcs → ListsEach (IsSinkArc b sinks (n + 1)) new
  wire-skipped arcs new root one none kept h = subst (ListsEach (IsSinkArc b sinks (n + 1))) (sym kept)
      (ListsEach-same (IsSinkArc b sinks n) (IsSinkArc b sinks (n + 1)) arcs more
      (λ arc k. elim (before-or-here arc k) [ inl p ↦ p | inr q ↦ absurd (none arc.from (sym (one (Pin arc.from) q.root))) ]) h)
