use Rattle.std.proofs.Common.{◌<◌, List, ℕ, length, sym, ap, ◌∙◌, subst}
use Rattle.std.specs.Prelude.{IsTrue, ◌↔◌, All}
use Rattle.hold_graph.specs.declared.graph.Arc.{Arc}
use Rattle.hold_graph.specs.declared.graph.Parts.{Parts}
use Rattle.hold_uses.specs.inner.Marks.{AnyMarked}
use Rattle.hold_uses.proofs.Marking.{places-within, comes-from_any, any-from_comes}
use Rattle.hold_uses.proofs.marks.comes_to.Goals as goal

pub any_marked-requires-clause-places : goal.any_marked-requires-clause-places
any_marked-requires-clause-places c =
    subst (λ (arcs : List Arc). All (λ (place : ℕ). place < length arcs) c.places_to.result.now) (sym (c.as_slice-arcs.ensures ∙ ap (λ (p : Parts). p.arcs) c.parts.ensures.same))
    (places-within c.args.way c.args.graph.now.arcs c.args.pin c.places_to.result.now c.places_to.ensures)

pub returns : goal.returns
returns c =
    let by_arcs : IsTrue c.any_marked.result ↔ AnyMarked c.args.way c.args.graph.now.arcs c.args.marks.now c.places_to.result.now =
    subst (λ (arcs : List Arc). IsTrue c.any_marked.result ↔ AnyMarked c.args.way arcs c.args.marks.now c.places_to.result.now) (c.as_slice-arcs.ensures ∙ ap (λ (p : Parts). p.arcs) c.parts.ensures.same) c.any_marked.ensures in
    let is = subst (λ (places : List ℕ). IsTrue c.any_marked.result ↔ AnyMarked c.args.way c.args.graph.now.arcs c.args.marks.now places) c.places_to.ensures by_arcs in (
      (λ found. comes-from_any c.args.way c.args.graph.now.arcs c.args.marks.now c.args.pin (is.0 found)),
      (λ comes. is.1 (any-from_comes c.args.way c.args.graph.now.arcs c.args.marks.now c.args.pin comes)),
    )
