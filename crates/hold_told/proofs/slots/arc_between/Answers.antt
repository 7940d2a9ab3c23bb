use Rattle.std.proofs.Common.{◌≡◌, ◌<◌, List, length, get_or, Bool, true, false, sym, ap, ◌∙◌, subst}
use Rattle.hold_graph.specs.declared.graph.Arc.{Arc}
use Rattle.hold_graph.specs.declared.graph.Parts.{Parts}
use Rattle.hold_told.proofs.SlotLemmas.{between-at, none-between, places-into-within, unlike-more}
use Rattle.hold_told.proofs.slots.arc_between.Goals as goal

-- what is read past the arcs
abbrev none : Arc
none = record { from = record { 0 = 0 }; to = record { 0 = 0 }; wire = false }

pub bounds-arcs-place : goal.bounds-arcs-place
bounds-arcs-place c =
    let same = c.as_slice-arcs.ensures ∙ ap (λ (p : Parts). p.arcs) c.parts.ensures.same in
    subst (λ (arcs : List Arc). get_or c.incoming-place-items.result.now c.loop-place.place-index 0 < length arcs) (sym same)
    (places-into-within c.args.graph.now.arcs c.args.to c.incoming-place-items.result.now c.incoming-place-items.ensures c.loop-place.place-index 0 c.loop-place-test.true)

pub returns-then-comes_from-clause-found : goal.returns-then-comes_from-clause-found
returns-then-comes_from-clause-found c =
    let same = c.as_slice-arcs.ensures ∙ ap (λ (p : Parts). p.arcs) c.parts.ensures.same in
    let place = get_or c.incoming-place-items.result.now c.loop-place.place-index 0 in
    let within = places-into-within c.args.graph.now.arcs c.args.to c.incoming-place-items.result.now c.incoming-place-items.ensures c.loop-place.place-index 0 c.loop-place-test.true in
    let is = c.comes_from.ensures.0 c.if-comes_from.true in
    between-at c.args.graph.now.arcs c.incoming-place-items.result.now c.args.from c.args.to c.args.wire c.loop-place.place-index _ c.incoming-place-items.ensures c.loop-place-test.true within
    (ap (λ (arcs : List Arc). (get_or arcs place _).from) (sym same) ∙ is.0) (ap (λ (arcs : List Arc). (get_or arcs place _).wire) (sym same) ∙ is.1)

pub loop-place-preserved : goal.loop-place-preserved
loop-place-preserved c =
    let same = c.as_slice-arcs.ensures ∙ ap (λ (p : Parts). p.arcs) c.parts.ensures.same in
    let place = get_or c.incoming-place-items.result.now c.loop-place.place-index 0 in
    let within = places-into-within c.args.graph.now.arcs c.args.to c.incoming-place-items.result.now c.incoming-place-items.ensures c.loop-place.place-index 0 c.loop-place-test.true in
    unlike-more c.args.graph.now.arcs c.incoming-place-items.result.now c.args.from c.args.wire c.loop-place.place-index none c.loop-place-test.true within
    (λ begins along. unlike (c.comes_from.ensures.1 (ap (λ (arcs : List Arc). (get_or arcs place none).from) same ∙ begins, ap (λ (arcs : List Arc). (get_or arcs place none).wire) same ∙ along)) c.if-comes_from.false)
    c.loop-place.invariant
  where
    unlike : {b : Bool} → b ≡ true → b ≡ false → ⊥
    unlike on off = cc

pub returns-clause-none : goal.returns-clause-none
returns-clause-none c = λ e. none-between c.args.graph.now.arcs c.incoming-place-items.result.now c.args.from c.args.to c.args.wire c.loop-place.place-index c.incoming-place-items.ensures c.loop-place-test.false c.loop-place.invariant
