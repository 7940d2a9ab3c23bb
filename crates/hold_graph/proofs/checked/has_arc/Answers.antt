use Rattle.std.proofs.Common.{◌≡◌, ◌∙◌, ℕ, ◌<◌, length, get_or, sym, ap, subst, arith, refl, eq-eqb, true, false}
use Rattle.std.specs.Prelude.{List, All}
use Rattle.std.proofs.lemmas.Bool.{eqb-true}
use Rattle.std.proofs.lemmas.Option.{slice_get-get_or}
use Rattle.hold_base.specs.declared.number.PinNo.{PinNo}
use Rattle.hold_graph.specs.declared.graph.Arc.{Arc}
use Rattle.hold_graph.specs.declared.adjacency.End.TheVariants.{To}
use Rattle.hold_graph.proofs.Places.{same_pin}
use Rattle.hold_graph.proofs.Ahead.{rows-within}
use Rattle.hold_graph.proofs.CheckedPaths.{has_arc-from, no_arc-from, no_arc-past, none_more}
use Rattle.hold_graph.proofs.checked.has_arc.Goals as goal

pub bounds-arcs-place : goal.bounds-arcs-place
bounds-arcs-place c =
    subst (All (λ (place : ℕ). place < length c.args.arcs.now)) (sym c.at-place-items.ensures)
    (rows-within (length c.args.incoming.now) To c.args.arcs.now c.args.incoming.now c.requires.rows c.args.to.0 (omega (arith, c.len.ensures, c.if-to-len.false)))
    c.loop-place.place-index 0 c.loop-place-test.true

pub returns-then-eq : goal.returns-then-eq
returns-then-eq c =
    let none : Arc = record { from = record { 0 = 0 }; to = record { 0 = 0 }; wire = false } in
    let i = c.loop-place.place-index in
    let place : ℕ = get_or c.at-place-items.result.now i 0 in
    let below : place < length c.args.arcs.now =
    subst (All (λ (k : ℕ). k < length c.args.arcs.now)) (sym c.at-place-items.ensures)
    (rows-within (length c.args.incoming.now) To c.args.arcs.now c.args.incoming.now c.requires.rows c.args.to.0 (omega (arith, c.len.ensures, c.if-to-len.false)))
    i 0 c.loop-place-test.true in (
      (λ is. has_arc-from c.args.arcs.now c.args.to c.args.from c.at-place-items.result.now i place (get_or c.args.arcs.now place none)
          (c.at-place-items.ensures ∙ c.requires.rows.each c.args.to (omega (arith, c.len.ensures, c.if-to-len.false)))
          (slice_get-get_or c.at-place-items.result.now i 0 c.loop-place-test.true) (slice_get-get_or c.args.arcs.now place none below)
          (same_pin _ _ (eqb-true _ _ (sym c.eq.ensures ∙ c.if-eq.true)))),
      (λ has. refl),
    )

pub loop-place-preserved : goal.loop-place-preserved
loop-place-preserved c =
    none_more c.args.arcs.now c.args.from c.at-place-items.result.now c.loop-place.place-index (record { from = record { 0 = 0 }; to = record { 0 = 0 }; wire = false })
    c.loop-place.invariant c.loop-place-test.true
    (λ e. let on = eq-eqb _ _ (ap (λ (p : PinNo). p.0) e) in let off = sym c.eq.ensures ∙ c.if-eq.false in cc)

pub returns : goal.returns
returns c = (
  (λ is. cc),
  λ has. absurd (no_arc-from c.args.arcs.now c.args.to c.args.from c.at-place-items.result.now c.loop-place.place-index
      (c.at-place-items.ensures ∙ c.requires.rows.each c.args.to (omega (arith, c.len.ensures, c.if-to-len.false))) c.loop-place-test.false c.loop-place.invariant has),
)
