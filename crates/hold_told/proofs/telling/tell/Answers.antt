use Rattle.std.proofs.Common.{ℕ, refl, ap}
use Rattle.std.specs.Prelude.{Err}
use Rattle.hold_told.specs.declared.stray.Stray.{Stray}
use Rattle.hold_told.proofs.StepLemmas.{told-none}
use Rattle.hold_told.proofs.StrayLemmas.{first-stray, none-stray, one-stray, placed-all, placed-next, told-all, told-next}
use Rattle.hold_told.proofs.telling.tell.Goals as goal

pub loop-entry-init : goal.loop-entry-init
loop-entry-init c = record { told = told-none c.args.bound.now c.args.graph.now c.in_ok-told.told c.in_ok-told.ensures; placed = tt }

pub join-requires-clause-room : goal.join-requires-clause-room
join-requires-clause-room c = c.loop-entry.invariant.told.room

pub loop-entry-preserved : goal.loop-entry-preserved
loop-entry-preserved c = record {
  told =
      told-next c.args.bound.now c.args.graph.now c.args.entries.now c.loop-entry.entry-index c.entry-item.result c.in-Some.place c.loop-entry.told c.join.new.told c.loop-entry-test.true c.entry-item.is
      c.loop-entry.invariant.told c.in-Some.ensures.some c.join.ensures;
  placed = placed-next c.args.bound.now c.args.entries.now c.loop-entry.entry-index c.entry-item.result c.loop-entry-test.true c.entry-item.is c.loop-entry.invariant.placed c.in-Some.ensures.placed;
}

pub returns-in_default-clause-stray : goal.returns-in_default-clause-stray
returns-in_default-clause-stray c =
    first-stray c.args.bound.now c.args.entries.now c.loop-entry.entry-index c.entry-item.result c.text_place-at.result c.loop-entry-test.true c.entry-item.is c.loop-entry.invariant.placed
    (c.in_default.ensures.none refl) c.text_place-at.ensures

pub returns-in_default-clause-accepted : goal.returns-in_default-clause-accepted
returns-in_default-clause-accepted c = λ all.
    none-stray c.args.bound.now c.args.entries.now c.text_place-at.result all
    (first-stray c.args.bound.now c.args.entries.now c.loop-entry.entry-index c.entry-item.result c.text_place-at.result c.loop-entry-test.true c.entry-item.is c.loop-entry.invariant.placed
    (c.in_default.ensures.none refl) c.text_place-at.ensures)

pub returns-in_default-clause-refused : goal.returns-in_default-clause-refused
returns-in_default-clause-refused c = λ at h.
    ap (λ (n : ℕ). let stray : Stray = record { at = n } in Err stray)
    (one-stray c.args.bound.now c.args.entries.now at c.text_place-at.result h
    (first-stray c.args.bound.now c.args.entries.now c.loop-entry.entry-index c.entry-item.result c.text_place-at.result c.loop-entry-test.true c.entry-item.is c.loop-entry.invariant.placed
    (c.in_default.ensures.none refl) c.text_place-at.ensures))

pub returns-clause-told : goal.returns-clause-told
returns-clause-told c = told-all c.args.bound.now c.args.graph.now c.args.entries.now c.loop-entry.entry-index c.loop-entry.told c.loop-entry-test.false c.loop-entry.invariant.told

pub returns-clause-placed : goal.returns-clause-placed
returns-clause-placed c = placed-all c.args.bound.now c.args.entries.now c.loop-entry.entry-index c.loop-entry-test.false c.loop-entry.invariant.placed

pub returns-clause-refused : goal.returns-clause-refused
returns-clause-refused c = λ at h.
    absurd (none-stray c.args.bound.now c.args.entries.now at (placed-all c.args.bound.now c.args.entries.now c.loop-entry.entry-index c.loop-entry-test.false c.loop-entry.invariant.placed) h)
