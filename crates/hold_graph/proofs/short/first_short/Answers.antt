use Rattle.std.proofs.Common.{subst, to_z, of_z, w64}
use Rattle.std.specs.Prelude.{All, ℤ}
use Rattle.std.proofs.lemmas.Int.{to_z-of_z}
use Rattle.std.proofs.lemmas.List.{take_all}
use Rattle.hold_base.specs.declared.number.PinNo.{PinNo}
use Rattle.hold_graph.specs.inner.Arrival.{left_by, IsEnough}
use Rattle.hold_graph.proofs.short.first_short.Goals as goal

pub returns-clause-none : goal.returns-clause-none
returns-clause-none c =
    let enough : ℤ → PinNo → Type 0 = λ base capture. IsEnough (left_by c.args.line.now.arcs.now c.args.tables.now.steps.items base c.args.line.now.into.now c.args.tables.now.best.items c.args.tables.now.ends.items c.args.tables.now.checks.items capture) in
    subst (λ (base : ℤ). All (enough base) c.args.captures.now) (to_z-of_z w64 c.args.base c.ranges.base)
    (subst (All (enough (to_z w64 (of_z w64 c.args.base)))) (take_all c.loop-capture.capture-index c.args.captures.now c.loop-capture-test.false) c.loop-capture.invariant)
