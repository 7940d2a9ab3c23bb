use Rattle.std.proofs.Common.{◌∙◌, sym, arith, subst, to_z, of_z, w64}
use Rattle.std.proofs.lemmas.Int.{ints}
use Rattle.hold_graph.specs.inner.Arrival.{AreWithin, sum_limit}
use Rattle.hold_graph.proofs.Bounds.{left-within, coming-within, read-within}
use Rattle.hold_graph.proofs.short.missing_at.Goals as goal

pub offer-coming-requires-clause-best : goal.offer-coming-requires-clause-best
offer-coming-requires-clause-best c = subst (AreWithin sum_limit) (sym c.as_slice-2.ensures.value) c.requires.tables.best

pub left-requires-clause-coming : goal.left-requires-clause-coming
left-requires-clause-coming c =
    coming-within c.args.line.now.arcs.now c.args.tables.now.steps.items c.as_slice.result.now c.args.tables.now.best.items c.as_slice-2.result.now c.args.line.now.into.now c.args.capture.0 c.offer-coming.result
    c.requires.line.places c.requires.tables.steps_each c.requires.tables.steps c.requires.tables.best c.as_slice.ensures.value c.as_slice-2.ensures.value c.offer-coming.ensures

pub left-requires-clause-end : goal.left-requires-clause-end
left-requires-clause-end c =
    read-within c.args.tables.now.ends.items c.args.capture.0 c.index.result.now
    (let each = c.requires.tables.ends_each in let lt = c.requires.capture in omega arith) c.index.ensures c.requires.tables.ends

pub left-requires-clause-check : goal.left-requires-clause-check
left-requires-clause-check c =
    read-within c.args.tables.now.checks.items c.args.capture.0 c.index-2.result.now
    (let each = c.requires.tables.checks_each in let lt = c.requires.capture in omega arith) c.index-2.ensures c.requires.tables.checks

pub missing-requires : goal.missing-requires
missing-requires c = λ s is.
    let base = c.requires.base in
    left-within c.offer-coming.result c.index.result.now c.index-2.result.now (to_z w64 (of_z w64 c.args.base))
    (coming-within c.args.line.now.arcs.now c.args.tables.now.steps.items c.as_slice.result.now c.args.tables.now.best.items c.as_slice-2.result.now c.args.line.now.into.now c.args.capture.0 c.offer-coming.result
    c.requires.line.places c.requires.tables.steps_each c.requires.tables.steps c.requires.tables.best c.as_slice.ensures.value c.as_slice-2.ensures.value c.offer-coming.ensures)
    (read-within c.args.tables.now.ends.items c.args.capture.0 c.index.result.now
    (let each = c.requires.tables.ends_each in let lt = c.requires.capture in omega arith) c.index.ensures c.requires.tables.ends)
    (read-within c.args.tables.now.checks.items c.args.capture.0 c.index-2.result.now
    (let each = c.requires.tables.checks_each in let lt = c.requires.capture in omega arith) c.index-2.ensures c.requires.tables.checks)
    (record { low = omega (arith, ints); high = omega (arith, ints) }) s (sym c.left.ensures ∙ is)
