use Rattle.std.proofs.Common.{◌∙◌, ap, arith, w64}
use Rattle.std.proofs.lemmas.Int.{to_z-of_z}
use Rattle.std.proofs.lemmas.List.{get_or_default}
use Rattle.hold_timing.specs.inner.Pass.{offer}
use Rattle.hold_timing.proofs.back.first_bringing.Goals as goal

pub returns-clause-none : goal.returns-clause-none
returns-clause-none c = λ k d lt is.
    (rw (to_z-of_z w64 c.args.pad c.ranges.pad, to_z-of_z w64 c.args.time c.ranges.time) at c.loop-place.invariant k (let all = c.loop-place-test.false in omega (arith, all, lt)))
    (ap (offer c.args.side c.args.arcs.now c.args.spans.now c.args.arrivals.now c.args.pad) (get_or_default c.args.places.now k 0 d lt) ∙ is)
