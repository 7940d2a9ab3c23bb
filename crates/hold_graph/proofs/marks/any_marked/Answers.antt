use Rattle.std.proofs.Common.{◌≡◌, ◌+◌, ◌||◌, sym, ◌∙◌, ap, drop, true, false, get_or}
use Rattle.std.proofs.lemmas.Bool.{or_left}
use Rattle.std.proofs.lemmas.List.{at_drop_more}
use Rattle.hold_graph.specs.inner.Marks.{is_marked, any_marked}
use Rattle.hold_graph.proofs.Spread.{is_marked-read}
use Rattle.hold_graph.proofs.marks.any_marked.Goals as goal

pub returns-then-marks-pin_at : goal.returns-then-marks-pin_at
returns-then-marks-pin_at c =
    let i = c.loop-place.place-index in
    let step = at_drop_more (any_marked c.args.marks.now c.args.far c.args.arcs.now) c.args.places.now i 0 c.loop-place-test.true in
    let here = is_marked-read c.args.marks.now c.args.far c.args.arcs.now (get_or c.args.places.now i 0) _ c.pin_at.result false true (c.requires.places i 0 c.loop-place-test.true) c.pin_at.ensures c.requires.ends c.if-marks-pin_at.true in
    sym (sym c.loop-place.invariant ∙ step ∙ or_left _ _ here)

pub loop-place-preserved : goal.loop-place-preserved
loop-place-preserved c =
    let i = c.loop-place.place-index in
    let step = at_drop_more (any_marked c.args.marks.now c.args.far c.args.arcs.now) c.args.places.now i 0 c.loop-place-test.true in
    let here = is_marked-read c.args.marks.now c.args.far c.args.arcs.now (get_or c.args.places.now i 0) _ c.pin_at.result false false (c.requires.places i 0 c.loop-place-test.true) c.pin_at.ensures c.requires.ends c.if-marks-pin_at.false in
    sym (step ∙ ap (λ b. b || any_marked c.args.marks.now c.args.far c.args.arcs.now (drop (i + 1) c.args.places.now)) here) ∙ c.loop-place.invariant
