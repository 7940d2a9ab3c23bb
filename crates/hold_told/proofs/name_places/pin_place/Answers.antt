use Rattle.std.proofs.Common.{List, ap, sym, ◌∙◌, bytes_eq}
use Rattle.hold_base.proofs.Bytes.{bytes_eq-sym}
use Rattle.hold_base.proofs.Lists.{drop-here}
use Rattle.hold_told.proofs.PlaceLemmas.{place-here, place-next}
use Rattle.hold_told.proofs.name_places.pin_place.Goals as goal

pub returns-then-eq : goal.returns-then-eq
returns-then-eq c =
    let here = drop-here c.args.pins.now c.loop-place.place c.index-pins-place.result c.loop-place-test.true c.index-pins-place.is in
    sym (place-here c.args.pins.now c.loop-place.place c.args.name.now c.index-pins-place.result here
    (bytes_eq-sym c.args.name.now c.index-pins-place.result.name ∙ ap (λ (l : List _). bytes_eq l c.args.name.now) (sym c.bytes.ensures) ∙ sym c.eq.ensures ∙ c.if-eq.true)) ∙ c.loop-place.invariant

pub loop-place-preserved : goal.loop-place-preserved
loop-place-preserved c =
    let here = drop-here c.args.pins.now c.loop-place.place c.index-pins-place.result c.loop-place-test.true c.index-pins-place.is in
    sym (place-next c.args.pins.now c.loop-place.place c.args.name.now c.index-pins-place.result here
    (bytes_eq-sym c.args.name.now c.index-pins-place.result.name ∙ ap (λ (l : List _). bytes_eq l c.args.name.now) (sym c.bytes.ensures) ∙ sym c.eq.ensures ∙ c.if-eq.false)) ∙ c.loop-place.invariant
