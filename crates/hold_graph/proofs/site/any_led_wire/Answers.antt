use Rattle.std.proofs.Common.{◌≡◌, ◌+◌, ◌||◌, sym, ◌∙◌, ap, drop, true, false, get_or}
use Rattle.std.proofs.lemmas.Bool.{or_left}
use Rattle.std.proofs.lemmas.List.{at_drop_more}
use Rattle.hold_graph.specs.inner.Sites.{any_led_wire}
use Rattle.hold_graph.proofs.SiteLists.{is_led_wire-read}
use Rattle.hold_graph.proofs.site.any_led_wire.Goals as goal

pub returns-then-is_led_wire : goal.returns-then-is_led_wire
returns-then-is_led_wire c =
    let i = c.loop-place.place-index in
    let step = at_drop_more (any_led_wire c.args.launched.now c.args.arcs.now) c.args.places.now i 0 c.loop-place-test.true in
    let here = is_led_wire-read c.args.launched.now c.args.arcs.now (get_or c.args.places.now i 0) _ (c.requires.places i 0 c.loop-place-test.true) ∙ sym c.is_led_wire.ensures ∙ c.if-is_led_wire.true in
    sym (sym c.loop-place.invariant ∙ step ∙ or_left _ _ here)

pub loop-place-preserved : goal.loop-place-preserved
loop-place-preserved c =
    let i = c.loop-place.place-index in
    let step = at_drop_more (any_led_wire c.args.launched.now c.args.arcs.now) c.args.places.now i 0 c.loop-place-test.true in
    let here = is_led_wire-read c.args.launched.now c.args.arcs.now (get_or c.args.places.now i 0) _ (c.requires.places i 0 c.loop-place-test.true) ∙ sym c.is_led_wire.ensures ∙ c.if-is_led_wire.false in
    sym (step ∙ ap (λ b. b || any_led_wire c.args.launched.now c.args.arcs.now (drop (i + 1) c.args.places.now)) here) ∙ c.loop-place.invariant
