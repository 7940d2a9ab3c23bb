use Rattle.std.proofs.Common.{◌≡◌, drop}
use Rattle.hold_graph.specs.inner.Sites.{any_led_wire}
use Rattle.hold_graph.proofs.site.any_led_wire.Given as goal

abbrev pub invariant-loop-place : goal.invariant-loop-place
invariant-loop-place l = any_led_wire l.launched l.arcs (drop l.place-index l.places) ≡ any_led_wire l.launched l.arcs l.places
