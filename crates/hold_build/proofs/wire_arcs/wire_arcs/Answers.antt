use Rattle.std.proofs.Common.{ap, get_or, ◌∙◌}
use Rattle.std.proofs.lemmas.Option.{slice_get-get_or}
use Rattle.hold_build.specs.declared.sinks.Sink.{Sink}
use Rattle.hold_build.proofs.WireLemmas.{wire-added, wire-skipped}
use Rattle.hold_build.proofs.wire_arcs.wire_arcs.Goals as goal
use Rattle.hold_build.proofs.wire_arcs.wire_arcs.Goals.{in-Pin+in_ok-push, in_default}

pub loop-sink-preserved : goal.loop-sink-preserved
loop-sink-preserved c =
    let none : Sink = record { pin = record { 0 = 0 }; net = record { 0 = 0 } } in
    let at = slice_get-get_or c.args.sinks.now c.loop-sink.sink-index none c.loop-sink-test.true in
    elim c.match-root.branch [
      | in-Pin+in_ok-push w ↦ wire-added c.args.bound.now c.args.sinks.now c.requires.pins c.loop-sink.sink-index (get_or c.args.sinks.now c.loop-sink.sink-index none) at
          c.loop-sink.arcs.items c.match-root.arcs.items c.root.result w.in-Pin.from c.root.ensures.is c.root.ensures.one w.in-Pin.is
          (ap (λ v. v.items) w.arcs-is ∙ w.in_ok-push.ensures.items) c.loop-sink.invariant
      | in_default w ↦ wire-skipped c.args.bound.now c.args.sinks.now c.requires.pins c.loop-sink.sink-index (get_or c.args.sinks.now c.loop-sink.sink-index none) at
          c.loop-sink.arcs.items c.match-root.arcs.items c.root.result c.root.ensures.one w.in_default.not-Pin (ap (λ v. v.items) w.arcs-is) c.loop-sink.invariant
    ]
