use Rattle.std.proofs.Common.{◌+◌, ap, sym, ◌∙◌, drop}
use Rattle.hold_vparse.specs.inner.Found.{merged, found_ident}
use Rattle.hold_vparse.specs.Soonest.{soonest}
use Rattle.hold_vparse.proofs.SoonestLemmas.{soonest-step}
use Rattle.std.proofs.Common.{[], ◌∷◌}
use Rattle.std.specs.Prelude.{if◌then◌else◌}
use Rattle.hold_base.proofs.Lists.{drop-here}
use Rattle.hold_netlist.specs.Names.{is_among}
use Rattle.hold_netlist.specs.inner.NameTable.{names_of}
use Rattle.hold_vparse.specs.DoubleNames.{repeated_pins}
use Rattle.hold_vparse.proofs.PinLemmas.{repeated_pins-step}
use Rattle.hold_vparse.proofs.pin_faults.repeated_in_connections.Goals as goal

pub loop-connection-preserved : goal.loop-connection-preserved
loop-connection-preserved c =
    let here = drop-here c.args.connections.now c.loop-connection.connection-index c.connection-item.result c.loop-connection-test.true c.connection-item.is in
    let step = repeated_pins-step (names_of c.loop-connection.seen) (names_of c.repeated_pin.new.seen) c.connection-item.result (drop (c.loop-connection.connection-index + 1) c.args.connections.now) c.in_ok-again.ensures.seen in
    soonest-step (found_ident c.loop-connection.found) (found_ident c.soonest_of-found.result) _
    (if is_among c.connection-item.result.pin.name (names_of c.loop-connection.seen) then c.connection-item.result.pin ∷ [] else []) _
    (c.soonest_of-found.ensures ∙ ap (merged (found_ident c.loop-connection.found)) c.in_ok-again.ensures.found)
    (ap (λ l. merged (found_ident c.loop-connection.found) (soonest l)) (sym step)
    ∙ ap (λ l. merged (found_ident c.loop-connection.found) (soonest (repeated_pins (names_of c.loop-connection.seen) l))) (sym here) ∙ c.loop-connection.invariant)
