use Rattle.std.proofs.Common.{ap, sym, ◌∙◌}
use Rattle.std.specs.Prelude.{flat_map}
use Rattle.hold_base.proofs.Lists.{drop-here}
use Rattle.hold_vparse.specs.inner.Flat.{seen_wire, seen_wires}
use Rattle.hold_vparse.specs.inner.Found.{merged, found_ident}
use Rattle.hold_vparse.specs.Lines.{WireLine, line_of}
use Rattle.hold_vparse.specs.PortFaults.{unlike_line}
use Rattle.hold_vparse.specs.Soonest.{soonest}
use Rattle.hold_vparse.proofs.NetRangeLemmas.{wire_range}
use Rattle.hold_vparse.proofs.SoonestLemmas.{soonest-step}
use Rattle.hold_vparse.proofs.port_faults.unlike_ident.Goals as goal

pub unlike_wire-requires-clause-wires : goal.unlike_wire-requires-clause-wires
unlike_wire-requires-clause-wires c = wire_range c.args.ranges.now.wires c.args.wires.now c.loop-number.number c.index-wires-number.result c.requires.wires c.loop-number-test.true c.index-wires-number.is

pub loop-number-preserved : goal.loop-number-preserved
loop-number-preserved c =
    let unlike = λ (w : WireLine). unlike_line w (line_of w.name.name c.args.lines.now) in
    let here = drop-here c.args.wires.now c.loop-number.number c.index-wires-number.result c.loop-number-test.true c.index-wires-number.is in
    soonest-step (found_ident c.loop-number.found) (found_ident c.soonest_of-found.result) _ (unlike (seen_wire c.index-wires-number.result)) _
    (c.soonest_of-found.ensures ∙ ap (merged (found_ident c.loop-number.found)) c.unlike_wire.ensures)
    (ap (λ l. merged (found_ident c.loop-number.found) (soonest (flat_map unlike (seen_wires l)))) (sym here) ∙ c.loop-number.invariant)
