use Rattle.std.proofs.Common.{◌≡◌, drop}
use Rattle.std.specs.Prelude.{flat_map}
use Rattle.hold_vparse.specs.inner.Flat.{seen_wires}
use Rattle.hold_vparse.specs.inner.Found.{merged, found_ident}
use Rattle.hold_vparse.specs.Lines.{WireLine, line_of}
use Rattle.hold_vparse.specs.PortFaults.{unlike_line}
use Rattle.hold_vparse.specs.Soonest.{soonest}
use Rattle.hold_vparse.proofs.port_faults.unlike_ident.Given as goal

abbrev pub invariant-loop-number : goal.invariant-loop-number
invariant-loop-number l = merged (found_ident l.found) (soonest (flat_map (λ (w : WireLine). unlike_line w (line_of w.name.name l.lines)) (seen_wires (drop l.number l.wires))))
    ≡ soonest (flat_map (λ (w : WireLine). unlike_line w (line_of w.name.name l.lines)) (seen_wires l.wires))
