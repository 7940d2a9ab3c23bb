use Rattle.std.proofs.Common.{◌≡◌, drop, map, not}
use Rattle.std.specs.List.{filter}
use Rattle.hold_netlist.specs.Names.{is_among}
use Rattle.hold_vsyntax.specs.declared.tree.Ident.{Ident}
use Rattle.hold_vparse.specs.inner.Flat.{seen_ports}
use Rattle.hold_vparse.specs.inner.Found.{merged, found_ident}
use Rattle.hold_vparse.specs.Lines.{PortLine}
use Rattle.hold_vparse.specs.Nets.{names}
use Rattle.hold_vparse.specs.Soonest.{soonest}
use Rattle.hold_vparse.proofs.port_faults.unlisted_ident.Given as goal

abbrev pub invariant-loop-line : goal.invariant-loop-line
invariant-loop-line l = merged (found_ident l.found) (soonest (filter (λ (i : Ident). not (is_among i.name (names l.listed))) (map (λ (p : PortLine). p.name) (seen_ports (drop l.line-index l.lines)))))
    ≡ soonest (filter (λ (i : Ident). not (is_among i.name (names l.listed))) (map (λ (p : PortLine). p.name) (seen_ports l.lines)))
