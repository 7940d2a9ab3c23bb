use Rattle.std.proofs.Common.{◌≡◌, ◌++◌, drop, map, not}
use Rattle.std.specs.List.{filter}
use Rattle.hold_netlist.specs.Names.{is_among}
use Rattle.hold_vparse.specs.inner.Flat.{seen_wires, net_wires}
use Rattle.hold_vparse.specs.Lines.{WireLine}
use Rattle.hold_vparse.specs.Nets.{names, wire}
use Rattle.hold_vparse.proofs.wires.add_other_wires.Given as goal

abbrev pub invariant-loop-line : goal.invariant-loop-line
invariant-loop-line l = net_wires l.list.items ++ map (λ (p : WireLine). wire p.name.name p.range) (filter (λ (p : WireLine). not (is_among p.name.name (names l.ports))) (seen_wires (drop l.line-index l.lines)))
    ≡ net_wires l.fn.list.items ++ map (λ (p : WireLine). wire p.name.name p.range) (filter (λ (p : WireLine). not (is_among p.name.name (names l.ports))) (seen_wires l.lines))
