use Rattle.std.proofs.Common.{◌≡◌, ◌++◌, drop, map}
use Rattle.hold_vparse.specs.inner.Flat.{targets, seen_ports}
use Rattle.hold_vparse.specs.Lines.{PortLine}
use Rattle.hold_vparse.proofs.idents.add_port_names.Given as goal

abbrev pub invariant-loop-line : goal.invariant-loop-line
invariant-loop-line l = targets l.list.items ++ map (λ (p : PortLine). p.name) (seen_ports (drop l.line-index l.lines))
    ≡ targets l.fn.list.items ++ map (λ (p : PortLine). p.name) (seen_ports l.lines)
