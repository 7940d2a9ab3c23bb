use Rattle.std.proofs.Common.{◌≡◌, ◌++◌, drop, map}
use Rattle.hold_vparse.specs.inner.Flat.{seen_ports, seen_mentions}
use Rattle.hold_vparse.specs.Lines.{PortLine}
use Rattle.hold_vparse.specs.DoubleNames.{mention, DeclaresPort}
use Rattle.hold_vparse.proofs.mentions.add_declared_ports.Given as goal

abbrev pub invariant-loop-line : goal.invariant-loop-line
invariant-loop-line l = seen_mentions l.list.items ++ map (λ (p : PortLine). mention DeclaresPort p.name) (seen_ports (drop l.line-index l.lines))
    ≡ seen_mentions l.fn.list.items ++ map (λ (p : PortLine). mention DeclaresPort p.name) (seen_ports l.lines)
