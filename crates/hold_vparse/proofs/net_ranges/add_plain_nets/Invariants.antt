use Rattle.std.proofs.Common.{◌≡◌, drop, map}
use Rattle.hold_vsyntax.specs.declared.tree.Ident.{Ident}
use Rattle.hold_vparse.specs.Lines.{as_declared, line_of}
use Rattle.hold_vparse.specs.inner.Ranges.{port_ranges, with_nets}
use Rattle.hold_vparse.proofs.net_ranges.add_plain_nets.Given as goal

abbrev pub invariant-loop-name : goal.invariant-loop-name
invariant-loop-name l = with_nets l.ranges (port_ranges (map (λ (i : Ident). as_declared i (line_of i.name l.lines)) (drop l.name-index l.names)))
    ≡ with_nets l.fn.ranges (port_ranges (map (λ (i : Ident). as_declared i (line_of i.name l.lines)) l.names))
