use Rattle.std.proofs.Common.{◌≡◌, ◌++◌, drop, map}
use Rattle.hold_vparse.specs.inner.Flat.{targets, seen_wires}
use Rattle.hold_vparse.specs.Lines.{WireLine}
use Rattle.hold_vparse.proofs.idents.add_wire_names.Given as goal

abbrev pub invariant-loop-line : goal.invariant-loop-line
invariant-loop-line l = targets l.list.items ++ map (λ (p : WireLine). p.name) (seen_wires (drop l.line-index l.lines))
    ≡ targets l.fn.list.items ++ map (λ (p : WireLine). p.name) (seen_wires l.lines)
