use Rattle.std.proofs.Common.{◌≡◌, ◌++◌, drop, map}
use Rattle.hold_vsyntax.specs.declared.tree.Ident.{Ident}
use Rattle.hold_vparse.specs.inner.Flat.{seen_ports}
use Rattle.hold_vparse.specs.Lines.{as_declared, line_of}
use Rattle.hold_vparse.proofs.ports.plain_ports.Given as goal

abbrev pub invariant-loop-name : goal.invariant-loop-name
invariant-loop-name l = seen_ports l.list.items ++ map (λ (i : Ident). as_declared i (line_of i.name l.lines)) (drop l.name-index l.names) ≡ map (λ (i : Ident). as_declared i (line_of i.name l.lines)) l.names
