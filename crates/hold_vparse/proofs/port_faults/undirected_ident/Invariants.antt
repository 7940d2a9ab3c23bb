use Rattle.std.proofs.Common.{◌≡◌, drop, is_none}
use Rattle.std.specs.List.{filter}
use Rattle.hold_vsyntax.specs.declared.tree.Ident.{Ident}
use Rattle.hold_vparse.specs.inner.Found.{merged, found_ident}
use Rattle.hold_vparse.specs.Lines.{line_of}
use Rattle.hold_vparse.specs.Soonest.{soonest}
use Rattle.hold_vparse.proofs.port_faults.undirected_ident.Given as goal

abbrev pub invariant-loop-name : goal.invariant-loop-name
invariant-loop-name l = merged (found_ident l.found) (soonest (filter (λ (i : Ident). is_none (line_of i.name l.lines)) (drop l.name-index l.names))) ≡ soonest (filter (λ (i : Ident). is_none (line_of i.name l.lines)) l.names)
