use Rattle.std.proofs.Common.{◌≡◌, ◌++◌, drop, map}
use Rattle.std.specs.Prelude.{None}
use Rattle.hold_netlist.specs.inner.NameTable.{names_of}
use Rattle.hold_vsyntax.specs.declared.tree.Ident.{Ident}
use Rattle.hold_vparse.specs.inner.Flat.{seen_mentions, net_wires}
use Rattle.hold_vparse.specs.Nets.{names, wire, first_uses}
use Rattle.hold_vparse.specs.inner.Uses.{used}
use Rattle.hold_vparse.proofs.wires.add_implicit_wires.Given as goal

abbrev pub invariant-loop-mention : goal.invariant-loop-mention
invariant-loop-mention l = net_wires l.list.items ++ map (λ (i : Ident). wire i.name None) (first_uses (names l.declared ++ names_of l.seen) (used (seen_mentions (drop l.mention-index l.mentions))))
    ≡ net_wires l.fn.list.items ++ map (λ (i : Ident). wire i.name None) (first_uses (names l.declared) (used (seen_mentions l.mentions)))
