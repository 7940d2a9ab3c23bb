use Rattle.std.proofs.Common.{◌≡◌, ◌++◌, drop, map}
use Rattle.hold_vsyntax.specs.declared.tree.Ident.{Ident}
use Rattle.hold_vparse.specs.Lines.{all}
use Rattle.hold_vparse.proofs.range_places.add_for_each.Given as goal

abbrev pub invariant-loop-name : goal.invariant-loop-name
invariant-loop-name l = l.list.items ++ map (λ (i : Ident). l.place) (drop l._name-index l._name-items) ≡ l.fn.list.items ++ map (λ (i : Ident). l.place) (all l.names)
