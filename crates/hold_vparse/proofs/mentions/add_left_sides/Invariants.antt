use Rattle.std.proofs.Common.{◌≡◌, ◌++◌, ◌∷◌, drop, map}
use Rattle.hold_vsyntax.specs.declared.tree.Assignment.{Assignment}
use Rattle.hold_vparse.specs.inner.Flat.{seen_mentions}
use Rattle.hold_vparse.specs.DoubleNames.{mention, UsesNet}
use Rattle.hold_vparse.proofs.mentions.add_left_sides.Given as goal

abbrev pub invariant-loop-assignment : goal.invariant-loop-assignment
invariant-loop-assignment l = seen_mentions l.list.items ++ map (λ (a : Assignment). mention UsesNet a.left.net) (drop l.assignment-index l.rest) ≡ seen_mentions l.fn.list.items ++ map (λ (a : Assignment). mention UsesNet a.left.net) (l.fn.first ∷ l.rest)
