use Rattle.std.proofs.Common.{sym, ◌∙◌, ap}
use Rattle.hold_proof.proofs.ForestLemmas.{one_tree, no_tree}
use Rattle.hold_proof.specs.inner.Forest.{tree_count}
use Rattle.hold_proof.proofs.shape.Shape.make.Goals as goal

pub invariant_of-result : goal.invariant_of-result
invariant_of-result c = one_tree c.args.nodes.items (ap tree_count (sym c.as_slice.ensures.value) ∙ c.is_one_tree.ensures.0 c.if-is_one_tree.true)

pub returns-then-is_one_tree-clause-made : goal.returns-then-is_one_tree-clause-made
returns-then-is_one_tree-clause-made c = one_tree c.args.nodes.items (ap tree_count (sym c.as_slice.ensures.value) ∙ c.is_one_tree.ensures.0 c.if-is_one_tree.true)

pub returns-else-is_one_tree-clause-none : goal.returns-else-is_one_tree-clause-none
returns-else-is_one_tree-clause-none c = no_tree c.args.nodes.items (λ h. let is = c.is_one_tree.ensures.1 (ap tree_count c.as_slice.ensures.value ∙ h) in cc)
