use Rattle.std.proofs.Common.{sym, ◌∙◌, arith}
use Rattle.std.proofs.lemmas.Option.{none-some}
use Rattle.hold_proof.proofs.ForestLemmas.{stuck-none}
use Rattle.hold_proof.proofs.shape.is_one_tree.Goals as goal

pub returns-in_default : goal.returns-in_default
returns-in_default c =
    let none = stuck-none c.args.nodes.now c.loop-at.at c.loop-at.trees c.index-nodes-at.result (omega arith) (omega (arith, c.loop-at.invariant.1)) c.index-nodes-at.is c.loop-at.invariant.0 (sym c.counted.ensures ∙ c.in_default.is) in
    (λ h. absurd cc, λ h. absurd (none-some _ (sym none ∙ h)))
