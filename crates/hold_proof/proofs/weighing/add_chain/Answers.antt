use Rattle.std.proofs.Common.{length, ap}
use Rattle.hold_proof.proofs.WeighLemmas.{chain-raised}
use Rattle.hold_proof.proofs.weighing.add_chain.Goals as goal

pub returns-clause-raised : goal.returns-clause-raised
returns-clause-raised c =
    chain-raised (length c.args.basis.now.problem.now.costs) (length c.as_slice-kinds.result.now) c.args.site.0 c.args.times _ _ (ap (λ l. length l) c.as_slice-kinds.ensures) c.requires.basis.valid.kinds c.add_chain_site.ensures
