use Rattle.std.proofs.Common.{arith}
use Rattle.std.proofs.lemmas.Grind.{common_steps}
use Rattle.std.proofs.lemmas.List.Elements.{All-more}
use Rattle.hold_certtext.specs.CertificateText.{IsChainTermInRange}
use Rattle.hold_certtext.proofs.PutLemmas.{All-taken}
use Rattle.hold_certtext.proofs.put_node.put_chain_terms.Goals as goal

pub loop-term-preserved : goal.loop-term-preserved
loop-term-preserved c = record {
  text = grind (arith, common_steps);
  range = All-more IsChainTermInRange c.args.terms.now c.loop-term.term-index _ (omega arith) c.loop-term.invariant.range (c.in_ok-put_u32.ensures.range);
}

pub returns-clause-range : goal.returns-clause-range
returns-clause-range c = All-taken IsChainTermInRange c.args.terms.now c.loop-term.term-index (omega arith) c.loop-term.invariant.range
