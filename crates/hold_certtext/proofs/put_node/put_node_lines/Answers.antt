use Rattle.std.proofs.Common.{arith, subst}
use Rattle.std.proofs.lemmas.Grind.{common_steps}
use Rattle.std.proofs.lemmas.List.Elements.{All-more}
use Rattle.hold_certtext.specs.CertificateText.{IsNodeInRange}
use Rattle.hold_certtext.proofs.PutLemmas.{All-taken}
use Rattle.hold_certtext.proofs.put_node.put_node_lines.Goals as goal

pub loop-node-preserved : goal.loop-node-preserved
loop-node-preserved c = record {
  text = grind (arith, common_steps);
  range = All-more IsNodeInRange c.args.nodes.now c.loop-node.node-index c.node-item.result (omega arith) c.loop-node.invariant.range (subst IsNodeInRange c.node-item.is c.in_ok-put_node_line.ensures.range);
}

pub returns-clause-range : goal.returns-clause-range
returns-clause-range c = All-taken IsNodeInRange c.args.nodes.now c.loop-node.node-index (omega arith) c.loop-node.invariant.range
