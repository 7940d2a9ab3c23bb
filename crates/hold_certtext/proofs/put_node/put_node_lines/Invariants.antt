use Rattle.std.proofs.Common.{◌≡◌, ◌++◌, drop, map, take, All}
use Rattle.hold_certtext.specs.CertificateText.{node_line}
use Rattle.hold_certtext.specs.Lines.{text_of}
use Rattle.hold_certtext.specs.CertificateText.{IsNodeInRange}
use Rattle.hold_certtext.proofs.put_node.put_node_lines.Given as goal

abbrev pub invariant-loop-node : goal.invariant-loop-node
invariant-loop-node l = record {
  text : l.out.items ++ text_of (map node_line (drop l.node-index l.nodes)) ≡ l.fn.out.items ++ text_of (map node_line l.nodes);
  range : All IsNodeInRange (take l.node-index l.nodes);
}
