-- Proves problem sites paths force tree: under what is in force, a leaf closes; a split has a place in the box, and each of its
--   trees proves under what is in force there. A tree over all counts proves under `at_root`.
use Rattle.std.specs.Prelude.{List}
use Rattle.hold_base.specs.declared.number.PinNo.{PinNo}
use Rattle.hold_graph.specs.declared.problem.Problem.{Problem}
use Rattle.hold_graph.specs.declared.problem.Listed.{Listed}
use Rattle.hold_proof.specs.Tree.{ProofTree, Ends, Splits}
use Rattle.hold_graph.specs.Boxes.{IsPlace}
use Rattle.hold_proof.specs.InForce.{InForce, in_lower, in_upper}
use Rattle.hold_proof.specs.Closing.{Closes}

abbrev pub Proves : Problem → List PinNo → List Listed → InForce → ProofTree → Type 0
Proves problem sites paths force (Ends leaf) = Closes problem sites paths force leaf
Proves problem sites paths force (Splits var at lower upper) =
    IsPlace var at force.within
    × Proves problem sites paths (in_lower var at force) lower
    × Proves problem sites paths (in_upper var at force) upper
