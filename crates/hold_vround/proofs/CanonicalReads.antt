-- A netlist's canonical text reads as that netlist.
use Rattle.std.proofs.Common.{sym}
use Rattle.hold_netlist.specs.Design.{Design}
use Rattle.hold_netlist.specs.Valid.{IsValid}
use Rattle.hold_netlist.specs.CanonicalText.{canonical_text}
use Rattle.hold_vparse.specs.Reads.{Reads}
use Rattle.hold_vround.proofs.CanonicalTree.{tree_of}
use Rattle.hold_vround.proofs.CanonicalIsTree.{canonical-IsTree}
use Rattle.hold_vround.proofs.CanonicalDesign.{tree_declares, tree_has_no_fault}

pub canonical_reads : (d : Design) → IsValid d → Reads (canonical_text d) d
canonical_reads d valid = record {
  tree = tree_of d;
  is_tree = canonical-IsTree d valid;
  names = tree_has_no_fault d valid;
  declares = sym (tree_declares d valid);
}
