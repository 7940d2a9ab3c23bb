-- A netlist's canonical text is the text of its tree.
use Rattle.hold_netlist.specs.Design.{Design}
use Rattle.hold_netlist.specs.Valid.{IsValid}
use Rattle.hold_netlist.specs.CanonicalText.{canonical_text}
use Rattle.hold_vlex.specs.Lexed.{lexed}
use Rattle.hold_vsyntax.specs.SyntaxTree.{IsTree}
use Rattle.hold_vround.proofs.CanonicalTree.{tree_of}
use Rattle.hold_vround.proofs.SpelledText.{canonical-tokens}
use Rattle.hold_vround.proofs.ModulePieces.{module_pieces}

pub canonical-IsTree : (d : Design) → IsValid d → IsTree (canonical_text d) (tree_of d)
canonical-IsTree d h =
    let read = canonical-tokens d h.well_formed in
    record {
      tokens = read.1;
      pieces = module_pieces (tree_of d) (lexed (canonical_text d)).tokens read.0;
    }
