-- A text reads as one netlist or is refused for one fault, and not both.
use Rattle.std.proofs.Common.{◌≡◌, ℕ, List, sym, ap, ◌∙◌, inl, inr}
use Rattle.std.specs.Prelude.{Option, Some, None, Result, Ok, Err, IfOk}
use Rattle.hold_base.specs.Answers.{Answers, IfFault}
use Rattle.hold_base.specs.declared.stop.Stop.{Stop}
use Rattle.hold_base.specs.declared.stop.Stop.TheVariants.{Memory, Fault}
use Rattle.hold_netlist.specs.Design.{Design}
use Rattle.hold_vsyntax.proofs.OneAnswer.{one_tree, tree_or_fault, one_fault}
use Rattle.hold_vparse.specs.declared.fault.VerilogFault.{VerilogFault}
use Rattle.hold_vparse.specs.NameFaults.{first_name_fault}
use Rattle.hold_vparse.specs.Declares.{design_of}
use Rattle.hold_vparse.specs.Reads.{Reads, IsFirstFault, verilog_fault, HasOneReading}

pub one_netlist : (text : List ℕ) (d e : Design) → Reads text d → Reads text e → d ≡ e
one_netlist text d e a b = a.declares ∙ ap design_of (one_tree text a.tree b.tree a.is_tree b.is_tree) ∙ sym b.declares

found_or_not : (o : Option VerilogFault) (f : VerilogFault) → o ≡ None → o ≡ Some f → ⊥
found_or_not o f a b = let e : None ≡ Some f = sym a ∙ b in never e
  where
    never : None ≡ Some f → ⊥
    never h = cc

pub reads_or_fault : (text : List ℕ) (d : Design) (f : VerilogFault) → Reads text d → IsFirstFault text f → ⊥
reads_or_fault text d f a (inl s) = tree_or_fault text a.tree s.syntax_fault a.is_tree s.is_fault
reads_or_fault text d f a (inr n) =
    found_or_not (first_name_fault a.tree) f a.names (ap first_name_fault (one_tree text a.tree n.tree a.is_tree n.is_tree) ∙ n.names)

pub one_first_fault : (text : List ℕ) (f g : VerilogFault) → IsFirstFault text f → IsFirstFault text g → f ≡ g
one_first_fault text f g (inl a) (inl b) = a.named ∙ ap verilog_fault (one_fault text a.syntax_fault b.syntax_fault a.is_fault b.is_fault) ∙ sym b.named
one_first_fault text f g (inl a) (inr b) = absurd (tree_or_fault text b.tree a.syntax_fault b.is_tree a.is_fault)
one_first_fault text f g (inr a) (inl b) = absurd (tree_or_fault text a.tree b.syntax_fault a.is_tree b.is_fault)
one_first_fault text f g (inr a) (inr b) =
    let same : Some f ≡ Some g = sym a.names ∙ ap first_name_fault (one_tree text a.tree b.tree a.is_tree b.is_tree) ∙ b.names in
    let fault : f ≡ g = cc in
    fault

pub one_reading : (text : List ℕ) → HasOneReading text
one_reading text = record { netlists = one_netlist text; faults = one_first_fault text; apart = reads_or_fault text }

-- so the answer is the one that there is
pub only_netlist : (text : List ℕ) (r : Result Design (Stop VerilogFault)) (d : Design) → IfOk r (Reads text) → IfFault r (IsFirstFault text) → Reads text d → Answers r (Ok d)
only_netlist text (Ok n) d read refused is = ap Ok (one_netlist text d n is read)
only_netlist text (Err Memory) d read refused is = tt
only_netlist text (Err (Fault f)) d read refused is = absurd (reads_or_fault text d f is refused)

pub only_first_fault : (text : List ℕ) (r : Result Design (Stop VerilogFault)) (f : VerilogFault) → IfOk r (Reads text) → IfFault r (IsFirstFault text) → IsFirstFault text f → Answers r (Err f)
only_first_fault text (Ok n) f read refused is = absurd (reads_or_fault text n f read is)
only_first_fault text (Err Memory) f read refused is = tt
only_first_fault text (Err (Fault g)) f read refused is = ap Err (one_first_fault text f g is refused)
