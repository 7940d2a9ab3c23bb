-- Reads text d: the text is a module with no fault in its names, ports, bits and limits, and d is the netlist that it
--   declares.
-- verilog_fault fault: a fault for which a text has no syntax tree, as the fault that a text is refused for.
-- IsTreeFault text fault: the text is no module, and this is why.
-- IsNameFault text fault: the text is a module, and the fault is the first in its names, ports, bits and limits.
-- IsFirstFault text fault: the one fault that the text is refused for.
-- HasOneReading text: the text reads as at most one netlist, has at most one first fault, and not both.
use Rattle.std.specs.Prelude.{◌≡◌, ◌⊎◌, ℕ, List, Some, None}
use Rattle.hold_netlist.specs.Design.{Design}
use Rattle.hold_vsyntax.specs.declared.fault.SyntaxFault.{SyntaxFault}
use Rattle.hold_vsyntax.specs.declared.fault.SyntaxFault.TheVariants.{Lex as NoTokens, Syntax as BadPiece, LeftOut as LeftOutPiece}
use Rattle.hold_vsyntax.specs.declared.tree.Module.{Module}
use Rattle.hold_vsyntax.specs.SyntaxTree.{IsTree, IsSyntaxFault}
use Rattle.hold_vparse.specs.declared.fault.VerilogFault.{VerilogFault}
use Rattle.hold_vparse.specs.declared.fault.VerilogFault.TheVariants.{Lex, Syntax, LeftOut}
use Rattle.hold_vparse.specs.NameFaults.{first_name_fault}
use Rattle.hold_vparse.specs.Declares.{design_of}

pub record Reads (text : List ℕ) (d : Design) : Type 0 where
  pub tree : Module
  pub is_tree : IsTree text tree
  pub names : first_name_fault tree ≡ None
  pub declares : d ≡ design_of tree

abbrev pub verilog_fault : SyntaxFault → VerilogFault
verilog_fault (NoTokens fault) = Lex fault
verilog_fault (BadPiece at) = Syntax at
verilog_fault (LeftOutPiece word at) = LeftOut word at

pub record IsTreeFault (text : List ℕ) (fault : VerilogFault) : Type 0 where
  pub syntax_fault : SyntaxFault
  pub is_fault : IsSyntaxFault text syntax_fault
  pub named : fault ≡ verilog_fault syntax_fault

pub record IsNameFault (text : List ℕ) (fault : VerilogFault) : Type 0 where
  pub tree : Module
  pub is_tree : IsTree text tree
  pub names : first_name_fault tree ≡ Some fault

abbrev pub IsFirstFault : List ℕ → VerilogFault → Type 0
IsFirstFault text fault = IsTreeFault text fault ⊎ IsNameFault text fault

pub record HasOneReading (text : List ℕ) : Type 0 where
  pub netlists : (a b : Design) → Reads text a → Reads text b → a ≡ b
  pub faults : (a b : VerilogFault) → IsFirstFault text a → IsFirstFault text b → a ≡ b
  pub apart : (netlist : Design) (fault : VerilogFault) → Reads text netlist → IsFirstFault text fault → ⊥
