-- IsDeclared m d: no name of the module is at fault, no limit is passed, and it declares the netlist d.
-- IsFirstNameFault m fault: the fault is the first that the module's names and limits are refused for.
use Rattle.std.specs.Prelude.{◌≡◌, Some, None}
use Rattle.hold_netlist.specs.Design.{Design}
use Rattle.hold_vsyntax.specs.declared.tree.Module.{Module}
use Rattle.hold_vparse.specs.declared.fault.VerilogFault.{VerilogFault}
use Rattle.hold_vparse.specs.NameFaults.{first_name_fault}
use Rattle.hold_vparse.specs.Declares.{design_of}

pub record IsDeclared (m : Module) (d : Design) : Type 0 where
  pub names : first_name_fault m ≡ None
  pub declares : d ≡ design_of m

abbrev pub IsFirstNameFault : Module → VerilogFault → Type 0
IsFirstNameFault m fault = first_name_fault m ≡ Some fault
