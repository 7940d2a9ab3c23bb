-- insts_of m: the instances of the netlist that the module declares.
-- assigns_of m: its assignments, bit by bit.
-- design_with m assigns: that netlist, with these assignments in place of its own.
-- IsLimit d fault: the fault names the first limit that the design passes.
use Rattle.std.specs.Prelude.{◌≡◌, List, map, flat_map, Some}
use Rattle.std.specs.Option.{option_map}
use Rattle.hold_netlist.specs.Design.{Design, design}
use Rattle.hold_netlist.specs.Limits.{first_passed_limit}
use Rattle.hold_netlist.specs.declared.inst.Inst.{Inst}
use Rattle.hold_netlist.specs.declared.inst.Assign.{Assign}
use Rattle.hold_vsyntax.specs.declared.tree.Module.{Module}
use Rattle.hold_vparse.specs.declared.fault.VerilogFault.{VerilogFault}
use Rattle.hold_vparse.specs.declared.fault.VerilogFault.TheVariants.{Limit}
use Rattle.hold_vparse.specs.Lines.{ports_of, assignments, instances}
use Rattle.hold_vparse.specs.Nets.{nets}
use Rattle.hold_vparse.specs.Declares.{port, inst, assigned}

abbrev pub insts_of : Module → List Inst
insts_of m = map (inst (nets m)) (instances m.items)

abbrev pub assigns_of : Module → List Assign
assigns_of m = flat_map (assigned (nets m)) (assignments m.items)

abbrev pub design_with : Module → List Assign → Design
design_with m assigns = design m.name.name (map port (ports_of m)) (nets m) (insts_of m) assigns

abbrev pub IsLimit : Design → VerilogFault → Type 0
IsLimit d fault = option_map Limit (first_passed_limit d) ≡ Some fault
