-- Design: what a netlist is made of: the module's name, and its ports, wires, instances and assignments of
--   single bits, each in order. In a well-formed one the ports are the first wires.
-- design: the design of these parts.
use Rattle.std.specs.Prelude.{ℕ, List}
use Rattle.hold_netlist.specs.declared.wire.Port.{Port}
use Rattle.hold_netlist.specs.declared.wire.Wire.{Wire}
use Rattle.hold_netlist.specs.declared.inst.Inst.{Inst}
use Rattle.hold_netlist.specs.declared.inst.Assign.{Assign}

pub record Design : Type 0 where
  pub name : List ℕ
  pub ports : List Port
  pub wires : List Wire
  pub insts : List Inst
  pub assigns : List Assign

abbrev pub design : List ℕ → List Port → List Wire → List Inst → List Assign → Design
design name ports wires insts assigns = record { name = name; ports = ports; wires = wires; insts = insts; assigns = assigns }
