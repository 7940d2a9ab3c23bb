use Rattle.std.proofs.Common.{◌≡◌, ◌++◌, drop}
use Rattle.std.specs.Prelude.{flat_map}
use Rattle.hold_netlist.specs.CanonicalText.{inst_line}
use Rattle.hold_vwrite.proofs.insts.put_inst_lines.Given as goal

abbrev pub invariant-loop-inst : goal.invariant-loop-inst
invariant-loop-inst l = l.out.items ++ flat_map (inst_line l.netlist.wires) (drop l.inst-index l.insts) ≡ l.fn.out.items ++ flat_map (inst_line l.netlist.wires) l.insts
