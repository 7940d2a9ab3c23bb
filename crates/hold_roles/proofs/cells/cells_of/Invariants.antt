use Rattle.std.proofs.Common.{◌≡◌, ◌++◌, drop}
use Rattle.hold_roles.specs.Faults.{first_unknown}
use Rattle.hold_roles.specs.inner.Cells.{cell_places}
use Rattle.hold_roles.proofs.cells.cells_of.Given as goal

-- what is left makes the places of all, and has the first unknown type of all
abbrev pub invariant-loop-inst : goal.invariant-loop-inst
invariant-loop-inst l = record {
  cells : l.cells.items ++ cell_places l.library (drop l.inst-index l.insts) ≡ cell_places l.library l.insts;
  unknown : first_unknown l.library (drop l.inst-index l.insts) ≡ first_unknown l.library l.insts;
}
