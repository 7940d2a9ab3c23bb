use Rattle.std.proofs.Common.{List, ◌∙◌, length, sym, subst, ◌<◌, get_or}
use Rattle.hold_roles.specs.declared.role.CellType.{CellType}
use Rattle.hold_roles.proofs.CellLemmas.{cell-within, cell-type}
use Rattle.hold_roles.proofs.bound.Bound.cell.Goals as goal

pub bounds-types-cells : goal.bounds-types-cells
bounds-types-cells c =
    subst (λ (ts : List CellType). get_or c.as_slice-cells.result.now c.args.inst.0 0 < length ts) (sym c.types.ensures)
    (cell-within c.args.self.now c.self.inside.library c.self.inside.netlist c.self.view_is c.self.invariant.0 c.args.inst.0 c.requires c.as_slice-cells.result.now
    (c.as_slice-cells.ensures.value ∙ c.self.invariant.1))

pub returns : goal.returns
returns c = cell-type c.args.self.now c.self.inside.library c.self.inside.netlist c.self.view_is c.self.invariant.0 c.args.inst.0 c.requires c.as_slice-cells.result.now
    c.types.result.now c.index-types-cells.result (c.as_slice-cells.ensures.value ∙ c.self.invariant.1) c.types.ensures c.index-types-cells.is
