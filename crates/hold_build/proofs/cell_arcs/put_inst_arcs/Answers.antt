use Rattle.std.proofs.Common.{◌≡◌}
use Rattle.hold_base.specs.Limits.{pins_limit}
use Rattle.hold_build.specs.inner.CellArcs.{cell_arcs}
use Rattle.hold_build.proofs.InstLemmas.{few-next, over_insts-next}
use Rattle.hold_build.proofs.cell_arcs.put_inst_arcs.Goals as goal

pub loop-place-preserved : goal.loop-place-preserved
loop-place-preserved c =
    let same : c.insts-inst-items.result.now ≡ c.args.bound.now.netlist.insts = cc in
    record {
      rest = over_insts-next c.args.bound.now.netlist.insts c.insts-inst-items.result.now same c.loop-place.place c.inst-item.result c.loop-place-test.true c.inst-item.is
          c.as_slice-pins.result.now c.as_slice-pins.ensures cell_arcs c.args.bound.now.types c.loop-place.first c.cell-cell.result.now c.loop-place.arcs.items
          c.put_cell_arcs.new.arcs.items _ c.cell-cell.ensures c.in_ok-put_cell_arcs.ensures c.loop-place.invariant.rest;
      few = few-next c.args.bound.now.netlist.insts c.insts-inst-items.result.now same c.loop-place.place c.inst-item.result c.loop-place-test.true c.inst-item.is
          c.as_slice-pins.result.now c.as_slice-pins.ensures c.loop-place.first pins_limit c.loop-place.invariant.few;
    }
