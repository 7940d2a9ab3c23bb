use Rattle.std.proofs.Common.{◌≡◌, ◌+◌, drop, arith}
use Rattle.hold_build.specs.inner.CellArcs.{over_count}
use Rattle.hold_build.proofs.InstLemmas.{over_count-next}
use Rattle.hold_build.proofs.cell_arcs.inst_count.Goals as goal

pub returns-then-room-count-clause-many : goal.returns-then-room-count-clause-many
returns-then-room-count-clause-many c =
    let same : c.insts-inst-items.result.now ≡ c.args.bound.now.netlist.insts = cc in
    let next : c.loop-place.count + c.cell_count-count.result + over_count c.args.bound.now.types (drop (c.loop-place.place + 1) c.args.bound.now.netlist.insts)
    ≡ over_count c.args.bound.now.types c.args.bound.now.netlist.insts =
    over_count-next c.args.bound.now.netlist.insts c.insts-inst-items.result.now same c.loop-place.place c.inst-item.result c.loop-place-test.true c.inst-item.is
    c.as_slice.result.now c.as_slice.ensures c.args.bound.now.types c.cell-cell.result.now c.loop-place.count c.cell_count-count.result _ c.cell-cell.ensures
    c.cell_count-count.ensures.is c.loop-place.invariant.rest in
    λ none. omega (arith, next)

pub loop-place-preserved : goal.loop-place-preserved
loop-place-preserved c =
    let same : c.insts-inst-items.result.now ≡ c.args.bound.now.netlist.insts = cc in
    record {
      rest = over_count-next c.args.bound.now.netlist.insts c.insts-inst-items.result.now same c.loop-place.place c.inst-item.result c.loop-place-test.true c.inst-item.is
          c.as_slice.result.now c.as_slice.ensures c.args.bound.now.types c.cell-cell.result.now c.loop-place.count c.cell_count-count.result _ c.cell-cell.ensures
          c.cell_count-count.ensures.is c.loop-place.invariant.rest;
      few = omega arith;
    }
