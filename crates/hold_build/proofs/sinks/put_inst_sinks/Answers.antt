use Rattle.std.proofs.Common.{◌≡◌}
use Rattle.hold_base.specs.Limits.{pins_limit}
use Rattle.hold_build.specs.inner.Sinks.{pin_sinks}
use Rattle.hold_build.proofs.InstLemmas.{few-next, over_insts-next}
use Rattle.hold_build.proofs.sinks.put_inst_sinks.Goals as goal

pub loop-place-preserved : goal.loop-place-preserved
loop-place-preserved c =
    let same : c.insts-inst-items.result.now ≡ c.args.bound.now.netlist.insts = cc in
    record {
      rest = over_insts-next c.args.bound.now.netlist.insts c.insts-inst-items.result.now same c.loop-place.place c.inst-item.result c.loop-place-test.true c.inst-item.is
          c.as_slice-pins.result.now c.as_slice-pins.ensures pin_sinks c.args.bound.now.types c.loop-place.first c.cell-cell.result.now c.loop-place.out.items
          c.put_pin_sinks.new.out.items _ c.cell-cell.ensures c.in_ok-put_pin_sinks.ensures c.loop-place.invariant.rest;
      few = few-next c.args.bound.now.netlist.insts c.insts-inst-items.result.now same c.loop-place.place c.inst-item.result c.loop-place-test.true c.inst-item.is
          c.as_slice-pins.result.now c.as_slice-pins.ensures c.loop-place.first pins_limit c.loop-place.invariant.few;
    }
