use Rattle.std.proofs.Common.{refl}
use Rattle.hold_values.proofs.ConnectionLemmas.{no-connection, place-below, pin-found}
use Rattle.hold_values.proofs.pin.connection.Goals as goal

pub returns-in_default-clause-none : goal.returns-in_default-clause-none
returns-in_default-clause-none c none = no-connection c.args.netlist.now.insts c.args.pin (c.in_default.ensures.none.0 refl)

pub bounds-pins-place : goal.bounds-pins-place
bounds-pins-place c = place-below c.args.netlist.now.insts c.args.pin c.in-Some.inst.0 c.in-Some.place c.in-Some.ensures.found c.insts.result.now c.insts.ensures c.index-insts-inst.result c.as_slice-pins.result.now c.as_slice-pins.ensures

pub returns-clause-some : goal.returns-clause-some
returns-clause-some c =
    pin-found c.args.netlist.now.insts c.args.pin c.in-Some.inst.0 c.in-Some.place c.in-Some.ensures.found c.insts.result.now c.insts.ensures c.index-insts-inst.result c.as_slice-pins.result.now c.as_slice-pins.ensures
    c.index-pins-place.result c.index-pins-place.is
