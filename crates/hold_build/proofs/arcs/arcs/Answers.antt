use Rattle.std.proofs.Common.{◌<◌, ◌+◌, ◌++◌, length, arith, refl, subst, sym, ◌∙◌, ap}
use Rattle.hold_base.specs.Limits.{arcs_limit}
use Rattle.hold_netlist.specs.Bits.{bits_of}
use Rattle.hold_netlist.specs.WellFormed.{IsWellFormed}
use Rattle.hold_build.specs.inner.CellArcs.{cell_arcs, over_count}
use Rattle.hold_build.specs.inner.Insts.{over_insts}
use Rattle.hold_build.specs.inner.WireArcs.{AreOnNets, HasDifferentPins}
use Rattle.hold_build.proofs.ArcLemmas.{arcs-each, arcs-few, arcs-many}
use Rattle.hold_build.proofs.SinkLemmas.{sinks-differ, sinks-on_nets}
use Rattle.hold_build.proofs.arcs.arcs.Goals as goal

pub wire_arcs-requires-clause-nets : goal.wire_arcs-requires-clause-nets
wire_arcs-requires-clause-nets c = subst (AreOnNets (bits_of c.args.bound.now.netlist.wires)) (sym c.deref.ensures.value)
    (sinks-on_nets c.args.bound.now c.in_ok-sinks.sinks.items c.in_ok-sinks.ensures (subst IsWellFormed c.netlist.ensures c.know_valid.ensures.well_formed))

pub wire_arcs-requires-clause-pins : goal.wire_arcs-requires-clause-pins
wire_arcs-requires-clause-pins c = subst HasDifferentPins (sym c.deref.ensures.value) (sinks-differ c.args.bound.now c.in_ok-sinks.sinks.items c.in_ok-sinks.ensures)

pub returns-in_default-clause-fault : goal.returns-in_default-clause-fault
returns-in_default-clause-fault c =
    let many = c.in_default.ensures.many refl in
    let past : arcs_limit < length c.in_ok-arcs.arcs.items + over_count c.args.bound.now.types c.args.bound.now.netlist.insts = omega (arith, many, c.len.ensures) in
    (refl, arcs-many c.args.bound.now c.in_ok-sinks.sinks.items c.deref.result.now c.in_ok-arcs.arcs.items c.in_ok-sinks.ensures c.deref.ensures.value c.in_ok-arcs.ensures past)

pub returns-clause-each : goal.returns-clause-each
returns-clause-each c = arcs-each c.args.bound.now c.in_ok-sinks.sinks.items c.deref.result.now c.in_ok-arcs.arcs.items c.in_ok-sinks.ensures c.deref.ensures.value c.in_ok-arcs.ensures
    c.put_inst_arcs.new.arcs.items (c.in_ok-put_inst_arcs.ensures ∙ ap (λ l. l ++ over_insts cell_arcs c.args.bound.now.types 0 c.args.bound.now.netlist.insts) c.in_ok-reserve_exact.ensures.items)

pub returns-clause-few : goal.returns-clause-few
returns-clause-few c = arcs-few c.args.bound.now c.in_ok-sinks.sinks.items c.deref.result.now c.in_ok-arcs.arcs.items c.in_ok-sinks.ensures c.deref.ensures.value c.in_ok-arcs.ensures
    c.put_inst_arcs.new.arcs.items (c.in_ok-put_inst_arcs.ensures ∙ ap (λ l. l ++ over_insts cell_arcs c.args.bound.now.types 0 c.args.bound.now.netlist.insts) c.in_ok-reserve_exact.ensures.items)
    (omega (arith, c.in-Some.ensures.few, c.len.ensures))
