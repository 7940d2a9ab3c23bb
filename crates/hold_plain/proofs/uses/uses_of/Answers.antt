use Rattle.std.proofs.Common.{◌≡◌, List, [], ◌++◌, arith, ap, length, ◌∙◌, refl}
use Rattle.std.proofs.lemmas.List.Elements.{All-same}
use Rattle.hold_netlist.specs.declared.inst.Inst.{Inst}
use Rattle.hold_netlist.specs.declared.wire.Port.{Port}
use Rattle.hold_netlist.specs.Design.{Design}
use Rattle.hold_plain.specs.declared.pin_use.PinUse.{PinUse}
use Rattle.hold_plain.specs.declared.timing.Timing.{Timing}
use Rattle.hold_plain.specs.inner.Limits.{IsTimed}
use Rattle.hold_plain.specs.PinUses.{insts_uses, ports_uses, uses_of}
use Rattle.hold_plain.specs.inner.Served.{IsUseWithin}
use Rattle.hold_plain.proofs.UsePlaces.{ports_few, within_uses}
use Rattle.hold_plain.proofs.UseTimes.{timed_uses}
use Rattle.hold_plain.proofs.uses.uses_of.Goals as goal

pub put_ports-requires : goal.put_ports-requires
put_ports-requires c = omega (arith, ports_few c.args.netlist.now c.know_valid.ensures, ap length c.ports.ensures)

-- the instances and then the ports, put after nothing
put_all : (timing : Timing) (d : Design) (none most all : List PinUse) (insts : List Inst) (ports : List Port) → none ≡ [] → insts ≡ d.insts → ports ≡ d.ports →
    most ≡ none ++ insts_uses timing 0 insts → all ≡ most ++ ports_uses 0 ports → all ≡ uses_of timing d
put_all timing d none most all insts ports start is_insts is_ports first second = second ∙ rw (first, start, is_insts, is_ports) refl

pub returns-clause-timed : goal.returns-clause-timed
returns-clause-timed c =
    let items = put_all c.args.timing.now c.args.netlist.now c.new-uses.result.items c.put_insts.new.uses.items c.put_ports.new.uses.items c.insts.result.now c.ports.result.now
    c.new-uses.ensures.items c.insts.ensures c.ports.ensures c.in_ok-put_insts.ensures c.in_ok-put_ports.ensures in
    λ keeps. All-same IsTimed c.put_ports.new.uses.items (uses_of c.args.timing.now c.args.netlist.now) items (timed_uses c.args.timing.now c.args.netlist.now keeps)

pub returns-clause-within : goal.returns-clause-within
returns-clause-within c =
    let items = put_all c.args.timing.now c.args.netlist.now c.new-uses.result.items c.put_insts.new.uses.items c.put_ports.new.uses.items c.insts.result.now c.ports.result.now
    c.new-uses.ensures.items c.insts.ensures c.ports.ensures c.in_ok-put_insts.ensures c.in_ok-put_ports.ensures in
    λ scalar. All-same (IsUseWithin (length c.args.netlist.now.wires) (length c.args.netlist.now.insts)) c.put_ports.new.uses.items (uses_of c.args.timing.now c.args.netlist.now) items
    (within_uses c.args.timing.now c.args.netlist.now c.know_valid.ensures scalar)
