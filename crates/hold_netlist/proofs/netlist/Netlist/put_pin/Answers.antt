use Rattle.std.proofs.Common.{◌≡◌, ◌++◌, ℕ, List, OnOk, get_or, refl, ap, sym, ◌∙◌, subst}
use Rattle.hold_netlist.specs.declared.inst.Inst.{Inst}
use Rattle.hold_netlist.proofs.PinTextLemmas.{pin_text-connection, pin_text-port}
use Rattle.hold_netlist.proofs.netlist.Netlist.put_pin.Goals as goal

pub returns-in-Some : goal.returns-in-Some
returns-in-Some c =
    let here = c.index-insts-inst.is ∙ ap (λ (is : List Inst). get_or is c.in-Some.inst.0 c.index-insts-inst.result) c.insts.ensures in
    let text = pin_text-connection c.args.self.now c.args.pin.0 c.in-Some.inst.0 c.in-Some.place c.index-insts-inst.result c.in-Some.ensures.found here in
    record { ok = subst (λ (t : List ℕ). OnOk c.put_connection.result (c.put_connection.new.out.items ≡ c.args.out.now.items ++ t)) (sym text) c.put_connection.ensures }

pub returns-in-None : goal.returns-in-None
returns-in-None c =
    let text = pin_text-port c.args.self.now c.args.pin.0 c.connections.result c.connections.ensures (rw c.connections.ensures (c.in-None.ensures.none.0 refl)) in
    record { ok = subst (λ (t : List ℕ). OnOk c.put_port_bit.result (c.put_port_bit.new.out.items ≡ c.args.out.now.items ++ t)) (sym text) c.put_port_bit.ensures }
