use Rattle.std.proofs.Common.{ap, sym, ◌∙◌}
use Rattle.std.specs.Prelude.{Some, None}
use Rattle.std.proofs.lemmas.Option.{same_Some}
use Rattle.hold_base.specs.declared.number.PinNo.{PinNo}
use Rattle.hold_told.proofs.PinNameLemmas.{here-pin, here-within, named-below, never, no_inst-no_pin, no_type-no_pin, type-pin}
use Rattle.hold_told.proofs.names.Names.pin.Goals as goal

pub returns-in_default-clause-found : goal.returns-in_default-clause-found
returns-in_default-clause-found c =
    no_inst-no_pin c.args.bound.now c.netlist-netlist.result.now c.netlist-netlist.ensures c.know_valid.ensures.names c.bytes.result.now c.args.inst.now c.args.pin.now c.bytes.ensures c.in_default.ensures

pub cell-requires : goal.cell-requires
cell-requires c =
    here-within c.args.bound.now c.netlist-netlist.result.now c.netlist-netlist.ensures c.know_valid.ensures.names c.bytes.result.now c.args.inst.now c.args.pin.now c.bytes.ensures c.in-Some.number c.in-Some.ensures

pub returns-then-not-has_pin-clause-found : goal.returns-then-not-has_pin-clause-found
returns-then-not-has_pin-clause-found c =
    no_type-no_pin c.args.bound.now c.netlist-netlist.result.now c.netlist-netlist.ensures c.know_valid.ensures.names c.bytes.result.now c.args.inst.now c.args.pin.now c.bytes.ensures c.in-Some.number c.in-Some.ensures
    c.cell.result.now c.cell.ensures (sym c.has_pin.ensures ∙ c.if-not-has_pin.true)

pub returns-in-Some-connection-clause-found : goal.returns-in-Some-connection-clause-found
returns-in-Some-connection-clause-found c =
    let has = type-pin c.args.bound.now c.netlist-netlist.result.now c.netlist-netlist.ensures c.know_valid.ensures.names c.bytes.result.now c.args.inst.now c.args.pin.now c.bytes.ensures c.in-Some.number c.in-Some.ensures
    c.cell.result.now c.cell.ensures (sym c.has_pin.ensures ∙ c.if-not-has_pin.false) in
    let each = here-pin c.args.bound.now c.netlist-netlist.result.now c.netlist-netlist.ensures c.know_valid.ensures.names c.bytes.result.now c.args.inst.now c.args.pin.now c.bytes.ensures c.in-Some.number c.in-Some.ensures
    c.bytes-2.result.now c.bytes-2.ensures (Some c.in-Some-connection.found) c.in-Some-connection.ensures in
    (has, λ q. (λ named. same_Some c.in-Some-connection.found q ((each q).0 named), λ e. (each q).1 (ap (λ (p : PinNo). Some p) e)))

pub returns-in-Some-connection-clause-within : goal.returns-in-Some-connection-clause-within
returns-in-Some-connection-clause-within c = λ p e.
    let each = here-pin c.args.bound.now c.netlist-netlist.result.now c.netlist-netlist.ensures c.know_valid.ensures.names c.bytes.result.now c.args.inst.now c.args.pin.now c.bytes.ensures c.in-Some.number c.in-Some.ensures
    c.bytes-2.result.now c.bytes-2.ensures (Some c.in-Some-connection.found) c.in-Some-connection.ensures in
    named-below c.args.bound.now.netlist c.args.inst.now c.args.pin.now p ((each p).1 (ap (λ (q : PinNo). Some q) e))

pub returns-in-None-clause-found : goal.returns-in-None-clause-found
returns-in-None-clause-found c =
    let has = type-pin c.args.bound.now c.netlist-netlist.result.now c.netlist-netlist.ensures c.know_valid.ensures.names c.bytes.result.now c.args.inst.now c.args.pin.now c.bytes.ensures c.in-Some.number c.in-Some.ensures
    c.cell.result.now c.cell.ensures (sym c.has_pin.ensures ∙ c.if-not-has_pin.false) in
    let each = here-pin c.args.bound.now c.netlist-netlist.result.now c.netlist-netlist.ensures c.know_valid.ensures.names c.bytes.result.now c.args.inst.now c.args.pin.now c.bytes.ensures c.in-Some.number c.in-Some.ensures
    c.bytes-2.result.now c.bytes-2.ensures None c.in-None.ensures in
    (has, λ q named. never ((each q).0 named))
