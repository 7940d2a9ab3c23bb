use Rattle.std.proofs.Common.{◌<◌, List, length, get_or, refl, ap, sym, ◌∙◌, subst}
use Rattle.std.proofs.lemmas.Option.{get_or_from_slice_get}
use Rattle.hold_netlist.specs.declared.inst.Inst.{Inst}
use Rattle.hold_netlist.specs.Design.{Design}
use Rattle.hold_values.specs.Defaults.{IsArrival}
use Rattle.hold_values.specs.Given.{IfAny}
use Rattle.hold_values.proofs.GivenLemmas.{given-clock, of-within}
use Rattle.hold_values.proofs.clock.clock_at.Goals as goal

pub returns-in_default : goal.returns-in_default
returns-in_default c x h = c.in_default.ensures.none refl h.inst h.t h.pin h.pin_of

pub bounds-insts-inst : goal.bounds-insts-inst
bounds-insts-inst c =
    let own = c.insts.ensures ∙ ap (λ (d : Design). d.insts) c.netlist.ensures in
    subst (λ (l : List Inst). c.in-Some.inst.0 < length l) (sym own)
    (of-within c.args.bound.now c.args.pin c.in-Some.inst.0 c.in-Some.field-0-1.now c.in-Some.field-0-2.now c.in-Some.ensures.some)

pub returns : goal.returns
returns c =
    let own = c.insts.ensures ∙ ap (λ (d : Design). d.insts) c.netlist.ensures in
    let of = c.in-Some.ensures.some in
    given-clock c.args.bound.now c.args.job.now c.args.corner.0 c.args.pin c.in-Some.inst.0 c.in-Some.field-0-1.now c.in-Some.field-0-2.now of c.index-insts-inst.result.name
    (ap (λ (i : Inst). i.name) (c.index-insts-inst.is ∙ ap (λ (l : List Inst). get_or l c.in-Some.inst.0 c.index-insts-inst.result) own ∙ get_or_from_slice_get c.args.bound.now.netlist.insts c.in-Some.inst.0 of.i c.index-insts-inst.result of.is_inst))
    c.arrival.result (subst (λ (i : Inst). IfAny (IsArrival c.args.job.now c.args.corner.0 i.name) c.arrival.result) (sym c.index-insts-inst.is) c.arrival.ensures)
