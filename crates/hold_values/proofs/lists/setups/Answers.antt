use Rattle.std.proofs.Common.{◌≡◌, ℕ, ◌<◌, List, length, get_or, refl, ap, sym, ◌∙◌, subst}
use Rattle.std.specs.Prelude.{ℤ, Option}
use Rattle.hold_base.specs.declared.number.PinNo.{PinNo}
use Rattle.hold_graph.specs.declared.graph.Parts.{Parts}
use Rattle.hold_sdf.specs.declared.entry.Entry.{Entry}
use Rattle.hold_told.specs.Entries.{Says, IsOfCheck, setup_of}
use Rattle.hold_told.specs.Values.{GreatestIfAny}
use Rattle.hold_values.specs.Given.{IfAny, IsGivenSetup}
use Rattle.hold_values.proofs.ListLemmas.{item-here, values-all, values-more}
use Rattle.hold_values.proofs.lists.setups.Goals as goal

pub loop-pin-preserved : goal.loop-pin-preserved
loop-pin-preserved c entries are =
    let b = c.args.bound.now in
    let pins = c.as_slice-pins.result.now in
    let own : pins ≡ c.args.graph.now.captures = c.as_slice-pins.ensures ∙ ap (λ (p : Parts). p.captures) c.parts.ensures.same in
    let pin : PinNo = get_or pins c.loop-pin.pin-index (record { 0 = 0 }) in
    let listed : get_or pins c.loop-pin.pin-index (record { 0 = 0 }) ≡ pin = refl in
    let in_list : c.loop-pin.pin-index < length c.args.graph.now.captures = subst (λ (l : List PinNo). c.loop-pin.pin-index < length l) own c.loop-pin-test.true in
    let below : pin.0 < c.args.graph.now.pins =
    subst (λ (l : List PinNo). (get_or l c.loop-pin.pin-index (record { 0 = 0 })).0 < c.args.graph.now.pins) (sym own) (c.parts.ensures.numbers.captures c.loop-pin.pin-index (record { 0 = 0 }) in_list) in
    let there : pin.0 < length c.args.told.now.setups.items = subst (λ (n : ℕ). pin.0 < n) (sym c.requires.room.setups) below in
    let told = item-here (GreatestIfAny (Says (λ (e : Entry). IsOfCheck b e pin) setup_of entries)) c.args.told.now.setups.items pin.0 c.index-told.result.now _ there c.index-told.ensures (are.setups pin below) in
    rw (c.in_ok-push.ensures.items)
    (values-more (λ (p : PinNo) (value : Option ℤ). IfAny (IsGivenSetup b c.args.job.now c.args.corner.0 entries p) value) pins c.loop-pin.pin-index (record { 0 = 0 }) c.loop-pin.setups.items c.in_ok-given_setup.field-0
    c.loop-pin-test.true (c.loop-pin.invariant entries are) (c.in_ok-given_setup.ensures entries told))

pub returns : goal.returns
returns c entries are =
    values-all (λ (p : PinNo) (value : Option ℤ). IfAny (IsGivenSetup c.args.bound.now c.args.job.now c.args.corner.0 entries p) value) c.as_slice-pins.result.now c.args.graph.now.captures c.loop-pin.pin-index c.loop-pin.setups.items
    c.loop-pin-test.false (c.as_slice-pins.ensures ∙ ap (λ (p : Parts). p.captures) c.parts.ensures.same) (c.loop-pin.invariant entries are)
