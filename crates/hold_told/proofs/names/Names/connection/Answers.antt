use Rattle.std.proofs.Common.{◌≡◌, ℕ, ◌<◌, ◌+◌, List, length, get_or, arith, ap, refl, sym, ◌∙◌}
use Rattle.std.specs.Prelude.{Option, Some, None, slice_get}
use Rattle.std.proofs.lemmas.Option.{same_Some}
use Rattle.hold_netlist.specs.declared.inst.Inst.{Inst}
use Rattle.hold_netlist.specs.declared.inst.Pin.{Pin}
use Rattle.hold_netlist.specs.Names.{pin_names}
use Rattle.hold_netlist.specs.Pins.{connection_count, pin_count}
use Rattle.hold_netlist.proofs.NumberingLemmas.{IsNumbered-below, length-table}
use Rattle.hold_build.proofs.CountLemmas.{connections-few, inst-few}
use Rattle.hold_roles.specs.inner.NamePlaces.{first_at}
use Rattle.hold_told.proofs.PinNameLemmas.{connection-named, connection-numbered, has_named, no_connection}
use Rattle.hold_told.proofs.PlaceLemmas.{first-read, item-read}
use Rattle.hold_told.proofs.names.Names.connection.Goals as goal

-- the first place among the connections of the instance that was read is that among the named one's
placed : (pins own : List Pin) (insts : List Inst) (k : ℕ) (read : Inst) (name : List ℕ) (o : Option ℕ) → pins ≡ own → slice_get insts k ≡ Some read → own ≡ read.pins → o ≡ first_at 0 name (pin_names pins)
    → (i : Inst) → slice_get insts k ≡ Some i → o ≡ first_at 0 name (pin_names i.pins)
placed pins own insts k read name o same at is_own found i at_i =
    let one : read ≡ i = same_Some read i (sym at ∙ at_i) in
    found ∙ ap (λ (l : List Pin). first_at 0 name (pin_names l)) (same ∙ is_own ∙ ap (λ (x : Inst). x.pins) one)

pub bounds-insts-at : goal.bounds-insts-at
bounds-insts-at c = let within = c.requires.within in omega (arith, within, ap (λ (l : List Inst). length l) c.insts.ensures)

pub pin_place-requires : goal.pin_place-requires
pin_place-requires c =
    let within = c.requires.within in
    let lt : c.args.inst.0 < length c.insts.result.now = omega (arith, within, ap (λ (l : List Inst). length l) c.insts.ensures) in
    let at = item-read c.insts.result.now c.args.netlist.now.insts c.args.inst.0 c.index-insts-at.result c.insts.ensures lt in
    let few = inst-few c.args.netlist.now c.know_valid.ensures c.args.inst.0 _ at in
    omega (arith, few, ap (λ (l : List Pin). length l) c.as_slice.ensures)

pub index-requires : goal.index-requires
index-requires c =
    let within = c.requires.within in
    let long = length-table pin_count c.args.netlist.now.insts c.args.self.now.first_pins.items c.requires.names.first_pins in
    omega (arith, within, long, c.args.self.now.first_pins.ok.0)

pub overflow_add-result : goal.overflow_add-result
overflow_add-result c =
    let within = c.requires.within in
    let lt : c.args.inst.0 < length c.insts.result.now = omega (arith, within, ap (λ (l : List Inst). length l) c.insts.ensures) in
    let at = item-read c.insts.result.now c.args.netlist.now.insts c.args.inst.0 c.index-insts-at.result c.insts.ensures lt in
    let name = has_named c.args.netlist.now.insts c.args.inst.0 within in
    let first = first-read pin_count c.args.netlist.now.insts c.args.self.now.first_pins.items c.args.inst.0 c.index.result.now c.requires.names.first_pins (omega (arith, within)) c.index.ensures in
    let numbered = connection-numbered c.args.netlist.now c.know_valid.ensures.names c.args.inst.0 name.0 c.args.pin.now name.1 c.in-Some.place
    (placed c.as_slice.result.now (get_or c.insts.result.now c.args.inst.0 c.index-insts-at.result).pins c.args.netlist.now.insts c.args.inst.0 (get_or c.insts.result.now c.args.inst.0 c.index-insts-at.result) c.args.pin.now (Some c.in-Some.place) c.as_slice.ensures at refl c.in-Some.ensures)
    c.index.result.now first in
    let below : c.index.result.now + c.in-Some.place < connection_count c.args.netlist.now.insts = IsNumbered-below pin_count c.args.netlist.now.insts _ c.args.inst.0 c.in-Some.place numbered in
    let few = connections-few c.args.netlist.now c.know_valid.ensures in
    omega arith

pub returns-in-Some : goal.returns-in-Some
returns-in-Some c = λ name named p.
    let within = c.requires.within in
    let lt : c.args.inst.0 < length c.insts.result.now = omega (arith, within, ap (λ (l : List Inst). length l) c.insts.ensures) in
    let at = item-read c.insts.result.now c.args.netlist.now.insts c.args.inst.0 c.index-insts-at.result c.insts.ensures lt in
    let first = first-read pin_count c.args.netlist.now.insts c.args.self.now.first_pins.items c.args.inst.0 c.index.result.now c.requires.names.first_pins (omega (arith, within)) c.index.ensures in
    connection-named c.args.netlist.now c.know_valid.ensures.names c.args.inst.0 name c.args.pin.now named c.in-Some.place
    (placed c.as_slice.result.now (get_or c.insts.result.now c.args.inst.0 c.index-insts-at.result).pins c.args.netlist.now.insts c.args.inst.0 (get_or c.insts.result.now c.args.inst.0 c.index-insts-at.result) c.args.pin.now (Some c.in-Some.place) c.as_slice.ensures at refl c.in-Some.ensures)
    c.index.result.now first p

pub returns-in-None : goal.returns-in-None
returns-in-None c = λ name named p.
    let within = c.requires.within in
    let lt : c.args.inst.0 < length c.insts.result.now = omega (arith, within, ap (λ (l : List Inst). length l) c.insts.ensures) in
    let at = item-read c.insts.result.now c.args.netlist.now.insts c.args.inst.0 c.index-insts-at.result c.insts.ensures lt in
    no_connection c.args.netlist.now c.know_valid.ensures.names c.args.inst.0 name c.args.pin.now named
    (placed c.as_slice.result.now (get_or c.insts.result.now c.args.inst.0 c.index-insts-at.result).pins c.args.netlist.now.insts c.args.inst.0 (get_or c.insts.result.now c.args.inst.0 c.index-insts-at.result) c.args.pin.now None c.as_slice.ensures at refl c.in-None.ensures) p
