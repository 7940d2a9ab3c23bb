use Rattle.std.proofs.Common.{◌≡◌, ℕ, ◌<◌, ◌+◌, List, length, get_or, arith, ap, sym, ◌∙◌}
use Rattle.std.specs.Prelude.{Some, slice_get}
use Rattle.std.proofs.lemmas.List.{get_or_default}
use Rattle.hold_netlist.specs.declared.inst.Inst.{Inst}
use Rattle.hold_netlist.specs.Names.{pin_names}
use Rattle.hold_netlist.specs.NameTable.{number_of}
use Rattle.hold_netlist.specs.Numbering.{first_of}
use Rattle.hold_netlist.specs.Pins.{connection_count, pin_count}
use Rattle.hold_netlist.specs.inner.Numbering.{firsts_from}
use Rattle.hold_netlist.proofs.NumberingLemmas.{IsNumbered-below, length-table, table-at}
use Rattle.hold_roles.specs.inner.NamePlaces.{first_at}
use Rattle.hold_build.specs.inner.Names.{inst_names}
use Rattle.hold_build.proofs.CountLemmas.{connections-few, inst-few}
use Rattle.hold_build.proofs.NamedLemmas.{inst-within, kept-no_inst, kept-no_pin, kept-numbered, kept-pin}
use Rattle.hold_build.proofs.names.Names.kept_pin.Goals as goal
use Rattle.hold_build.proofs.names.Names.kept_pin.Goals.{In-Some, In-Some-2}

-- the entry's instance was found
found : (c : In-Some) → Some c.in-Some.inst ≡ first_at 0 c.args.keep.now.inst (inst_names c.args.netlist.now.insts)
found c = c.in-Some.ensures ∙ ap (λ n. number_of n c.args.self.now.insts) c.bytes.ensures ∙ c.requires.tells.each c.args.keep.now.inst

within : (c : In-Some) → c.in-Some.inst < length c.args.netlist.now.insts
within c = inst-within c.args.netlist.now c.know_valid.ensures.names c.args.keep.now.inst c.in-Some.inst (found c)

-- and its pin among the connections
placed : (c : In-Some-2) (i : Inst) → slice_get c.args.netlist.now.insts c.in-Some.inst ≡ Some i → Some c.in-Some-2.place ≡ first_at 0 c.args.keep.now.pin (pin_names i.pins)
placed c i at = sym c.in-Some-2.is ∙ c.in_ok-place.ensures.place i (ap (λ (l : List Inst). slice_get l c.in-Some.inst) c.insts.ensures ∙ at)
    ∙ ap (λ n. first_at 0 n (pin_names i.pins)) c.bytes-2.ensures

pub returns-in_default-clause-pin : goal.returns-in_default-clause-pin
returns-in_default-clause-pin c = kept-no_inst c.args.netlist.now c.know_valid.ensures.names c.args.keep.now
    (c.in_default.ensures ∙ ap (λ n. number_of n c.args.self.now.insts) c.bytes.ensures ∙ c.requires.tells.each c.args.keep.now.inst)

pub place-requires-clause-within : goal.place-requires-clause-within
place-requires-clause-within c =
    let there = within (goal.at.place-requires-clause-within c).In-Some in
    omega (arith, there, ap (λ (l : List Inst). length l) c.insts.ensures)

pub place-requires-clause-few : goal.place-requires-clause-few
place-requires-clause-few c = λ i at. inst-few c.args.netlist.now c.know_valid.ensures c.in-Some.inst i (ap (λ (l : List Inst). slice_get l c.in-Some.inst) (sym c.insts.ensures) ∙ at)

pub index-requires : goal.index-requires
index-requires c =
    let there = within (goal.at.index-requires c).In-Some in
    let long = length-table pin_count c.args.netlist.now.insts c.args.self.now.first_pins.items c.requires.firsts in
    omega (arith, there, long, c.args.self.now.first_pins.ok.0)

-- the number of the instance's first connection
first-is : (b : Inst → ℕ) (insts : List Inst) (firsts : List ℕ) (k first : ℕ) → firsts ≡ firsts_from 0 b insts → k < length insts → first ≡ get_or firsts k first → first ≡ first_of b insts k
first-is b insts firsts k first table inside read =
    let long = length-table b insts firsts table in
    read ∙ get_or_default firsts k first 0 (omega arith) ∙ table-at b insts firsts table k (omega arith)

pub overflow_add-result : goal.overflow_add-result
overflow_add-result c =
    let there = within (goal.at.overflow_add-result c).In-Some in
    let first = first-is pin_count c.args.netlist.now.insts c.args.self.now.first_pins.items c.in-Some.inst c.index.result.now c.requires.firsts there c.index.ensures in
    let numbered = kept-numbered c.args.netlist.now c.know_valid.ensures.names c.args.keep.now c.in-Some.inst (found (goal.at.overflow_add-result c).In-Some) c.in-Some-2.place
    (placed (goal.at.overflow_add-result c).In-Some-2) c.index.result.now first in
    let below : c.index.result.now + c.in-Some-2.place < connection_count c.args.netlist.now.insts = IsNumbered-below pin_count c.args.netlist.now.insts _ c.in-Some.inst c.in-Some-2.place numbered in
    let few = connections-few c.args.netlist.now c.know_valid.ensures in
    omega arith

pub returns-in-Some-2-clause-pin : goal.returns-in-Some-2-clause-pin
returns-in-Some-2-clause-pin c =
    let there = within (goal.at.returns-in-Some-2-clause-pin c).In-Some in
    kept-pin c.args.netlist.now c.know_valid.ensures.names c.args.keep.now c.in-Some.inst (found (goal.at.returns-in-Some-2-clause-pin c).In-Some) c.in-Some-2.place
    (placed (goal.at.returns-in-Some-2-clause-pin c).In-Some-2) c.index.result.now
    (first-is pin_count c.args.netlist.now.insts c.args.self.now.first_pins.items c.in-Some.inst c.index.result.now c.requires.firsts there c.index.ensures)

pub returns-in-None-clause-pin : goal.returns-in-None-clause-pin
returns-in-None-clause-pin c =
    kept-no_pin c.args.netlist.now c.know_valid.ensures.names c.args.keep.now c.in-Some.inst (found (goal.at.returns-in-None-clause-pin c).In-Some)
    (λ i at. sym c.in-None.is ∙ c.in_ok-place.ensures.place i (ap (λ (l : List Inst). slice_get l c.in-Some.inst) c.insts.ensures ∙ at)
    ∙ ap (λ n. first_at 0 n (pin_names i.pins)) c.bytes-2.ensures)
