use Rattle.std.proofs.Common.{◌≡◌, ◌∙◌, ap, sym, Some, None}
use Rattle.std.specs.Prelude.{slice_get}
use Rattle.hold_netlist.specs.NameTable.{number_of}
use Rattle.hold_plain.proofs.TableLemmas.{arrival_at, no_arrival}
use Rattle.hold_plain.proofs.tables.Tables.own_arrival.Goals as goal

pub returns-in_default : goal.returns-in_default
returns-in_default c =
    no_arrival c.args.inst.now c.args.timing.now.clocks c.args.self.now.clocks c.requires.clocks
    (ap (λ n. number_of n c.args.self.now.clocks) (sym c.bytes.ensures) ∙ sym c.in_default.ensures)

pub returns-in-Some-item_at : goal.returns-in-Some-item_at
returns-in-Some-item_at c =
    let at : number_of c.args.inst.now c.args.self.now.clocks ≡ Some c.in-Some.place = ap (λ n. number_of n c.args.self.now.clocks) (sym c.bytes.ensures) ∙ sym c.in-Some.ensures in
    arrival_at c.args.inst.now c.args.timing.now.clocks c.args.self.now.clocks c.requires.clocks c.in-Some.place (Some c.in-Some-item_at.clock.now) at
    (ap (λ entries. slice_get entries c.in-Some.place) (sym c.as_slice.ensures) ∙ sym c.in-Some-item_at.ensures)

pub returns-in-None : goal.returns-in-None
returns-in-None c =
    let at : number_of c.args.inst.now c.args.self.now.clocks ≡ Some c.in-Some.place = ap (λ n. number_of n c.args.self.now.clocks) (sym c.bytes.ensures) ∙ sym c.in-Some.ensures in
    arrival_at c.args.inst.now c.args.timing.now.clocks c.args.self.now.clocks c.requires.clocks c.in-Some.place None at
    (ap (λ entries. slice_get entries c.in-Some.place) (sym c.as_slice.ensures) ∙ sym c.in-None.ensures)
