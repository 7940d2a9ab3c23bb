use Rattle.std.proofs.Common.{◌≡◌, ◌∙◌, ap, sym, Some}
use Rattle.std.specs.Prelude.{slice_get}
use Rattle.hold_netlist.specs.NameTable.{number_of}
use Rattle.hold_plain.proofs.TableLemmas.{cell_at, no_cell}
use Rattle.hold_plain.proofs.tables.Tables.cell.Goals as goal

pub returns-in-Some : goal.returns-in-Some
returns-in-Some c =
    let at : number_of c.args.name.now c.args.self.now.cells ≡ Some c.in-Some.place = ap (λ n. number_of n c.args.self.now.cells) (sym c.bytes.ensures) ∙ sym c.in-Some.ensures in
    c.item_at.ensures ∙ ap (λ cells. slice_get cells c.in-Some.place) c.as_slice.ensures
    ∙ cell_at c.args.name.now c.args.timing.now.cells c.args.self.now.cells c.requires.cells c.in-Some.place at

pub returns-in-None : goal.returns-in-None
returns-in-None c =
    no_cell c.args.name.now c.args.timing.now.cells c.args.self.now.cells c.requires.cells
    (ap (λ n. number_of n c.args.self.now.cells) (sym c.bytes.ensures) ∙ sym c.in-None.ensures)
