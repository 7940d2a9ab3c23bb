use Rattle.std.proofs.Common.{ap, sym, ◌∙◌, is_some, not}
use Rattle.hold_base.proofs.Options.{none-is_some}
use Rattle.hold_base.proofs.Results.{OnErr-given}
use Rattle.hold_netlist.specs.NameTable.{number_of}
use Rattle.hold_netlist.proofs.NameTableLemmas.{number_of_entries, added_pair}
use Rattle.hold_netlist.proofs.name_table.NameTable.add.Goals as goal

pub returns-then-contains_key-clause-new : goal.returns-then-contains_key-clause-new
returns-then-contains_key-clause-new c =
    let at = number_of_entries c.args.name.now c.self.inside.numbers.entries ∙ ap (number_of c.args.name.now) c.self.view_is in
    ap not (sym c.if-contains_key.true ∙ c.contains_key.ensures ∙ ap is_some at)

pub returns-clause-new : goal.returns-clause-new
returns-clause-new c =
    let at = number_of_entries c.args.name.now c.self.inside.numbers.entries ∙ ap (number_of c.args.name.now) c.self.view_is in
    ap not (sym c.if-contains_key.false ∙ c.contains_key.ensures ∙ ap is_some at)

pub returns-clause-added : goal.returns-clause-added
returns-clause-added c =
    let at = number_of_entries c.args.name.now c.self.inside.numbers.entries ∙ ap (number_of c.args.name.now) c.self.view_is in
    added_pair _ _ _ _ _ _ c.self.view_is c.in_ok-key.ensures.items (sym c.if-contains_key.false ∙ c.contains_key.ensures ∙ ap is_some at) c.in_ok-insert.ensures.entries

pub returns-in_err-key-clause-known : goal.returns-in_err-key-clause-known
returns-in_err-key-clause-known c =
    let at = number_of_entries c.args.name.now c.self.inside.numbers.entries ∙ ap (number_of c.args.name.now) c.self.view_is in
    OnErr-given _ (none-is_some _ (ap is_some (sym at) ∙ sym c.contains_key.ensures ∙ c.if-contains_key.false))

pub returns-in_err-insert-clause-known : goal.returns-in_err-insert-clause-known
returns-in_err-insert-clause-known c =
    let at = number_of_entries c.args.name.now c.self.inside.numbers.entries ∙ ap (number_of c.args.name.now) c.self.view_is in
    OnErr-given _ (none-is_some _ (ap is_some (sym at) ∙ sym c.contains_key.ensures ∙ c.if-contains_key.false))
