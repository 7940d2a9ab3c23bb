use Rattle.std.proofs.Common.{◌≡◌, false, sym, ◌∙◌}
use Rattle.std.specs.Prelude.{is_some}
use Rattle.std.proofs.lemmas.Result.{on_ok_weaker}
use Rattle.hold_base.proofs.Options.{none-is_some}
use Rattle.hold_files.specs.Memory.{entry_of}
use Rattle.hold_files.proofs.Additions.{IsTextAdded-new}
use Rattle.hold_files.proofs.memory.entries.add_text.Goals as goal

pub returns : goal.returns
returns c =
    let absent : is_some (entry_of c.args.entries.now c.args.name) ≡ false = sym c.contains_key.ensures ∙ c.if-contains_key.false in
    on_ok_weaker c.set_entry.result
    (λ set. IsTextAdded-new c.args.entries.now c.set_entry.new.entries c.args.name c.args.bytes.items c.in_ok-new.field-0
    (none-is_some (entry_of c.args.entries.now c.args.name) absent) c.in_ok-new.ensures (rw c.name.view_is at set))
    c.set_entry.ensures
