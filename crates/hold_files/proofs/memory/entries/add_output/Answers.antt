use Rattle.std.proofs.Common.{◌∙◌, ap, true}
use Rattle.std.proofs.lemmas.Result.{on_ok_weaker}
use Rattle.hold_files.specs.inner.Entries.{new_entry}
use Rattle.hold_files.proofs.Additions.{IsOutputAdded-put}
use Rattle.hold_files.proofs.memory.entries.add_output.Goals as goal

pub returns : goal.returns
returns c =
    let is = c.in_ok-new.ensures ∙ ap (λ text. new_entry text c.args.room true) c.take_text-bytes.ensures.text in
    on_ok_weaker c.set_entry.result
    (IsOutputAdded-put c.args.entries.now c.take_text-bytes.new.entries c.set_entry.new.entries c.args.name c.args.room c.in_ok-new.field-0
    is c.take_text-bytes.ensures.gone)
    c.set_entry.ensures
