use Rattle.std.proofs.Common.{Some, sym, ap, ◌∙◌}
use Rattle.hold_sdflex.specs.ItemsRead.{item_read, group_read}
use Rattle.hold_sdf.specs.Shapes.{spec_of}
use Rattle.hold_sdf.proofs.SpecLemmas.{spec_of_group}
use Rattle.hold_sdf.proofs.pin.next_spec.Goals as goal

pub returns-in-Some-Group-clause-pin : goal.returns-in-Some-Group-clause-pin
returns-in-Some-Group-clause-pin c =
    c.spec_in.ensures ∙ sym (spec_of_group (group_read c.in-Some-Group.group))
    ∙ ap spec_of (ap (λ item. Some (item_read item)) (sym c.in-Some-Group.field-0-is) ∙ c.in-Some-Group.ensures.item)
