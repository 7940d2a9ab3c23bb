use Rattle.std.proofs.Common.{◌≡◌, true, Some, sym, ap, ◌∙◌}
use Rattle.hold_sdflex.specs.Items.{Nested, items_in, behind}
use Rattle.hold_sdflex.specs.ItemsRead.{item_read, group_read}
use Rattle.hold_sdf.specs.Keywords.{is_word, cond_words}
use Rattle.hold_sdf.specs.Shapes.{keyword, last_of}
use Rattle.hold_sdf.proofs.SpecLemmas.{spec_in-deeper, spec_in-smaller}
use Rattle.hold_sdf.proofs.pin.spec_in.Goals as goal
use Rattle.hold_sdf.proofs.pin.spec_in.Goals.{In-Some-Group}

-- the last item is a group
deeper : (c : In-Some-Group) → last_of (behind (items_in c.loop-inner.inner)) ≡ Some (Nested (group_read c.in-Some-Group.group))
deeper c = ap last_of (sym c.behind_keyword.ensures) ∙ sym c.in-Some-Group.ensures ∙ ap (λ item. Some (item_read item)) c.in-Some-Group.field-0-is

pub loop-inner-smaller : goal.loop-inner-smaller
loop-inner-smaller c = spec_in-smaller c.loop-inner.inner (group_read c.in-Some-Group.group) (deeper c)

pub loop-inner-preserved : goal.loop-inner-preserved
loop-inner-preserved c =
    let cond : is_word cond_words (keyword (items_in c.loop-inner.inner)) ≡ true = ap (is_word cond_words) (sym c.keyword.ensures) ∙ sym c.if-not-is_cond.ensures in
    spec_in-deeper c.loop-inner.inner (group_read c.in-Some-Group.group) cond (deeper c) ∙ c.loop-inner.invariant
