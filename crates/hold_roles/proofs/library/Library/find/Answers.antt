use Rattle.std.proofs.Common.{List, ap, sym, ◌∙◌}
use Rattle.std.specs.Prelude.{slice_get}
use Rattle.hold_roles.specs.declared.role.CellType.{CellType}
use Rattle.hold_roles.proofs.NamePlaceLemmas.{type_at, no_type}
use Rattle.hold_roles.proofs.library.Library.find.Goals as goal

pub returns-in-Some : goal.returns-in-Some
returns-in-Some c =
    c.item_at.ensures ∙ ap (λ (ts : List CellType). slice_get ts c.in-Some.place) (c.deref.ensures.value ∙ c.self.view_is)
    ∙ type_at c.args.name.now c.args.self.now c.in-Some.place (sym c.in-Some.ensures)

pub returns-in-None : goal.returns-in-None
returns-in-None c = sym (no_type c.args.name.now c.args.self.now (sym c.in-None.ensures))
