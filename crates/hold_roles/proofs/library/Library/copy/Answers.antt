use Rattle.std.proofs.Common.{◌∙◌}
use Rattle.hold_roles.proofs.library.Library.copy.Goals as goal

pub returns-in-Ok : goal.returns-in-Ok
returns-in-Ok c = c.in-Ok.ensures.made ∙ c.in_ok-types.ensures ∙ c.self.view_is
