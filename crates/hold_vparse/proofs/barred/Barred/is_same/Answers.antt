use Rattle.std.proofs.Common.{◌∙◌, sym}
use Rattle.hold_vparse.proofs.RolesEqual.{equal_roles, roles_equal}
use Rattle.hold_vparse.proofs.barred.Barred.is_same.Goals as goal

pub returns : goal.returns
returns c = ((λ yes. equal_roles c.args.self c.args.other (sym c.eq.ensures ∙ yes)), (λ same. c.eq.ensures ∙ roles_equal c.args.self c.args.other same))
