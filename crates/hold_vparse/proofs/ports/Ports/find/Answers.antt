use Rattle.std.proofs.Common.{sym, ◌∙◌}
use Rattle.hold_vparse.proofs.LineLemmas.{line_of-some, line_of-none}
use Rattle.hold_vparse.proofs.ports.Ports.find.Goals as goal

pub returns-in-Some : goal.returns-in-Some
returns-in-Some c = c.get.ensures ∙ sym (line_of-some c.args.name.now c.args.self.now c.in-Some.place (sym c.place.ensures ∙ c.in-Some.is))

pub returns-in-None : goal.returns-in-None
returns-in-None c = sym (line_of-none c.args.name.now c.args.self.now (sym c.place.ensures ∙ c.in-None.is))
