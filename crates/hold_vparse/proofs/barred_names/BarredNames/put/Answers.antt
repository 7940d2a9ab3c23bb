use Rattle.std.proofs.Common.{◌∙◌}
use Rattle.hold_vparse.proofs.BarredLemmas.{barred_in-put}
use Rattle.hold_vparse.proofs.barred_names.BarredNames.put.Goals as goal

pub returns : goal.returns
returns c = λ other.
    barred_in-put c.args.self.now (record { roles = c.insert.new.self }) c.in_ok-key.key c.args.barred c.args.name.now other (c.in_ok-key.ensures.items ∙ c.bytes.ensures) c.in_ok-insert.ensures.entries
