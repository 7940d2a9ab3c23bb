use Rattle.std.proofs.Common.{None}
use Rattle.hold_files.proofs.Additions.{entry_of-updated}
use Rattle.hold_files.proofs.memory.entries.take_text.Goals as goal

pub returns-in-Some-clause-gone : goal.returns-in-Some-clause-gone
returns-in-Some-clause-gone c = entry_of-updated c.args.entries.now c.remove.new.self c.args.name.now None c.remove.ensures.updates
