use Rattle.std.proofs.Common.{Some}
use Rattle.hold_files.proofs.Additions.{entry_of-updated}
use Rattle.hold_files.proofs.memory.entries.set_entry.Goals as goal

pub returns : goal.returns
returns c = entry_of-updated c.args.entries.now c.insert.new.self c.args.name (Some c.args.entry) c.in_ok-insert.ensures.updates
