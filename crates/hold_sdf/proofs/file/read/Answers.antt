use Rattle.hold_sdflex.specs.ItemsRead.{group_read}
use Rattle.hold_sdf.proofs.RangeLemmas.{entries_of-file, entries_in_range}
use Rattle.hold_sdf.proofs.file.read.Goals as goal

pub returns-clause-in_range : goal.returns-clause-in_range
returns-clause-in_range c =
    entries_in_range c.args.text.now c.file.new.entries.items
    (entries_of-file c.args.text.now c.in-Ok.groups c.of-whole.result (group_read c.in-Some.group) c.new-entries.result.items c.file.new.entries.items
    c.in-Ok.ensures.found c.of-whole.ensures c.in-Some.ensures.group c.new-entries.ensures.items c.in_ok-file.ensures)
