use Rattle.std.proofs.Common.{ap, ◌∙◌}
use Rattle.hold_netlist.specs.NameTable.{number_of}
use Rattle.hold_netlist.proofs.NameTableLemmas.{number_of_entries}
use Rattle.hold_netlist.proofs.name_table.NameTable.find.Goals as goal

pub returns : goal.returns
returns c = c.copied.ensures ∙ c.get.ensures.value ∙ number_of_entries c.args.name.now c.self.inside.numbers.entries ∙ ap (number_of c.args.name.now) c.self.view_is
