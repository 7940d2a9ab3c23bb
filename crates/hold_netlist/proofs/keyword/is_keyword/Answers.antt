use Rattle.std.proofs.Common.{ap, is_some, ◌∙◌}
use Rattle.hold_netlist.specs.Keywords.{keywords}
use Rattle.hold_netlist.proofs.RowLemmas.{is_some-first_row}
use Rattle.hold_netlist.proofs.keyword.is_keyword.Goals as goal

pub returns : goal.returns
unfolding keywords
returns c = c.is_some.ensures ∙ ap is_some c.find.ensures.place ∙ is_some-first_row c.args.word.now keywords
