use Rattle.std.proofs.Common.{◌≡◌, ◌++◌, map, drop}
use Rattle.hold_netlist.specs.Doubles.{first_repeat}
use Rattle.hold_cli.proofs.job_form.doubles.see_all.Given as goal

-- what is left has the first name of the whole that is not new, and all names before it were seen
abbrev pub invariant-loop-item : goal.invariant-loop-item
invariant-loop-item g l = record {
  rest : first_repeat l.seen (map g.T.Named.name_in (drop l.item-index l.items)) ≡ first_repeat l.initial.seen (map g.T.Named.name_in l.items);
  seen : l.seen ++ map g.T.Named.name_in (drop l.item-index l.items) ≡ l.initial.seen ++ map g.T.Named.name_in l.items;
}
