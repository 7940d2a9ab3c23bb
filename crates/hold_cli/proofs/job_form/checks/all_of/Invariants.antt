use Rattle.std.proofs.Common.{◌≡◌, drop}
use Rattle.std.specs.List.{list_all}
use Rattle.hold_netlist.specs.Names.{is_among}
use Rattle.hold_cli.proofs.job_form.checks.all_of.Given as goal

-- all checks are of these pins where those that are left are
abbrev pub invariant-loop-entry : goal.invariant-loop-entry
invariant-loop-entry l = list_all (λ entry. is_among entry.pin l.pins) (drop l.entry-index l.checks) ≡ list_all (λ entry. is_among entry.pin l.pins) l.checks
