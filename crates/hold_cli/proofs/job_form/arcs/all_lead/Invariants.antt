use Rattle.std.proofs.Common.{◌≡◌, drop}
use Rattle.std.specs.List.{list_all}
use Rattle.hold_cli.specs.JobFormCells.{leads_between}
use Rattle.hold_cli.proofs.job_form.arcs.all_lead.Given as goal

-- all arcs lead where those that are left do
abbrev pub invariant-loop-arc : goal.invariant-loop-arc
invariant-loop-arc l = list_all (leads_between l.sources l.outputs) (drop l.arc-index l.arcs) ≡ list_all (leads_between l.sources l.outputs) l.arcs
