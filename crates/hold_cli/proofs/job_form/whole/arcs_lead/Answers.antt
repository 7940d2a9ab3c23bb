use Rattle.std.proofs.Common.{◌∙◌, ap}
use Rattle.std.specs.List.{list_all}
use Rattle.hold_netlist.specs.Names.{is_among}
use Rattle.hold_cli.specs.JobFormCells.{leads_between, sources_of}
use Rattle.hold_cli.proofs.JobFormSets.{all_lead_same}
use Rattle.hold_cli.proofs.job_form.whole.arcs_lead.Goals as goal

pub returns : goal.returns
returns c =
    c.all_lead.ensures ∙ all_lead_same _ _ _ (sources_of c.args.cell.now) c.args.cell.now.outputs
    (λ n. c.in_ok-sources.ensures n ∙ ap (is_among n) c.sources_of.ensures)
    (λ n. c.in_ok-outputs.ensures n ∙ ap (is_among n) c.as_slice.ensures)
    ∙ ap (list_all (leads_between (sources_of c.args.cell.now) c.args.cell.now.outputs)) c.as_slice-2.ensures
