use Rattle.std.proofs.Common.{◌∙◌, ap}
use Rattle.std.specs.List.{list_all}
use Rattle.hold_netlist.specs.Names.{is_among}
use Rattle.hold_plain.specs.declared.cell.CellCheck.{CellCheck}
use Rattle.hold_cli.proofs.JobFormSets.{all_of_same}
use Rattle.hold_cli.proofs.job_form.whole.checks_are_of_inputs.Goals as goal

pub returns : goal.returns
returns c =
    c.all_of.ensures ∙ all_of_same _ _ c.args.cell.now.inputs (λ n. c.in_ok-inputs.ensures n ∙ ap (is_among n) c.as_slice.ensures)
    ∙ ap (list_all (λ (entry : CellCheck). is_among entry.pin c.args.cell.now.inputs)) c.as_slice-2.ensures
