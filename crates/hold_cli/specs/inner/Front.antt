-- RefusesText job text fault: why the text of the job's netlist is refused: it isn't read, for its first fault, or it isn't served.
use Rattle.std.specs.Prelude.{◌≡◌, ℕ, List}
use Rattle.hold_cli.specs.declared.job_form.Job.{Job}
use Rattle.hold_cli.specs.declared.outcome.Fault.{Fault}
use Rattle.hold_cli.specs.declared.outcome.Fault.TheVariants.{TooLong, Verilog, NotBuilt}
use Rattle.hold_vparse.specs.Reads.{IsFirstFault}
use Rattle.hold_cli.specs.Front.{IsUnbuiltText}

-- a text that is no netlist, or none that is served for the job
abbrev pub RefusesText : Job → List ℕ → Fault → Type 0
RefusesText job text (TooLong file) = ⊥
RefusesText job text (Verilog fault) = IsFirstFault text fault
RefusesText job text (NotBuilt file) = IsUnbuiltText job text × (file ≡ job.netlist)
