-- What comes of writing the texts of a verdict.
use Rattle.std.proofs.Common.{◌≡◌, inr, ℕ, List, refl, ap}
use Rattle.std.specs.Prelude.{ℤ}
use Rattle.hold_files.specs.Told.{Told}
use Rattle.hold_cli.specs.declared.job_form.Job.{Job}
use Rattle.hold_cli.specs.declared.outcome.Outcome.TheVariants.{Repaired, NeedsPadding, WriteFault}
use Rattle.hold_graph.specs.declared.problem.Listed.{Listed}
use Rattle.hold_graph.specs.Sums.{no_buffers}
use Rattle.hold_graph.specs.Met.{IsMet, Misses}
use Rattle.hold_netlist.specs.Design.{Design}
use Rattle.hold_netlist.specs.CanonicalText.{canonical_text}
use Rattle.hold_plain.specs.Problem.{problem_of}
use Rattle.hold_cli.specs.PaddingLine.{padding_line}
use Rattle.hold_cli.specs.Texts.{IsDone, FailsInLine, Fails}
use Rattle.hold_cli.specs.Answer.{only_line, repair_texts}
use Rattle.hold_cli.specs.inner.Answer.{IsDelivery}

pub repair_done : (old new : Told) (job : Job) (netlist : Design) (text : List ℕ) → text ≡ canonical_text netlist
    → IsMet (problem_of job.timing netlist) no_buffers → IsDone old new (repair_texts job text) → IsDelivery old new job netlist (Repaired 0)
repair_done old new job netlist text spelled met done =
    (repair_texts job text, (refl, met, ap (repair_texts job) spelled), done)

pub repair_fails : (old new : Told) (job : Job) (netlist : Design) (text : List ℕ) → text ≡ canonical_text netlist
    → IsMet (problem_of job.timing netlist) no_buffers → Fails old new (repair_texts job text) → IsDelivery old new job netlist WriteFault
repair_fails old new job netlist text spelled met fails =
    (Repaired 0, repair_texts job text, (refl, met, ap (repair_texts job) spelled), fails)

pub line_fails : (old new : Told) (job : Job) (netlist : Design) (path : Listed) (short : ℤ) (line : List ℕ) → Misses (problem_of job.timing netlist) no_buffers path short
    → line ≡ padding_line job netlist path short → FailsInLine old new (only_line line) → IsDelivery old new job netlist WriteFault
line_fails old new job netlist path short line misses is fails = (NeedsPadding path short, only_line line, (misses, ap only_line is), inr fails)
