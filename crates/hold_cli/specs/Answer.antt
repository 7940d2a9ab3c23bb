-- usage_line, repaired_line: what is said where the words are no command, and of a repair.
-- whole_certificate: the certificate of a netlist that meets every check as it is: no buffer costs nothing, and one leaf proves that nothing costs less.
-- only_line: an answer that writes no file.
-- repair_texts job text: what a repair without buffers writes: the certificate, the netlist's canonical text, and its line.
-- IsVerdict job netlist outcome ready: what the job's checks of the netlist come to, and the texts of it: a repair at cost 0 where no path misses a
--   check, else a path that misses one, with by how much.
-- IsBlamed told name fault: where the job's file is told, the fault is one of the job in it, or it is one of that job's netlist.
-- AreTexts told name ready: the texts are the line of a refusal that is to blame, or those of a verdict on the job that was read from the file `name`.
-- ComesToVerdict told name outcome ready: nothing is refused, and the outcome and these texts are the verdict on the job and the netlist that the files
--   hold.
-- Comes told name outcome ready: the order of work on the job in the file `name` comes to this outcome over these contents, and has these texts
--   ready. It never comes to a file that fails, to want of memory, or to words that are no command.
-- IsCalm old new name job: no count rose of reads of the job or of its netlist, of writes of its outputs, nor of sayings.
use Rattle.std.specs.Prelude.{◌≡◌, ◌⊎◌, ℕ, List, [], ◌∷◌, Some, codes}
use Rattle.hold_files.specs.Told.{Told, Rose}
use Rattle.hold_cli.specs.declared.job_form.Job.{Job}
use Rattle.hold_cli.specs.declared.outcome.Fault.{Fault}
use Rattle.hold_cli.specs.declared.outcome.Outcome.{Outcome}
use Rattle.hold_cli.specs.declared.outcome.Outcome.TheVariants.{Repaired, NeedsPadding, Input, ReadFault, WriteFault, Memory, Words}
use Rattle.hold_cli.specs.Front.{IsJobAt, IsJobRead, IsNetlistRead, IsBuilt, BlamesNetlist, Blames, RefusesJob, Refuses, IsFront}
use Rattle.hold_cli.specs.PaddingLine.{padding_line}
use Rattle.hold_cli.specs.RefusalLine.{refusal_line}
use Rattle.hold_cli.specs.Texts.{Ready}
use Rattle.hold_netlist.specs.Design.{Design}
use Rattle.hold_netlist.specs.CanonicalText.{canonical_text}
use Rattle.hold_graph.specs.Sums.{no_buffers}
use Rattle.hold_graph.specs.Met.{IsMet, Misses}
use Rattle.hold_plain.specs.Problem.{problem_of}

abbrev pub usage_line : List ℕ
usage_line = codes "usage: hold repair JOB, check JOB, report JOB, apply JOB or trial N\n"

abbrev pub repaired_line : List ℕ
repaired_line = codes "repaired cost 0\n"

abbrev pub whole_certificate : List ℕ
whole_certificate = codes "hold-certificate 1\nrepaired 0\nleaf 1\nend\n"

abbrev pub only_line : List ℕ → Ready
only_line line = record { files = []; line = line }

abbrev pub repair_texts : Job → List ℕ → Ready
repair_texts job text = record { files = (job.certificate, whole_certificate) ∷ (job.output, text) ∷ []; line = repaired_line }

-- what the checks come to
abbrev pub IsVerdict : Job → Design → Outcome → Ready → Type 0
IsVerdict job netlist (Repaired cost) ready =
    (cost ≡ 0) × IsMet (problem_of job.timing netlist) no_buffers × (ready ≡ repair_texts job (canonical_text netlist))
IsVerdict job netlist (NeedsPadding path short) ready =
    Misses (problem_of job.timing netlist) no_buffers path short × (ready ≡ only_line (padding_line job netlist path short))
IsVerdict job netlist (Input fault) ready = ⊥
IsVerdict job netlist (ReadFault file) ready = ⊥
IsVerdict job netlist WriteFault ready = ⊥
IsVerdict job netlist Memory ready = ⊥
IsVerdict job netlist Words ready = ⊥

-- the job in the file is to blame, or the netlist of the job that it holds
abbrev pub IsBlamed : Told → List ℕ → Fault → Type 0
IsBlamed told name fault =
    (text : List ℕ) → told.content name ≡ Some text → RefusesJob told name fault ⊎ ((job : Job) × IsJobAt told name job × BlamesNetlist told job fault)

-- the texts of a refusal, or of a verdict on the job that was read
abbrev pub AreTexts : Told → List ℕ → Ready → Type 0
AreTexts told name ready =
    ((fault : Fault) × IsBlamed told name fault × Blames told name fault × (ready ≡ only_line (refusal_line fault)))
    ⊎ ((job : Job) × (netlist : Design) × (verdict : Outcome) × IsJobRead told name job × IsNetlistRead told job netlist × IsBuilt job netlist
    × IsVerdict job netlist verdict ready)

-- a verdict on what the files hold
abbrev pub ComesToVerdict : Told → List ℕ → Outcome → Ready → Type 0
ComesToVerdict told name outcome ready = (job : Job) × (netlist : Design) × IsFront told name job netlist × IsVerdict job netlist outcome ready

abbrev pub Comes : Told → List ℕ → Outcome → Ready → Type 0
Comes told name (Input fault) ready = Refuses told name fault × (ready ≡ only_line (refusal_line fault))
Comes told name (Repaired cost) ready = ComesToVerdict told name (Repaired cost) ready
Comes told name (NeedsPadding path short) ready = ComesToVerdict told name (NeedsPadding path short) ready
Comes told name (ReadFault file) ready = ⊥
Comes told name WriteFault ready = ⊥
Comes told name Memory ready = ⊥
Comes told name Words ready = ⊥

pub record IsCalm (old new : Told) (name : List ℕ) (job : Job) : Type 0 where
  pub job_read : Rose (old.read_faults name) (new.read_faults name) → ⊥
  pub netlist_read : Rose (old.read_faults job.netlist) (new.read_faults job.netlist) → ⊥
  pub certificate_written : Rose (old.write_faults job.certificate) (new.write_faults job.certificate) → ⊥
  pub output_written : Rose (old.write_faults job.output) (new.write_faults job.output) → ⊥
  pub line_said : Rose old.say_faults new.say_faults → ⊥
