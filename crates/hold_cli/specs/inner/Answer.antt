-- IsAnswer old new name outcome: the outcome is right for the repair of the job in the file `name`, begun over the old moment and ended at the new one.
--   IsJudged: it is the verdict on the job and the netlist that were read, each of its texts was written, and where the files were told, they hold that
--   job and netlist. IsRefused: the line was said, and where the files were told, that fault is the first refusal. IsUnread: the count of failed reads of
--   that file rose, there were only reads, and the work comes to that file. IsUnwritten: another outcome had its texts ready, and one of them failed. At want
--   of memory there were only reads, and that the words are no command is never right.
-- IsRefusal, IsDelivery: what is right once a fault, or a job and its netlist, have been read: the outcome of that, or what may come in its place.
use Rattle.std.specs.Prelude.{◌≡◌, ℕ, List, Some}
use Rattle.hold_files.specs.Told.{Told, Rose, OnlyReads}
use Rattle.hold_cli.specs.declared.job_form.Job.{Job}
use Rattle.hold_cli.specs.declared.outcome.Fault.{Fault}
use Rattle.hold_cli.specs.declared.outcome.Outcome.{Outcome}
use Rattle.hold_cli.specs.declared.outcome.Outcome.TheVariants.{Repaired, NeedsPadding, Input, ReadFault, WriteFault, Memory, Words}
use Rattle.hold_cli.specs.Front.{IsJobRead, IsNetlistRead, IsBuilt, Blames, ComesTo, ComesToRead, IsTold, Refuses, IsFront}
use Rattle.hold_cli.specs.RefusalLine.{refusal_line}
use Rattle.hold_cli.specs.Texts.{Ready, IsDone, Fails, FailsInLine}
use Rattle.hold_netlist.specs.Design.{Design}
use Rattle.hold_cli.specs.Answer.{AreTexts, Comes, IsBlamed, IsVerdict, only_line}

pub record IsJudged (old new : Told) (name : List ℕ) (outcome : Outcome) : Type 0 where
  pub job : Job
  pub netlist : Design
  pub ready : Ready
  pub read : IsJobRead old name job
  pub netlist_read : IsNetlistRead old job netlist
  pub built : IsBuilt job netlist
  pub verdict : IsVerdict job netlist outcome ready
  pub done : IsDone old new ready
  pub front : IsTold old name → IsFront old name job netlist

pub record IsRefused (old new : Told) (name : List ℕ) (fault : Fault) : Type 0 where
  pub refuses : IsTold old name → Refuses old name fault
  pub first : IsBlamed old name fault
  pub blames : Blames old name fault
  pub done : IsDone old new (only_line (refusal_line fault))

pub record IsUnread (old new : Told) (name file : List ℕ) : Type 0 where
  pub cause : Rose (old.read_faults file) (new.read_faults file)
  pub named : ComesToRead old name file
  pub comes : (text : List ℕ) → old.content name ≡ Some text → ComesTo old name file
  pub only : OnlyReads old new

pub record IsUnwritten (old new : Told) (name : List ℕ) : Type 0 where
  pub ready : Ready
  pub fails : Fails old new ready
  pub texts : AreTexts old name ready
  pub comes : IsTold old name → (outcome : Outcome) × Comes old name outcome ready

-- what is right of each outcome
abbrev pub IsAnswer : Told → Told → List ℕ → Outcome → Type 0
IsAnswer old new name (Repaired cost) = IsJudged old new name (Repaired cost)
IsAnswer old new name (NeedsPadding path short) = IsJudged old new name (NeedsPadding path short)
IsAnswer old new name (Input fault) = IsRefused old new name fault
IsAnswer old new name (ReadFault file) = IsUnread old new name file
IsAnswer old new name WriteFault = IsUnwritten old new name
IsAnswer old new name Memory = OnlyReads old new
IsAnswer old new name Words = ⊥

-- what is right of a refusal that is ready: the fault is answered, its line failed, or there was no memory for the line
abbrev pub IsRefusal : Told → Told → Fault → Outcome → Type 0
IsRefusal old new fault (Input answered) = (answered ≡ fault) × IsDone old new (only_line (refusal_line fault))
IsRefusal old new fault WriteFault = FailsInLine old new (only_line (refusal_line fault))
IsRefusal old new fault Memory = old ≡ new
IsRefusal old new fault (Repaired cost) = ⊥
IsRefusal old new fault (NeedsPadding path short) = ⊥
IsRefusal old new fault (ReadFault file) = ⊥
IsRefusal old new fault Words = ⊥

-- what is right of a job and its netlist: the verdict is answered, one of its texts failed, or there was no memory for them
abbrev pub IsDelivery : Told → Told → Job → Design → Outcome → Type 0
IsDelivery old new job netlist (Repaired cost) = (ready : Ready) × IsVerdict job netlist (Repaired cost) ready × IsDone old new ready
IsDelivery old new job netlist (NeedsPadding path short) =
    (ready : Ready) × IsVerdict job netlist (NeedsPadding path short) ready × IsDone old new ready
IsDelivery old new job netlist WriteFault = (verdict : Outcome) × (ready : Ready) × IsVerdict job netlist verdict ready × Fails old new ready
IsDelivery old new job netlist Memory = old ≡ new
IsDelivery old new job netlist (Input fault) = ⊥
IsDelivery old new job netlist (ReadFault file) = ⊥
IsDelivery old new job netlist Words = ⊥
