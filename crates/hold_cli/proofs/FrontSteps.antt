-- The order of work, step by step: what is refused at a step is the first refusal over the files as they were at the beginning.
use Rattle.std.proofs.Common.{◌≡◌, inr, ℕ, ◌≤◌, List, Option, Some, None, IsSome, refl, ap, sym, ◌∙◌, subst, length}
use Rattle.hold_files.specs.Told.{Told, OnlyReads}
use Rattle.hold_cli.specs.declared.job_form.Job.{Job}
use Rattle.hold_cli.specs.declared.input.Stopped.TheVariants.{Refused}
use Rattle.hold_cli.specs.declared.outcome.Fault.{Fault}
use Rattle.hold_cli.specs.declared.outcome.Fault.TheVariants.{TooLong, Verilog, NotBuilt}
use Rattle.hold_cli.specs.JobForm.{IsJobText}
use Rattle.hold_netlist.specs.Design.{Design}
use Rattle.hold_base.specs.Limits.{file_limit}
use Rattle.hold_cli.specs.Front.{IsBuilt, HasText, IsJobAt, IsNetlistAt, IsNetlistRead, BlamesNetlist, IsTold, RefusesJob, RefusesNetlist, Refuses, IsFront}
use Rattle.hold_cli.specs.inner.Front.{RefusesText}

-- a text that is no job is refused under its own name
pub not_a_job : (told : Told) (name bytes copy : List ℕ) (fault : Fault) → Refused (NotBuilt copy) ≡ Refused fault → copy ≡ name → length bytes ≤ file_limit
    → ((job : Job) → IsJobText bytes name job → ⊥) → ((text : List ℕ) → told.content name ≡ Some text → bytes ≡ text)
    → (text : List ℕ) → told.content name ≡ Some text → RefusesJob told name fault
not_a_job told name bytes copy fault e same within none whole text is =
    let named : NotBuilt copy ≡ fault = cc in
    subst (λ (f : Fault). RefusesJob told name f) named
    (record { text = bytes; has = record { content = is ∙ ap Some (sym (whole text is)); within = within }; none = none }, same)

-- what is told has a text
content_of : (o : Option (List ℕ)) → IsSome o → (text : List ℕ) × (o ≡ Some text)
content_of (Some text) some = (text, refl)
content_of None some = cc

before : (old mid : Told) (file text found : List ℕ) → OnlyReads old mid → old.content file ≡ Some text → mid.content file ≡ Some found → old.content file ≡ Some found
before old mid file text found reads is now =
    let same : mid.content file ≡ Some text = reads.contents file text is in cc

text_before : (old mid : Told) (file text found : List ℕ) → OnlyReads old mid → old.content file ≡ Some text → HasText mid file found → HasText old file found
text_before old mid file text found reads is has = record { content = before old mid file text found reads is has.content; within = has.within }

-- a netlist that is refused later was to be refused from the beginning
refused_before : (old mid : Told) (job : Job) (text : List ℕ) (fault : Fault) → OnlyReads old mid → old.content job.netlist ≡ Some text
    → RefusesNetlist mid job fault → RefusesNetlist old job fault
refused_before old mid job text (TooLong other) reads is refuses =
    (record { text = refuses.0.text; content = before old mid job.netlist text refuses.0.text reads is refuses.0.content; beyond = refuses.0.beyond }, refuses.1)
refused_before old mid job text (Verilog fault) reads is refuses =
    record { text = refuses.text; has = text_before old mid job.netlist text refuses.text reads is refuses.has; first = refuses.first }
refused_before old mid job text (NotBuilt other) reads is refuses =
    (record { text = refuses.0.text; has = text_before old mid job.netlist text refuses.0.text reads is refuses.0.has; is = refuses.0.is }, refuses.1)

pub netlist_refused : (old mid : Told) (name : List ℕ) (job : Job) (fault : Fault) → OnlyReads old mid
    → ((text : List ℕ) → old.content name ≡ Some text → IsJobAt old name job)
    → ((text : List ℕ) → mid.content job.netlist ≡ Some text → RefusesNetlist mid job fault)
    → IsTold old name → Refuses old name fault
netlist_refused old mid name job fault reads job_at refuses told =
    let named = content_of (old.content name) told.job in
    let at : IsJobAt old name job = job_at named.0 named.1 in
    let held = content_of (old.content job.netlist) (told.netlist job at) in
    inr (job, at, refused_before old mid job held.0 fault reads held.1 (refuses held.0 (reads.contents job.netlist held.0 held.1)))

pub netlist_found : (old mid : Told) (name : List ℕ) (job : Job) (netlist : Design) → OnlyReads old mid
    → ((text : List ℕ) → old.content name ≡ Some text → IsJobAt old name job)
    → ((text : List ℕ) → mid.content job.netlist ≡ Some text → IsNetlistAt mid job netlist)
    → IsBuilt job netlist → IsTold old name → IsFront old name job netlist
netlist_found old mid name job netlist reads job_at found built told =
    let named = content_of (old.content name) told.job in
    let at : IsJobAt old name job = job_at named.0 named.1 in
    let told_text = content_of (old.content job.netlist) (told.netlist job at) in
    let held : IsNetlistAt mid job netlist = found told_text.0 (reads.contents job.netlist told_text.0 told_text.1) in
    record {
      at = at;
      held = record { text = held.text; has = text_before old mid job.netlist told_text.0 held.text reads told_text.1 held.has; reads = held.reads };
      built = built;
    }

-- bytes that were read later are those that were told at the beginning
pub netlist_read : (old mid : Told) (job : Job) (netlist : Design) → OnlyReads old mid → IsNetlistRead mid job netlist → IsNetlistRead old job netlist
netlist_read old mid job netlist reads read = record {
  bytes = read.bytes;
  reads = read.reads;
  are = λ text is. read.are text (reads.contents job.netlist text is);
}

pub netlist_blamed : (old mid : Told) (job : Job) (fault : Fault) → OnlyReads old mid → BlamesNetlist mid job fault → BlamesNetlist old job fault
netlist_blamed old mid job (TooLong file) reads blames = blames
netlist_blamed old mid job (Verilog fault) reads blames = record {
  bytes = blames.bytes;
  first = blames.first;
  are = λ text is. blames.are text (reads.contents job.netlist text is);
}
netlist_blamed old mid job (NotBuilt file) reads blames = blames

-- ---- what is said of the bytes of a netlist, said of the file that they were read of

module _ (told : Told) (job : Job) (bytes : List ℕ) (within : length bytes ≤ file_limit) (are : (text : List ℕ) → told.content job.netlist ≡ Some text → bytes ≡ text) where
  has_bytes : (text : List ℕ) → told.content job.netlist ≡ Some text → HasText told job.netlist bytes
  has_bytes text is = record { content = is ∙ ap Some (sym (are text is)); within = within }

  pub bytes_blamed : (fault : Fault) → RefusesText job bytes fault → BlamesNetlist told job fault
  bytes_blamed (TooLong file) refuses = absurd refuses
  bytes_blamed (Verilog fault) refuses = record { bytes = bytes; first = refuses; are = are }
  bytes_blamed (NotBuilt file) refuses = refuses.1

  pub bytes_refused : (fault : Fault) → RefusesText job bytes fault → (text : List ℕ) → told.content job.netlist ≡ Some text → RefusesNetlist told job fault
  bytes_refused (TooLong file) refuses text is = absurd refuses
  bytes_refused (Verilog fault) refuses text is = record { text = bytes; has = has_bytes text is; first = refuses }
  bytes_refused (NotBuilt file) refuses text is = (record { text = bytes; has = has_bytes text is; is = refuses.0 }, refuses.1)
