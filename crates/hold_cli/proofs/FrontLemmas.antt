-- The order of work comes to one end: at most one fault is the first, and where there is one, nothing is left to repair.
use Rattle.std.proofs.Common.{◌≡◌, inl, inr, ℕ, List, Some, IsSome, arith, ap, sym, ◌∙◌, subst, refl, length}
use Rattle.hold_files.specs.Told.{Told}
use Rattle.hold_cli.specs.declared.job_form.Job.{Job}
use Rattle.hold_cli.specs.declared.outcome.Fault.{Fault}
use Rattle.hold_cli.specs.declared.outcome.Fault.TheVariants.{TooLong, Verilog, NotBuilt}
use Rattle.hold_cli.specs.JobForm.{IsJobText}
use Rattle.hold_cli.proofs.JobFormLemmas.{IsJobText-unique}
use Rattle.hold_netlist.specs.Design.{Design}
use Rattle.hold_vparse.specs.declared.fault.VerilogFault.{VerilogFault}
use Rattle.hold_vparse.specs.Reads.{Reads, IsFirstFault}
use Rattle.hold_vparse.proofs.OneReading.{one_netlist, reads_or_fault, one_first_fault}
use Rattle.hold_cli.specs.Front.{IsBuilt, HasText, IsTooLong, IsJobAt, IsNetlistAt, HasNoJob, HasNoNetlist, HasFault, IsTold, RefusesJob, RefusesNetlist, Refuses, IsFront}

one_text : (told : Told) (file a b : List ℕ) → told.content file ≡ Some a → told.content file ≡ Some b → a ≡ b
one_text told file a b first second = cc

-- one file holds one job
pub one_job_at : (told : Told) (name : List ℕ) (a b : Job) → IsJobAt told name a → IsJobAt told name b → a ≡ b
one_job_at told name a b first second =
    let same : second.text ≡ first.text = one_text told name second.text first.text second.has.content first.has.content in
    let other : IsJobText first.text name b = subst (λ (t : List ℕ). IsJobText t name b) same second.says in
    IsJobText-unique first.text name a b first.says other

long_or_held : (told : Told) (file text : List ℕ) → IsTooLong told file → HasText told file text → ⊥
long_or_held told file text long has =
    let same : long.text ≡ text = one_text told file long.text text long.content has.content in
    omega (arith, ap (length {A = ℕ}) same)

none_or_job : (told : Told) (name : List ℕ) (job : Job) → HasNoJob told name → IsJobAt told name job → ⊥
none_or_job told name job none at =
    let same : at.text ≡ none.text = one_text told name at.text none.text at.has.content none.has.content in
    none.none job (subst (λ (t : List ℕ). IsJobText t name job) same at.says)

none_or_netlist : (told : Told) (job : Job) (netlist : Design) → HasNoNetlist told job → IsBuilt job netlist → IsNetlistAt told job netlist → ⊥
none_or_netlist told job netlist none built held =
    let same : none.text ≡ held.text = one_text told job.netlist none.text held.text none.has.content held.has.content in
    let reads : Reads held.text none.is.netlist = subst (λ (t : List ℕ). Reads t none.is.netlist) same none.is.reads in
    let netlists : netlist ≡ none.is.netlist = one_netlist held.text netlist none.is.netlist held.reads reads in
    none.is.unbuilt (subst (λ (d : Design). IsBuilt job d) netlists built)

fault_or_netlist : (told : Told) (job : Job) (netlist : Design) (fault : VerilogFault) → HasFault told job fault → IsNetlistAt told job netlist → ⊥
fault_or_netlist told job netlist fault has held =
    let same : has.text ≡ held.text = one_text told job.netlist has.text held.text has.has.content held.has.content in
    reads_or_fault held.text netlist fault held.reads (subst (λ (t : List ℕ). IsFirstFault t fault) same has.first)

fault_or_none : (told : Told) (job : Job) (fault : VerilogFault) → HasFault told job fault → HasNoNetlist told job → ⊥
fault_or_none told job fault has none =
    let same : has.text ≡ none.text = one_text told job.netlist has.text none.text has.has.content none.has.content in
    reads_or_fault none.text none.is.netlist fault none.is.reads (subst (λ (t : List ℕ). IsFirstFault t fault) same has.first)

one_file_fault : (told : Told) (job : Job) (a b : VerilogFault) → HasFault told job a → HasFault told job b → a ≡ b
one_file_fault told job a b first second =
    let same : first.text ≡ second.text = one_text told job.netlist first.text second.text first.has.content second.has.content in
    one_first_fault second.text a b (subst (λ (t : List ℕ). IsFirstFault t a) same first.first) second.first

-- a job that is refused is no job
refused_or_job : (told : Told) (name : List ℕ) (fault : Fault) (job : Job) → RefusesJob told name fault → IsJobAt told name job → ⊥
refused_or_job told name (TooLong file) job refuses at = long_or_held told name at.text refuses.0 at.has
refused_or_job told name (Verilog fault) job refuses at = refuses
refused_or_job told name (NotBuilt file) job refuses at = none_or_job told name job refuses.0 at

refused_or_netlist : (told : Told) (job : Job) (fault : Fault) (netlist : Design) → RefusesNetlist told job fault → IsBuilt job netlist
    → IsNetlistAt told job netlist → ⊥
refused_or_netlist told job (TooLong file) netlist refuses built held = long_or_held told job.netlist held.text refuses.0 held.has
refused_or_netlist told job (Verilog fault) netlist refuses built held = fault_or_netlist told job netlist fault refuses held
refused_or_netlist told job (NotBuilt file) netlist refuses built held = none_or_netlist told job netlist refuses.0 built held

told_some : (told : Told) (file text : List ℕ) → told.content file ≡ Some text → IsSome (told.content file)
told_some told file text is = rw is refl

refused_job_told : (told : Told) (name : List ℕ) (fault : Fault) → RefusesJob told name fault → IsSome (told.content name)
refused_job_told told name (TooLong file) refuses = told_some told name refuses.0.text refuses.0.content
refused_job_told told name (Verilog fault) refuses = absurd refuses
refused_job_told told name (NotBuilt file) refuses = told_some told name refuses.0.text refuses.0.has.content

refused_netlist_told : (told : Told) (job : Job) (fault : Fault) → RefusesNetlist told job fault → IsSome (told.content job.netlist)
refused_netlist_told told job (TooLong file) refuses = told_some told job.netlist refuses.0.text refuses.0.content
refused_netlist_told told job (Verilog fault) refuses = told_some told job.netlist refuses.text refuses.has.content
refused_netlist_told told job (NotBuilt file) refuses = told_some told job.netlist refuses.0.text refuses.0.has.content

-- what is refused was told
pub refused_told : (told : Told) (name : List ℕ) (fault : Fault) → Refuses told name fault → IsTold told name
refused_told told name fault (inl refuses) = record {
  job = refused_job_told told name fault refuses;
  netlist = λ job at. absurd (refused_or_job told name fault job refuses at);
}
refused_told told name fault (inr found) = record {
  job = told_some told name found.1.text found.1.has.content;
  netlist = λ job at. subst (λ (j : Job). IsSome (told.content j.netlist)) (one_job_at told name found.0 job found.1 at)
      (refused_netlist_told told found.0 fault found.2);
}

pub front_told : (told : Told) (name : List ℕ) (job : Job) (netlist : Design) → IsFront told name job netlist → IsTold told name
front_told told name job netlist front = record {
  job = told_some told name front.at.text front.at.has.content;
  netlist = λ other at. subst (λ (j : Job). IsSome (told.content j.netlist)) (one_job_at told name job other front.at at)
      (told_some told job.netlist front.held.text front.held.has.content);
}

-- what is refused is not repaired
pub refused_or_front : (told : Told) (name : List ℕ) (fault : Fault) (job : Job) (netlist : Design) → Refuses told name fault
    → IsFront told name job netlist → ⊥
refused_or_front told name fault job netlist (inl refuses) front = refused_or_job told name fault job refuses front.at
refused_or_front told name fault job netlist (inr found) front =
    let same : found.0 ≡ job = one_job_at told name found.0 job found.1 front.at in
    refused_or_netlist told job fault netlist (subst (λ (j : Job). RefusesNetlist told j fault) same found.2) front.built front.held

job_fault : (told : Told) (name : List ℕ) (a b : Fault) → RefusesJob told name a → RefusesJob told name b → a ≡ b
job_fault told name (TooLong file) (TooLong other) first second = ap TooLong (first.1 ∙ sym second.1)
job_fault told name (NotBuilt file) (NotBuilt other) first second = ap NotBuilt (first.1 ∙ sym second.1)
job_fault told name (TooLong file) (NotBuilt other) first second = absurd (long_or_held told name second.0.text first.0 second.0.has)
job_fault told name (NotBuilt file) (TooLong other) first second = absurd (long_or_held told name first.0.text second.0 first.0.has)
job_fault told name (Verilog fault) b first second = absurd first
job_fault told name (TooLong file) (Verilog fault) first second = absurd second
job_fault told name (NotBuilt file) (Verilog fault) first second = absurd second

netlist_fault : (told : Told) (job : Job) (a b : Fault) → RefusesNetlist told job a → RefusesNetlist told job b → a ≡ b
netlist_fault told job (TooLong file) (TooLong other) first second = ap TooLong (first.1 ∙ sym second.1)
netlist_fault told job (TooLong file) (Verilog fault) first second = absurd (long_or_held told job.netlist second.text first.0 second.has)
netlist_fault told job (TooLong file) (NotBuilt other) first second = absurd (long_or_held told job.netlist second.0.text first.0 second.0.has)
netlist_fault told job (Verilog fault) (TooLong other) first second = absurd (long_or_held told job.netlist first.text second.0 first.has)
netlist_fault told job (Verilog fault) (Verilog other) first second = ap Verilog (one_file_fault told job fault other first second)
netlist_fault told job (Verilog fault) (NotBuilt other) first second = absurd (fault_or_none told job fault first second.0)
netlist_fault told job (NotBuilt file) (TooLong other) first second = absurd (long_or_held told job.netlist first.0.text second.0 first.0.has)
netlist_fault told job (NotBuilt file) (Verilog fault) first second = absurd (fault_or_none told job fault second first.0)
netlist_fault told job (NotBuilt file) (NotBuilt other) first second = ap NotBuilt (first.1 ∙ sym second.1)

-- there is one first fault
pub one_fault : (told : Told) (name : List ℕ) (a b : Fault) → Refuses told name a → Refuses told name b → a ≡ b
one_fault told name a b (inl first) (inl second) = job_fault told name a b first second
one_fault told name a b (inl first) (inr found) = absurd (refused_or_job told name a found.0 first found.1)
one_fault told name a b (inr found) (inl second) = absurd (refused_or_job told name b found.0 second found.1)
one_fault told name a b (inr found) (inr other) =
    netlist_fault told other.0 a b (subst (λ (j : Job). RefusesNetlist told j a) (one_job_at told name found.0 other.0 found.1 other.1) found.2) other.2

-- the netlist that was read is the one that the files hold
pub one_front : (told : Told) (name : List ℕ) (job read_job : Job) (netlist read : Design) → IsFront told name job netlist
    → IsFront told name read_job read → (read_job ≡ job) × (read ≡ netlist)
one_front told name job read_job netlist read front now =
    let jobs : read_job ≡ job = one_job_at told name read_job job now.at front.at in
    let held : IsNetlistAt told job read = subst (λ (j : Job). IsNetlistAt told j read) jobs now.held in
    let same : held.text ≡ front.held.text = one_text told job.netlist held.text front.held.text held.has.content front.held.has.content in
    let reads : Reads front.held.text read = subst (λ (t : List ℕ). Reads t read) same held.reads in
    (jobs, one_netlist front.held.text read netlist reads front.held.reads)
