-- An answer that is right after the reading is right from its beginning on, and an answer that is right is the one that the work comes to.
use Rattle.std.proofs.Common.{◌≡◌, ◌≢◌, ◌⊎◌, inl, inr, ℕ, List, Some, refl, ap, subst, sym}
use Rattle.hold_files.specs.Told.{Told, Keeps, OnlyReads}
use Rattle.hold_cli.specs.declared.job_form.Job.{Job}
use Rattle.hold_cli.specs.declared.outcome.Fault.{Fault}
use Rattle.hold_cli.specs.declared.outcome.Outcome.{Outcome}
use Rattle.hold_cli.specs.declared.outcome.Outcome.TheVariants.{Repaired, NeedsPadding, Input, ReadFault, WriteFault, Memory, Words}
use Rattle.hold_netlist.specs.Design.{Design}
use Rattle.hold_netlist.specs.CanonicalText.{canonical_text}
use Rattle.hold_cli.specs.Command.{IsRepair}
use Rattle.hold_cli.specs.Outcome.{GivesUp}
use Rattle.hold_cli.specs.Front.{IsJobAt, IsJobRead, IsNetlistRead, IsBuilt, BlamesNetlist, Blames, IsTold, RefusesJob, Refuses, IsFront}
use Rattle.hold_cli.specs.RefusalLine.{refusal_line}
use Rattle.hold_cli.specs.Texts.{Ready, NotAmong, IsDone}
use Rattle.hold_cli.specs.Answer.{only_line, repair_texts, IsVerdict, AreTexts, Comes}
use Rattle.hold_cli.specs.inner.Answer.{IsJudged, IsAnswer, IsRefusal, IsDelivery}
use Rattle.hold_cli.proofs.TextsLemmas.{IsDone-after, Fails-after, Fails-keeps}
use Rattle.hold_cli.proofs.JobApart.{IsJobText-apart}
use Rattle.hold_cli.proofs.JobFormLemmas.{IsJobText-unique}
use Rattle.hold_cli.specs.JobForm.{IsJobText}
use Rattle.hold_cli.proofs.FrontLemmas.{refused_told, refused_or_front, one_fault}

-- a verdict with its texts comes of what the files hold, if they are told
verdict_comes : (old : Told) (name : List ℕ) (job : Job) (netlist : Design) (verdict : Outcome) (ready : Ready) → IsFront old name job netlist
    → IsVerdict job netlist verdict ready → Comes old name verdict ready
verdict_comes old name job netlist (Repaired cost) ready front is = (job, netlist, front, is)
verdict_comes old name job netlist (NeedsPadding path short) ready front is = (job, netlist, front, is)
verdict_comes old name job netlist (Input fault) ready front never = absurd never
verdict_comes old name job netlist (ReadFault file) ready front never = absurd never
verdict_comes old name job netlist WriteFault ready front never = absurd never
verdict_comes old name job netlist Memory ready front never = absurd never
verdict_comes old name job netlist Words ready front never = absurd never

module _ (old mid new : Told) (name : List ℕ) (job : Job) (netlist : Design) (reads : OnlyReads old mid) (read : IsJobRead old name job)
    (netlist_read : IsNetlistRead old job netlist) (built : IsBuilt job netlist) (front : IsTold old name → IsFront old name job netlist) where
  judged : (outcome : Outcome) (ready : Ready) → IsVerdict job netlist outcome ready → IsDone mid new ready → IsJudged old new name outcome
  judged outcome ready verdict done = record {
    job = job;
    netlist = netlist;
    ready = ready;
    read = read;
    netlist_read = netlist_read;
    built = built;
    verdict = verdict;
    done = IsDone-after old mid new ready reads done;
    front = front;
  }

  pub delivered : (outcome : Outcome) → IsDelivery mid new job netlist outcome → IsAnswer old new name outcome
  delivered (Repaired cost) is = judged (Repaired cost) is.0 is.1 is.2
  delivered (NeedsPadding path short) is = judged (NeedsPadding path short) is.0 is.1 is.2
  delivered WriteFault is = record {
    ready = is.1;
    fails = Fails-after old mid new is.1 reads is.3;
    texts = inr (job, netlist, is.0, read, netlist_read, built, is.2);
    comes = λ told. (is.0, verdict_comes old name job netlist is.0 is.1 (front told) is.2);
  }
  delivered Memory same = subst (λ (t : Told). OnlyReads old t) same reads
  delivered (Input fault) never = absurd never
  delivered (ReadFault file) never = absurd never
  delivered Words never = absurd never

pub refused : (old mid new : Told) (name : List ℕ) (fault : Fault) (outcome : Outcome) → OnlyReads old mid
    → (IsTold old name → Refuses old name fault)
    → ((text : List ℕ) → old.content name ≡ Some text → RefusesJob old name fault ⊎ ((job : Job) × IsJobAt old name job × BlamesNetlist old job fault))
    → Blames old name fault → IsRefusal mid new fault outcome → IsAnswer old new name outcome
refused old mid new name fault (Input answered) reads refuses first blames done = record {
  refuses = λ told. subst (λ (f : Fault). Refuses old name f) (sym done.0) (refuses told);
  first = subst (λ (f : Fault). (text : List ℕ) → old.content name ≡ Some text → RefusesJob old name f ⊎ ((job : Job) × IsJobAt old name job × BlamesNetlist old job f)) (sym done.0) first;
  blames = subst (λ (f : Fault). Blames old name f) (sym done.0) blames;
  done = subst (λ (f : Fault). IsDone old new (only_line (refusal_line f))) (sym done.0) (IsDone-after old mid new (only_line (refusal_line fault)) reads done.1);
}
refused old mid new name fault WriteFault reads refuses first blames fails = record {
  ready = only_line (refusal_line fault);
  fails = Fails-after old mid new (only_line (refusal_line fault)) reads (inr fails);
  texts = inl (fault, first, blames, refl);
  comes = λ told. (Input fault, (refuses told, refl));
}
refused old mid new name fault Memory reads refuses first blames same = subst (λ (t : Told). OnlyReads old t) same reads
refused old mid new name fault (Repaired cost) reads refuses first blames never = absurd never
refused old mid new name fault (NeedsPadding path short) reads refuses first blames never = absurd never
refused old mid new name fault (ReadFault file) reads refuses first blames never = absurd never
refused old mid new name fault Words reads refuses first blames never = absurd never

-- words name one job
pub one_repair : (words : List (List ℕ)) (a b : List ℕ) → IsRepair words a → IsRepair words b → a ≡ b
one_repair words a b first second = let e = first.words_are in let f = second.words_are in cc

-- what is refused is not judged
refused_or_judged : (old new : Told) (name : List ℕ) (fault : Fault) (outcome : Outcome) → IsJudged old new name outcome → Refuses old name fault → ⊥
refused_or_judged old new name fault outcome answer refuses =
    refused_or_front old name fault answer.job answer.netlist refuses (answer.front (refused_told old name fault refuses))

refused_alone : (old new : Told) (name : List ℕ) (fault : Fault) (outcome : Outcome) → IsAnswer old new name outcome → Refuses old name fault
    → (outcome ≡ Input fault) ⊎ GivesUp outcome
refused_alone old new name fault (Repaired cost) answer refuses = absurd (refused_or_judged old new name fault (Repaired cost) answer refuses)
refused_alone old new name fault (NeedsPadding path short) answer refuses = absurd (refused_or_judged old new name fault (NeedsPadding path short) answer refuses)
refused_alone old new name fault (Input other) answer refuses =
    inl (ap Input (one_fault old name other fault (answer.refuses (refused_told old name fault refuses)) refuses))
refused_alone old new name fault (ReadFault file) answer refuses = inr tt
refused_alone old new name fault WriteFault answer refuses = inr tt
refused_alone old new name fault Memory answer refuses = inr tt
refused_alone old new name fault Words answer refuses = absurd answer

pub only_refused : (old new : Told) (words : List (List ℕ)) (named name : List ℕ) (fault : Fault) (outcome : Outcome) → IsRepair words named → IsAnswer old new named outcome
    → IsRepair words name → Refuses old name fault → (outcome ≡ Input fault) ⊎ GivesUp outcome
only_refused old new words named name fault outcome repair answer other refuses =
    refused_alone old new named fault outcome answer (subst (λ (n : List ℕ). Refuses old n fault) (one_repair words name named other repair) refuses)

-- a file that a job keeps apart from what it writes is among no texts
input_apart : (job : Job) (text file : List ℕ) → job.certificate ≢ file → job.output ≢ file → NotAmong file (repair_texts job text).files
input_apart job text file certificate output = (λ e. certificate (sym e), (λ e. output (sym e), tt))

verdict_apart : (job : Job) (netlist : Design) (verdict : Outcome) (ready : Ready) (file : List ℕ) → job.certificate ≢ file → job.output ≢ file
    → IsVerdict job netlist verdict ready → NotAmong file ready.files
verdict_apart job netlist (Repaired cost) ready file certificate output is =
    subst (λ (r : Ready). NotAmong file r.files) (sym is.2) (input_apart job (canonical_text netlist) file certificate output)
verdict_apart job netlist (NeedsPadding path short) ready file certificate output is = subst (λ (r : Ready). NotAmong file r.files) (sym is.1) tt
verdict_apart job netlist (Input fault) ready file certificate output never = absurd never
verdict_apart job netlist (ReadFault other) ready file certificate output never = absurd never
verdict_apart job netlist WriteFault ready file certificate output never = absurd never
verdict_apart job netlist Memory ready file certificate output never = absurd never
verdict_apart job netlist Words ready file certificate output never = absurd never

texts_apart : (old : Told) (name file : List ℕ) (ready : Ready) → AreTexts old name ready
    → ((job : Job) → IsJobRead old name job → (job.certificate ≢ file) × (job.output ≢ file)) → NotAmong file ready.files
texts_apart old name file ready (inl refusal) apart = subst (λ (r : Ready). NotAmong file r.files) (sym refusal.3) tt
texts_apart old name file ready (inr is) apart =
    let both = apart is.0 is.3 in
    verdict_apart is.0 is.1 is.2 ready file both.0 both.1 is.6

judged_kept : (old new : Told) (name file : List ℕ) (outcome : Outcome) → IsJudged old new name outcome
    → ((job : Job) → IsJobRead old name job → (job.certificate ≢ file) × (job.output ≢ file)) → Keeps old new file
judged_kept old new name file outcome answer apart =
    let both = apart answer.job answer.read in
    answer.done.others file (verdict_apart answer.job answer.netlist outcome answer.ready file both.0 both.1 answer.verdict)

-- a file that every job that may have been read keeps apart stays as it was
input_kept : (old new : Told) (name file : List ℕ) (outcome : Outcome) → IsAnswer old new name outcome
    → ((job : Job) → IsJobRead old name job → (job.certificate ≢ file) × (job.output ≢ file)) → Keeps old new file
input_kept old new name file (Repaired cost) answer apart = judged_kept old new name file (Repaired cost) answer apart
input_kept old new name file (NeedsPadding path short) answer apart = judged_kept old new name file (NeedsPadding path short) answer apart
input_kept old new name file (Input fault) answer apart = answer.done.others file tt
input_kept old new name file (ReadFault other) answer apart = answer.only.contents file
input_kept old new name file WriteFault answer apart = Fails-keeps old new answer.ready file (texts_apart old name file answer.ready answer.texts apart) answer.fails
input_kept old new name file Memory answer apart = answer.contents file
input_kept old new name file Words answer apart = absurd answer

job_apart : (old : Told) (name : List ℕ) (job : Job) → IsJobRead old name job → (job.certificate ≢ name) × (job.output ≢ name)
job_apart old name job read = let files = IsJobText-apart read.bytes name job read.says in (files.certificate_own, files.output_own)

netlist_apart : (old : Told) (name : List ℕ) (job other : Job) → IsJobAt old name job → IsJobRead old name other
    → (other.certificate ≢ job.netlist) × (other.output ≢ job.netlist)
netlist_apart old name job other at read =
    let bytes = read.are at.text at.has.content in
    let says : IsJobText at.text name other = subst (λ (t : List ℕ). IsJobText t name other) bytes read.says in
    let same : job ≡ other = IsJobText-unique at.text name job other at.says says in
    let files = IsJobText-apart at.text name other says in
    subst (λ (j : Job). (other.certificate ≢ j.netlist) × (other.output ≢ j.netlist)) (sym same) (files.certificate_netlist, files.output_netlist)

pub job_stays : (old new : Told) (words : List (List ℕ)) (named name : List ℕ) (outcome : Outcome) → IsRepair words named → IsAnswer old new named outcome
    → IsRepair words name → Keeps old new name
job_stays old new words named name outcome repair answer other =
    subst (λ (n : List ℕ). Keeps old new n) (one_repair words named name repair other) (input_kept old new named named outcome answer (job_apart old named))

pub netlist_stays : (old new : Told) (words : List (List ℕ)) (named name : List ℕ) (job : Job) (outcome : Outcome) → IsRepair words named → IsAnswer old new named outcome
    → IsRepair words name → IsJobAt old name job → Keeps old new job.netlist
netlist_stays old new words named name job outcome repair answer other at =
    let here : IsJobAt old named job = subst (λ (n : List ℕ). IsJobAt old n job) (one_repair words name named other repair) at in
    input_kept old new named job.netlist outcome answer (λ j. netlist_apart old named job j here)
