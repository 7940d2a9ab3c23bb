-- Where no call failed that the work makes, the verdict on a netlist that nothing refuses is answered, unless memory ran out.
use Rattle.std.proofs.Common.{◌≡◌, ◌⊎◌, inl, inr, ℕ, ℤ, List, [], ◌∷◌, ◌++◌, refl, ap, sym, subst}
use Rattle.hold_base.proofs.Lists.{append-nil_right}
use Rattle.hold_files.specs.Told.{Told, Rose}
use Rattle.hold_cli.specs.declared.job_form.Job.{Job}
use Rattle.hold_cli.specs.declared.outcome.Outcome.{Outcome}
use Rattle.hold_cli.specs.declared.outcome.Outcome.TheVariants.{Repaired, NeedsPadding, Input, ReadFault, WriteFault, Memory, Words}
use Rattle.hold_graph.specs.declared.problem.Listed.{Listed}
use Rattle.hold_netlist.specs.Design.{Design}
use Rattle.hold_netlist.specs.CanonicalText.{canonical_text}
use Rattle.hold_cli.specs.Command.{IsRepair}
use Rattle.hold_cli.specs.Front.{IsJobAt, ComesTo, IsFront}
use Rattle.hold_cli.specs.PaddingLine.{padding_line}
use Rattle.hold_cli.specs.Texts.{Ready, FailsInFile, Fails}
use Rattle.hold_cli.specs.Answer.{only_line, repair_texts, whole_certificate, Comes, IsCalm}
use Rattle.hold_cli.specs.inner.Answer.{IsAnswer}
use Rattle.hold_cli.proofs.FrontLemmas.{one_job_at, front_told, refused_or_front}
use Rattle.hold_cli.proofs.Answers.{one_repair}

-- an item between two lists that make a list of two has the name of one of the two
one_of_two : (a b x : List ℕ × List ℕ) (done rest : List (List ℕ × List ℕ)) → a ∷ b ∷ [] ≡ done ++ x ∷ rest → (x.0 ≡ a.0) ⊎ (x.0 ≡ b.0)
one_of_two a b x [] rest e = let same : x ≡ a = cc in inl (ap (λ (f : List ℕ × List ℕ). f.0) same)
one_of_two a b x (c ∷ []) rest e = let same : x ≡ b = cc in inr (ap (λ (f : List ℕ × List ℕ). f.0) same)
one_of_two a b x (c ∷ d ∷ []) rest e = cc
one_of_two a b x (c ∷ d ∷ f ∷ done) rest e = cc

calm_read : (old new : Told) (name file : List ℕ) (job : Job) → IsCalm old new name job → IsJobAt old name job
    → Rose (old.read_faults file) (new.read_faults file) → ComesTo old name file → ⊥
calm_read old new name file job calm at rose (inl is) =
    calm.job_read (subst (λ (f : List ℕ). Rose (old.read_faults f) (new.read_faults f)) is rose)
calm_read old new name file job calm at rose (inr found) =
    let same : found.0 ≡ job = one_job_at old name found.0 job found.1 at in
    calm.netlist_read (subst (λ (j : Job). Rose (old.read_faults j.netlist) (new.read_faults j.netlist)) same
    (subst (λ (f : List ℕ). Rose (old.read_faults f) (new.read_faults f)) found.2 rose))

calm_file : (old new : Told) (name text : List ℕ) (job : Job) → IsCalm old new name job → FailsInFile old new (repair_texts job text) → ⊥
calm_file old new name text job calm fails =
    which (one_of_two (job.certificate, whole_certificate) (job.output, text) (fails.file, fails.text) fails.done fails.rest fails.parts)
  where
    which : (fails.file ≡ job.certificate) ⊎ (fails.file ≡ job.output) → ⊥
    which (inl is) = calm.certificate_written (subst (λ (f : List ℕ). Rose (old.write_faults f) (new.write_faults f)) is fails.cause)
    which (inr is) = calm.output_written (subst (λ (f : List ℕ). Rose (old.write_faults f) (new.write_faults f)) is fails.cause)

calm_texts : (old new : Told) (name text : List ℕ) (job : Job) → IsCalm old new name job → Fails old new (repair_texts job text) → ⊥
calm_texts old new name text job calm (inl fails) = calm_file old new name text job calm fails
calm_texts old new name text job calm (inr fails) = calm.line_said fails.cause

-- a line alone has no file that could fail
calm_line : (old new : Told) (name line : List ℕ) (job : Job) → IsCalm old new name job → Fails old new (only_line line) → ⊥
calm_line old new name line job calm (inl fails) =
    let none : (fails.file, fails.text) ∷ fails.rest ≡ [] = append-nil_right fails.done ((fails.file, fails.text) ∷ fails.rest) (sym fails.parts) in cc
calm_line old new name line job calm (inr fails) = calm.line_said fails.cause

calm_comes : (old new : Told) (name : List ℕ) (job : Job) (netlist : Design) (outcome : Outcome) (ready : Ready) → IsFront old name job netlist
    → IsCalm old new name job → Comes old name outcome ready → Fails old new ready → ⊥
calm_comes old new name job netlist (Input fault) ready front calm comes fails = refused_or_front old name fault job netlist comes.0 front
calm_comes old new name job netlist (Repaired cost) ready front calm comes fails =
    let same : comes.0 ≡ job = one_job_at old name comes.0 job comes.2.at front.at in
    let texts : Fails old new (repair_texts comes.0 (canonical_text comes.1)) = subst (λ (r : Ready). Fails old new r) comes.3.2 fails in
    calm_texts old new name (canonical_text comes.1) job calm (subst (λ (j : Job). Fails old new (repair_texts j (canonical_text comes.1))) same texts)
calm_comes old new name job netlist (NeedsPadding path short) ready front calm comes fails =
    calm_line old new name (padding_line comes.0 comes.1 path short) job calm (subst (λ (r : Ready). Fails old new r) comes.3.1 fails)
calm_comes old new name job netlist (ReadFault file) ready front calm comes fails = comes
calm_comes old new name job netlist WriteFault ready front calm comes fails = comes
calm_comes old new name job netlist Memory ready front calm comes fails = comes
calm_comes old new name job netlist Words ready front calm comes fails = comes

-- what a calm run comes to
abbrev pub IsComplete : Outcome → Type 0
IsComplete outcome = (outcome ≡ Repaired 0) ⊎ ((path : Listed) × (short : ℤ) × (outcome ≡ NeedsPadding path short)) ⊎ (outcome ≡ Memory)

calm_answer : (old new : Told) (name : List ℕ) (job : Job) (netlist : Design) (outcome : Outcome) → IsAnswer old new name outcome → IsFront old name job netlist
    → IsCalm old new name job → IsComplete outcome
calm_answer old new name job netlist (Repaired cost) answer front calm = inl (ap Repaired answer.verdict.0)
calm_answer old new name job netlist (NeedsPadding path short) answer front calm = inr (inl (path, short, refl))
calm_answer old new name job netlist (Input fault) answer front calm =
    absurd (refused_or_front old name fault job netlist (answer.refuses (front_told old name job netlist front)) front)
calm_answer old new name job netlist (ReadFault file) answer front calm =
    absurd (calm_read old new name file job calm front.at answer.cause (answer.comes front.at.text front.at.has.content))
calm_answer old new name job netlist WriteFault answer front calm =
    let comes = answer.comes (front_told old name job netlist front) in
    absurd (calm_comes old new name job netlist comes.0 answer.ready front calm comes.1 answer.fails)
calm_answer old new name job netlist Memory answer front calm = inr (inr refl)
calm_answer old new name job netlist Words answer front calm = absurd answer

pub complete : (old new : Told) (words : List (List ℕ)) (named name : List ℕ) (job : Job) (netlist : Design) (outcome : Outcome) → IsRepair words named
    → IsAnswer old new named outcome → IsRepair words name → IsFront old name job netlist → IsCalm old new name job
    → IsComplete outcome
complete old new words named name job netlist outcome repair answer other front calm =
    let same = one_repair words named name repair other in
    calm_answer old new name job netlist outcome (subst (λ (n : List ℕ). IsAnswer old new n outcome) same answer) front calm
