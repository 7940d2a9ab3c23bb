-- The verdict on a job and its netlist, in the words of each answer, and which of the two verdicts it is.
use Rattle.std.proofs.Common.{◌≡◌, ◌⊎◌, inl, inr, ℕ, List, refl, ap, subst, arith}
use Rattle.std.specs.Prelude.{ℤ}
use Rattle.std.proofs.lemmas.Int.{ints}
use Rattle.hold_files.specs.Told.{Told, OnlyReads}
use Rattle.hold_cli.specs.declared.job_form.Job.{Job}
use Rattle.hold_cli.specs.declared.outcome.Fault.{Fault}
use Rattle.hold_cli.specs.declared.outcome.Outcome.{Outcome}
use Rattle.hold_cli.specs.declared.outcome.Outcome.TheVariants.{Repaired, NeedsPadding, Input, ReadFault, WriteFault, Memory, Words}
use Rattle.hold_graph.specs.declared.problem.Listed.{Listed}
use Rattle.hold_graph.specs.declared.problem.Problem.{Problem}
use Rattle.hold_graph.specs.Sums.{Buffers, no_buffers}
use Rattle.hold_graph.specs.Met.{IsMet, Misses}
use Rattle.hold_netlist.specs.Design.{Design}
use Rattle.hold_netlist.specs.CanonicalText.{canonical_text}
use Rattle.hold_vparse.specs.Reads.{Reads}
use Rattle.hold_vround.proofs.CanonicalReads.{canonical_reads}
use Rattle.hold_plain.specs.Problem.{problem_of}
use Rattle.hold_cli.specs.Command.{IsRepair}
use Rattle.hold_cli.specs.Outcome.{GivesUp}
use Rattle.hold_cli.specs.Front.{IsJobRead, IsNetlistRead, IsBuilt, Blames, ComesToRead, IsTold, IsFront}
use Rattle.hold_cli.specs.PaddingLine.{padding_line}
use Rattle.hold_cli.specs.Texts.{Ready, IsDone, Fails, SaysNothing}
use Rattle.hold_cli.specs.Answer.{only_line, repair_texts, AreTexts}
use Rattle.hold_cli.specs.inner.Answer.{IsJudged, IsRefused, IsUnread, IsUnwritten, IsAnswer}
use Rattle.hold_cli.proofs.FrontLemmas.{front_told, refused_or_front, one_front}
use Rattle.hold_cli.proofs.Answers.{one_repair}
use Rattle.hold_cli.proofs.TextsLemmas.{SaysNothing-reads}

-- a path that misses its check shows that not all are met
pub misses_or_met : (problem : Problem) (buffers : Buffers) (path : Listed) (short : ℤ) → Misses problem buffers path short → IsMet problem buffers → ⊥
misses_or_met problem buffers path short misses met =
    omega (arith, ints, met path.corner.0 misses.spans misses.corner path.side path.pins misses.checked, misses.above, misses.by)

-- a netlist that needs no buffer, or one of which a path needs padding
met_alone : (old new : Told) (name : List ℕ) (job : Job) (netlist : Design) (outcome : Outcome) → IsAnswer old new name outcome → IsFront old name job netlist
    → IsMet (problem_of job.timing netlist) no_buffers → (outcome ≡ Repaired 0) ⊎ GivesUp outcome
met_alone old new name job netlist (Repaired cost) answer front met = inl (ap Repaired answer.verdict.0)
met_alone old new name job netlist (NeedsPadding path short) answer front met =
    let same = one_front old name job answer.job netlist answer.netlist front (answer.front (front_told old name job netlist front)) in
    let misses : Misses (problem_of job.timing answer.netlist) no_buffers path short =
    subst (λ (j : Job). Misses (problem_of j.timing answer.netlist) no_buffers path short) same.0 answer.verdict.0 in
    let here : Misses (problem_of job.timing netlist) no_buffers path short =
    subst (λ (d : Design). Misses (problem_of job.timing d) no_buffers path short) same.1 misses in
    absurd (misses_or_met (problem_of job.timing netlist) no_buffers path short here met)
met_alone old new name job netlist (Input fault) answer front met =
    absurd (refused_or_front old name fault job netlist (answer.refuses (front_told old name job netlist front)) front)
met_alone old new name job netlist (ReadFault file) answer front met = inr tt
met_alone old new name job netlist WriteFault answer front met = inr tt
met_alone old new name job netlist Memory answer front met = inr tt
met_alone old new name job netlist Words answer front met = absurd answer

missed_alone : (old new : Told) (name : List ℕ) (job : Job) (netlist : Design) (outcome : Outcome) → IsAnswer old new name outcome → IsFront old name job netlist
    → (IsMet (problem_of job.timing netlist) no_buffers → ⊥) → ((path : Listed) × (short : ℤ) × (outcome ≡ NeedsPadding path short)) ⊎ GivesUp outcome
missed_alone old new name job netlist (NeedsPadding path short) answer front missed = inl (path, short, refl)
missed_alone old new name job netlist (Repaired cost) answer front missed =
    let same = one_front old name job answer.job netlist answer.netlist front (answer.front (front_told old name job netlist front)) in
    let met : IsMet (problem_of job.timing answer.netlist) no_buffers =
    subst (λ (j : Job). IsMet (problem_of j.timing answer.netlist) no_buffers) same.0 answer.verdict.1 in
    absurd (missed (subst (λ (d : Design). IsMet (problem_of job.timing d) no_buffers) same.1 met))
missed_alone old new name job netlist (Input fault) answer front missed =
    absurd (refused_or_front old name fault job netlist (answer.refuses (front_told old name job netlist front)) front)
missed_alone old new name job netlist (ReadFault file) answer front missed = inr tt
missed_alone old new name job netlist WriteFault answer front missed = inr tt
missed_alone old new name job netlist Memory answer front missed = inr tt
missed_alone old new name job netlist Words answer front missed = absurd answer

-- The answer to words that name a job.
module _ (old new : Told) (words : List (List ℕ)) (named : List ℕ) (outcome : Outcome) (repair : IsRepair words named) (answer : IsAnswer old new named outcome) where
  answer_to : (name : List ℕ) → IsRepair words name → IsAnswer old new name outcome
  answer_to name other = subst (λ (n : List ℕ). IsAnswer old new n outcome) (one_repair words named name repair other) answer

  answer_is : (name : List ℕ) → IsRepair words name → (verdict : Outcome) → outcome ≡ verdict → IsAnswer old new name verdict
  answer_is name other verdict is = subst (λ (o : Outcome). IsAnswer old new name o) is (answer_to name other)

  pub repaired : (name : List ℕ) (cost : ℕ) → IsRepair words name → IsTold old name → outcome ≡ Repaired cost
      → (job : Job) × (netlist : Design) × IsFront old name job netlist × (cost ≡ 0) × IsMet (problem_of job.timing netlist) no_buffers
      × IsDone old new (repair_texts job (canonical_text netlist)) × Reads (canonical_text netlist) netlist
  repaired name cost other told is =
      let a : IsJudged old new name (Repaired cost) = answer_is name other (Repaired cost) is in
      (a.job, a.netlist, a.front told, a.verdict.0, a.verdict.1, subst (λ (r : Ready). IsDone old new r) a.verdict.2 a.done, canonical_reads a.netlist a.built.valid)

  pub repaired_texts : (name : List ℕ) (cost : ℕ) → IsRepair words name → outcome ≡ Repaired cost
      → (job : Job) × (netlist : Design) × IsJobRead old name job × IsNetlistRead old job netlist × IsBuilt job netlist × (cost ≡ 0) × IsMet (problem_of job.timing netlist) no_buffers
      × IsDone old new (repair_texts job (canonical_text netlist)) × Reads (canonical_text netlist) netlist
  repaired_texts name cost other is =
      let a : IsJudged old new name (Repaired cost) = answer_is name other (Repaired cost) is in
      (a.job, a.netlist, a.read, a.netlist_read, a.built, a.verdict.0, a.verdict.1, subst (λ (r : Ready). IsDone old new r) a.verdict.2 a.done, canonical_reads a.netlist a.built.valid)

  pub needs_padding : (name : List ℕ) (path : Listed) (short : ℤ) → IsRepair words name → IsTold old name → outcome ≡ NeedsPadding path short
      → (job : Job) × (netlist : Design) × IsFront old name job netlist × Misses (problem_of job.timing netlist) no_buffers path short
      × IsDone old new (only_line (padding_line job netlist path short))
  needs_padding name path short other told is =
      let a : IsJudged old new name (NeedsPadding path short) = answer_is name other (NeedsPadding path short) is in
      (a.job, a.netlist, a.front told, a.verdict.0, subst (λ (r : Ready). IsDone old new r) a.verdict.1 a.done)

  pub padding_said : (name : List ℕ) (path : Listed) (short : ℤ) → IsRepair words name → outcome ≡ NeedsPadding path short
      → (job : Job) × (netlist : Design) × IsJobRead old name job × IsNetlistRead old job netlist × IsBuilt job netlist × Misses (problem_of job.timing netlist) no_buffers path short
      × IsDone old new (only_line (padding_line job netlist path short))
  padding_said name path short other is =
      let a : IsJudged old new name (NeedsPadding path short) = answer_is name other (NeedsPadding path short) is in
      (a.job, a.netlist, a.read, a.netlist_read, a.built, a.verdict.0, subst (λ (r : Ready). IsDone old new r) a.verdict.1 a.done)

  pub only_repaired : (name : List ℕ) (job : Job) (netlist : Design) → IsRepair words name → IsFront old name job netlist
      → IsMet (problem_of job.timing netlist) no_buffers → (outcome ≡ Repaired 0) ⊎ GivesUp outcome
  only_repaired name job netlist other front met = met_alone old new name job netlist outcome (answer_to name other) front met

  pub only_needs_padding : (name : List ℕ) (job : Job) (netlist : Design) → IsRepair words name → IsFront old name job netlist
      → (IsMet (problem_of job.timing netlist) no_buffers → ⊥) → ((path : Listed) × (short : ℤ) × (outcome ≡ NeedsPadding path short)) ⊎ GivesUp outcome
  only_needs_padding name job netlist other front missed = missed_alone old new name job netlist outcome (answer_to name other) front missed

  pub write_texts : (name : List ℕ) → IsRepair words name → outcome ≡ WriteFault → (ready : Ready) × AreTexts old name ready × Fails old new ready
  write_texts name other is =
      let a : IsUnwritten old new name = answer_is name other WriteFault is in
      (a.ready, a.texts, a.fails)

  pub read_named : (name file : List ℕ) → IsRepair words name → outcome ≡ ReadFault file → ComesToRead old name file
  read_named name file other is =
      let a : IsUnread old new name file = answer_is name other (ReadFault file) is in
      a.named

  pub refused_named : (name : List ℕ) (fault : Fault) → IsRepair words name → outcome ≡ Input fault → Blames old name fault
  refused_named name fault other is =
      let a : IsRefused old new name fault = answer_is name other (Input fault) is in
      a.blames

  pub only_read : (file : List ℕ) → outcome ≡ ReadFault file → OnlyReads old new
  only_read file is =
      let a : IsUnread old new named file = answer_is named repair (ReadFault file) is in
      a.only

  pub unread : (file : List ℕ) → outcome ≡ ReadFault file → SaysNothing old new
  unread file is = SaysNothing-reads old new (only_read file is)

  pub unwritten : outcome ≡ Memory → OnlyReads old new
  unwritten is = answer_is named repair Memory is

  pub unchanged : outcome ≡ Memory → SaysNothing old new
  unchanged is = SaysNothing-reads old new (unwritten is)
