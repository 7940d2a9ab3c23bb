-- What a text gives is one job or one fault.
use Rattle.std.proofs.Common.{◌≡◌, ℕ, List, Some, None, ap, sym, ◌∙◌, inl, inr}
use Rattle.std.specs.Prelude.{Err}
use Rattle.std.proofs.lemmas.Option.{same_Some}
use Rattle.toml.specs.Data.{Members}
use Rattle.hold_base.specs.declared.stop.Stop.{Stop}
use Rattle.hold_base.specs.declared.stop.Stop.TheVariants.{Memory, Fault}
use Rattle.hold_base.specs.Answers.{Answers, IfStopFault}
use Rattle.hold_job.specs.declared.job.Job.{Job}
use Rattle.hold_job.specs.declared.fault.JobFault.{JobFault}
use Rattle.hold_job.specs.declared.fault.JobFault.TheVariants.{Toml}
use Rattle.hold_job.specs.Outcome.{Outcome}
use Rattle.hold_job.specs.Job.{job_of, at_top, IsTree, HasNoTree, Gives}
use Rattle.hold_job.specs.inner.Parts.{job_by_parts}
use Rattle.hold_job.specs.inner.Told.{IsToldAtTop}
use Rattle.hold_job.proofs.PartLemmas.{job_by_parts_is}

-- what a tree gives is what its text gives
pub given_by_tree : (own text : List ℕ) (tree : Members) (outcome : Outcome Job) → IsTree text tree → at_top (job_by_parts own tree) ≡ outcome → Gives own text outcome
given_by_tree own text tree outcome is e = inr (tree, is, sym e ∙ ap at_top (job_by_parts_is own tree))

-- and nothing else is
pub given_one : (own text : List ℕ) (tree : Members) (outcome : Outcome Job) → IsTree text tree → Gives own text outcome → outcome ≡ at_top (job_by_parts own tree)
given_one own text tree outcome is (inl (none, e)) = absurd (never (sym is.1 ∙ none is.0))
  where
    never : Some tree ≡ None → ⊥
    never h = cc
given_one own text tree outcome is (inr (other, known, e)) =
    let same : other ≡ tree = same_Some other tree (sym known.1 ∙ is.1) in
    e ∙ ap (λ t. job_of own t) same ∙ ap at_top (sym (job_by_parts_is own tree))

-- a text without a tree gives that fault alone
pub given_none : (own text : List ℕ) (outcome : Outcome Job) → HasNoTree text → Gives own text outcome → outcome ≡ Err Toml
given_none own text outcome no_tree (inl (none, e)) = e
given_none own text outcome no_tree (inr (tree, is, e)) = absurd (never (sym is.1 ∙ no_tree is.0))
  where
    never : Some tree ≡ None → ⊥
    never h = cc

-- a fault of a tree, as it is told of a job
pub told_fault : (own text : List ℕ) (tree : Members) (stop told : Stop JobFault) → IsTree text tree → Answers {X = Job} (Err stop) (job_by_parts own tree) → IsToldAtTop stop told
    → IfStopFault told (λ fault. Gives own text (Err fault))
told_fault own text tree Memory told is answers above = rw above tt
told_fault own text tree (Fault fault) Memory is answers above = tt
told_fault own text tree (Fault fault) (Fault other) is answers above =
    given_by_tree own text tree (Err other) is (ap at_top answers ∙ ap Err (sym above))

pub told_given : (own text : List ℕ) (tree : Members) (stop told : Stop JobFault) → IsTree text tree → Answers {X = Job} (Err stop) (job_by_parts own tree) → IsToldAtTop stop told
    → (outcome : Outcome Job) → Gives own text outcome → Answers {X = Job} (Err told) outcome
told_given own text tree Memory told is answers above outcome given = rw above tt
told_given own text tree (Fault fault) Memory is answers above outcome given = tt
told_given own text tree (Fault fault) (Fault other) is answers above outcome given =
    given_one own text tree outcome is given ∙ ap at_top answers ∙ ap Err (sym above)
