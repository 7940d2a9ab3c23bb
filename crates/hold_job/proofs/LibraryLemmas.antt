-- Types behind those of a job: what was found among the job's is found among all.
use Rattle.std.proofs.Common.{◌≡◌, List, [], ◌∷◌, ◌++◌, ℕ, Bool, true, false, cond, bytes_eq, Some, ap, ◌∙◌}
use Rattle.hold_roles.specs.declared.role.CellType.{CellType}
use Rattle.hold_roles.specs.Types.{type_named}
use Rattle.hold_job.specs.declared.job.Job.{Job}
use Rattle.hold_job.specs.Rules.{KeepsTypesOf}

type_named-append : (name : List ℕ) (types more : List CellType) (t : CellType) → type_named name types ≡ Some t → type_named name (types ++ more) ≡ Some t
type_named-append name [] more t e = cc
type_named-append name (u ∷ us) more t e = by (bytes_eq name u.name) e (type_named-append name us more t)
  where
    by : (b : Bool) → cond b (Some u) (type_named name us) ≡ Some t → (type_named name us ≡ Some t → type_named name (us ++ more) ≡ Some t)
        → cond b (Some u) (type_named name (us ++ more)) ≡ Some t
    by true h rest = h
    by false h rest = rest h

pub named_in_library : (job : Job) (types : List CellType) → KeepsTypesOf job types → (name : List ℕ) (t : CellType) → type_named name job.library ≡ Some t
    → type_named name types ≡ Some t
named_in_library job types keeps name t e = ap (type_named name) keeps.begin ∙ type_named-append name job.library keeps.more t e
