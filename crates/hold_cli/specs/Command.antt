-- IsRepair words job: the words ask for the repair of the job in the file `job`, whose name isn't empty.
use Rattle.std.specs.Prelude.{◌≡◌, ◌≢◌, ℕ, List, [], ◌∷◌, codes}

-- `repair JOB`
pub record IsRepair (words : List (List ℕ)) (job : List ℕ) : Type 0 where
  pub words_are : words ≡ codes "repair" ∷ job ∷ []
  pub named : job ≢ []
