-- A value of the job's tree gives something, or the first fault in it. The path of a fault within a value has a point in front of
-- each key and of each place in a list, from 0; that of a fault at the value itself is empty.
--
-- Outcome A: something, or the first fault.
-- ◌>>=◌: what something leads to. A fault leads to itself. It is what `do` is read by.
-- of_kind o: what there is; where there is nothing, the fault of a value that is missing or isn't of its kind.
-- in_rule test x: x where it passes the test, else the fault of a value that breaks its rule.
-- below step fault: the fault as it is told from the table or list above, where step is the key or the place that leads to the value.
-- at step o: the same of whatever the value gives.
use Rattle.std.specs.Prelude.{ℕ, List, [], ◌∷◌, ◌++◌, Bool, if◌then◌else◌, Option, Some, None, Result, Ok, Err}
use Rattle.hold_job.specs.declared.fault.JobFault.{JobFault}
use Rattle.hold_job.specs.declared.fault.JobFault.TheVariants.{Toml, Key, Range, Double, SameName}

abbrev pub Outcome : Type 0 → Type 0
Outcome A = Result A JobFault

infixl 10 ◌>>=◌
abbrev pub ◌>>=◌ : {A B : Type 0} → Outcome A → (A → Outcome B) → Outcome B
(Ok x) >>= f = f x
(Err fault) >>= f = Err fault

abbrev pub of_kind : {A : Type 0} → Option A → Outcome A
of_kind (Some x) = Ok x
of_kind None = Err (Key [])

abbrev pub in_rule : {A : Type 0} → (A → Bool) → A → Outcome A
in_rule test x = if test x then Ok x else Err (Range [])

abbrev pub below : List ℕ → JobFault → JobFault
below step (Key path) = Key (46 ∷ step ++ path)
below step (Range path) = Range (46 ∷ step ++ path)
below step (Double path) = Double (46 ∷ step ++ path)
below step Toml = Toml
below step (SameName name) = SameName name

abbrev pub at : {A : Type 0} → List ℕ → Outcome A → Outcome A
at step (Ok x) = Ok x
at step (Err fault) = Err (below step fault)
