-- Looking into a table by its keys. What a value gives is told by a form: its kind and its rule.
--
-- Form A: what a value gives.
-- unknown keys ms: the key of the first member that isn't one of these. The members of a tree's tables stand in byte order of their keys.
-- known keys ms: a fault at that key; nothing of note where each key is one of these.
-- table_of keys d: the members of a table, whose keys are all known.
-- required form key ms: what the value at the key gives. The key may not be missing.
-- or_else x form key ms: the same, and x where the key is missing.
-- if_any form key ms: the same, and nothing where the key is missing.
use Rattle.std.specs.Prelude.{ℕ, List, ◌∷◌, if◌then◌else◌, Option, Some, None, Ok, Err}
use Rattle.toml.specs.Data.{Data, Members, no_members, member, get_member, as_table}
use Rattle.hold_netlist.specs.Names.{is_among}
use Rattle.hold_job.specs.declared.fault.JobFault.TheVariants.{Key}
use Rattle.hold_job.specs.Outcome.{Outcome, ◌>>=◌, of_kind, at}

abbrev pub Form : Type 0 → Type 0
Form A = Data → Outcome A

abbrev pub unknown : List (List ℕ) → Members → Option (List ℕ)
unknown keys no_members = None
unknown keys (member key d ms) = if is_among key keys then unknown keys ms else Some key

abbrev pub unknown_key : Option (List ℕ) → Outcome Unit
unknown_key None = Ok tt
unknown_key (Some key) = Err (Key (46 ∷ key))

abbrev pub known : List (List ℕ) → Members → Outcome Unit
known keys ms = unknown_key (unknown keys ms)

unfoldable pub table_of : List (List ℕ) → Form Members
table_of keys d = do
  ms ← of_kind (as_table d)
  _ ← known keys ms
  Ok ms

abbrev pub required : {A : Type 0} → Form A → List ℕ → Members → Outcome A
required form key ms = at key (of_kind (get_member key ms) >>= form)

abbrev pub given_or : {A : Type 0} → A → Form A → Option Data → Outcome A
given_or x form None = Ok x
given_or x form (Some d) = form d

abbrev pub or_else : {A : Type 0} → A → Form A → List ℕ → Members → Outcome A
or_else x form key ms = at key (given_or x form (get_member key ms))

abbrev pub if_any : {A : Type 0} → Form A → List ℕ → Members → Outcome (Option A)
if_any form key ms = or_else None (λ d. form d >>= λ x. Ok (Some x)) key ms
