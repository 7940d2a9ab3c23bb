-- Lists whose items are read in turn.
--
-- item_count items: how many there are.
-- list_of d: the items of a list.
-- list_within least most d: the items of a list that has at least and at most so many.
-- in_turn form so_far items: what was read so far, and then what each item gives in the light of what those before it gave. A fault
--   is told from the list, by the place of its item.
-- each form items: what each item gives, in order.
-- every form: the form of a list of any length whose items have that form; every_within least most form: that of a list that has at
--   least and at most so many.
use Rattle.std.specs.Prelude.{ℕ, ◌+◌, List, [], ◌∷◌, ◌++◌, length, nat_le, ◌&&◌, Ok}
use Rattle.std.specs.Fmt.{decimal}
use Rattle.toml.specs.Data.{Items, no_items, item, as_array}
use Rattle.hold_job.specs.Outcome.{Outcome, ◌>>=◌, of_kind, in_rule, at}
use Rattle.hold_job.specs.Keys.{Form}

abbrev pub item_count : Items → ℕ
item_count no_items = 0
item_count (item d ds) = item_count ds + 1

abbrev pub list_of : Form Items
list_of d = of_kind (as_array d)

abbrev pub list_within : ℕ → ℕ → Form Items
list_within least most d = list_of d >>= in_rule (λ items. nat_le least (item_count items) && nat_le (item_count items) most)

abbrev pub in_turn : {A : Type 0} → (List A → Form A) → List A → Items → Outcome (List A)
in_turn form so_far no_items = Ok so_far
in_turn form so_far (item d ds) = at (decimal (length so_far)) (form so_far d) >>= λ x. in_turn form (so_far ++ x ∷ []) ds

abbrev pub each : {A : Type 0} → Form A → Items → Outcome (List A)
each form items = in_turn (λ so_far. form) [] items

abbrev pub every : {A : Type 0} → Form A → Form (List A)
every form d = list_of d >>= each form

abbrev pub every_within : {A : Type 0} → ℕ → ℕ → Form A → Form (List A)
every_within least most form d = list_within least most d >>= each form
