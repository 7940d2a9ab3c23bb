-- Looking into a table of a job.
--
-- ◌>>=◌: what an optional value leads to; nothing leads to nothing. It is what `do` is read by.
-- kept test: the value where it passes the test, and nothing where it doesn't.
-- JobTable: the sorts of tables that a job is made of; keys_of: the keys that each may have.
-- is_one_of keys key: whether the key is among them.
-- has_only: whether each key of the members is one of the keys; members that are empty have only any keys.
-- text_at, integer_at, array_at: the value at a key, where it is there and is of that kind.
-- only_item: the item of a list that has exactly one.
-- each_of read items: what each item of a list gives, in order. Nothing where one of them gives nothing.
-- items_or_none value: the items of a list; none where there is no value, and nothing where the value is no list.
-- each_at read key ms: what `each_of` gives of the list at a key; no item where the key is missing, and nothing where it holds something
--   else.
use Rattle.std.specs.Prelude.{ℕ, ℤ, List, [], ◌∷◌, codes, Bool, true, false, ◌&&◌, ◌||◌, if◌then◌else◌, Option, Some, None, bytes_eq}
use Rattle.toml.specs.Data.{Members, no_members, member, get_member, as_str, as_integer, as_array, Data, Items, no_items, item}
use Rattle.hold_cli.specs.declared.job_form.key.JobTable.{JobTable}
use Rattle.hold_cli.specs.declared.job_form.key.JobTable.TheVariants.{Job, Corner, Comb, Register, Arc, Check, Clock}

infixl 10 ◌>>=◌
abbrev pub ◌>>=◌ : {A B : Type 0} → Option A → (A → Option B) → Option B
(Some x) >>= f = f x
None >>= f = None

abbrev pub kept : {A : Type 0} → (A → Bool) → Option A → Option A
kept test (Some x) = if test x then Some x else None
kept test None = None

abbrev pub is_one_of : List (List ℕ) → List ℕ → Bool
is_one_of [] key = false
is_one_of (k ∷ ks) key = bytes_eq key k || is_one_of ks key

-- what a job says at `kind` and `max_chain` isn't looked at
abbrev pub keys_of : JobTable → List (List ℕ)
keys_of Job =
    codes "netlist" ∷ codes "output" ∷ codes "certificate" ∷ codes "period" ∷ codes "max_chain"
    ∷ codes "corner" ∷ codes "arrival" ∷ codes "type" ∷ codes "kind" ∷ codes "clock" ∷ []
keys_of Corner = codes "name" ∷ []
keys_of Comb = codes "name" ∷ codes "role" ∷ codes "inputs" ∷ codes "outputs" ∷ codes "arcs" ∷ []
keys_of Register = codes "name" ∷ codes "role" ∷ codes "clock" ∷ codes "data" ∷ codes "outputs" ∷ codes "arcs" ∷ codes "checks" ∷ []
keys_of Arc = codes "from" ∷ codes "to" ∷ codes "spans" ∷ []
keys_of Check = codes "pin" ∷ codes "setup" ∷ codes "hold" ∷ []
keys_of Clock = codes "inst" ∷ codes "arrivals" ∷ []

abbrev pub has_only : List (List ℕ) → Members → Bool
has_only keys no_members = true
has_only keys (member key value ms) = is_one_of keys key && has_only keys ms

abbrev pub text_at : List ℕ → Members → Option (List ℕ)
text_at key ms = get_member key ms >>= as_str

abbrev pub integer_at : List ℕ → Members → Option ℤ
integer_at key ms = get_member key ms >>= as_integer

abbrev pub array_at : List ℕ → Members → Option Items
array_at key ms = get_member key ms >>= as_array

abbrev pub only_item : Items → Option Data
only_item (item d no_items) = Some d
only_item _ = None

abbrev pub each_of : {A : Type 0} → (Data → Option A) → Items → Option (List A)
each_of read no_items = Some []
each_of read (item d ds) = do
  x ← read d
  xs ← each_of read ds
  Some (x ∷ xs)

-- the items of a list that may be left out
abbrev pub items_or_none : Option Data → Option Items
items_or_none None = Some no_items
items_or_none (Some d) = as_array d

abbrev pub each_at : {A : Type 0} → (Data → Option A) → List ℕ → Members → Option (List A)
each_at read key ms = items_or_none (get_member key ms) >>= each_of read
