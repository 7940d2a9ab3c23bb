-- Files that are added one after another.
use Rattle.std.proofs.Common.{◌≡◌, ℕ, Bool, true, false, List, Option, Some, None, refl, sym, subst, ◌∙◌, ap, cond}
use Rattle.std.specs.Prelude.{option_map, unwrap_or, is_some, IsTrue, IsSomeAnd, if◌then◌else◌}
use Rattle.std.specs.Option.{option_or}
use Rattle.std.specs.Ordering.{nat_cmp}
use Rattle.std.specs.Cmp.Lexicographic.{slice_cmp}
use Rattle.std.specs.Str.{bytes_eq}
use Rattle.std.specs.BTreeMap.{Updates}
use Rattle.std.proofs.lemmas.Slice.Eq.{bytes_eq-Decides}
use Rattle.std.proofs.lemmas.Map.Text.{is_eq-slice_cmp}
use Rattle.hold_base.proofs.Options.{option_or-none_right}
use Rattle.hold_files.specs.declared.memory.entry.Entry.{Entry}
use Rattle.hold_files.specs.Memory.{Entries, entry_of}
use Rattle.hold_files.specs.inner.Entries.{new_entry, as_output, IsSet, IsTextAdded, IsOutputAdded}

-- what an update leaves at each name
pub entry_of-updated : (m n : Entries) (name : List ℕ) (w : Option Entry) → Updates (slice_cmp nat_cmp) m n name w
    → IsSet m n name w
entry_of-updated m n name w updates = λ q. updates.0 q ∙ ap (λ b. cond b w (entry_of m q)) (is_eq-slice_cmp name q)

-- a new text at a name that had none
text_added_at : (m n : Entries) (name q text : List ℕ) (w : Entry) (b : Bool) → (b ≡ true → name ≡ q) → entry_of m name ≡ None
    → w ≡ new_entry text 0 false → entry_of n q ≡ (if b then Some w else entry_of m q)
    → entry_of n q ≡ option_or (entry_of m q) (if b then Some (new_entry text 0 false) else None)
text_added_at m n name q text w true same none is updated =
    let none_here : entry_of m q ≡ None = subst (λ p. entry_of m p ≡ None) (same refl) none in
    updated ∙ ap Some is ∙ sym (ap (λ o. option_or o (Some (new_entry text 0 false))) none_here)
text_added_at m n name q text w false same none is updated = updated ∙ sym (option_or-none_right (entry_of m q))

pub IsTextAdded-new : (m n : Entries) (name text : List ℕ) (w : Entry) → entry_of m name ≡ None → w ≡ new_entry text 0 false
    → IsSet m n name (Some w) → IsTextAdded m n name text
IsTextAdded-new m n name text w none is set = λ q.
    text_added_at m n name q text w (bytes_eq name q) (bytes_eq-Decides name q).0 none is (set q)

-- an output in the place of what was there
output_added_at : (m mid n : Entries) (name q : List ℕ) (room : ℕ) (w : Entry) (b : Bool) → (b ≡ true → name ≡ q)
    → w ≡ as_output (entry_of m name) room
    → entry_of mid q ≡ (if b then None else entry_of m q) → entry_of n q ≡ (if b then Some w else entry_of mid q)
    → entry_of n q ≡ (if b then Some (as_output (entry_of m q) room) else entry_of m q)
output_added_at m mid n name q room w true same is gone updated =
    updated ∙ ap Some is ∙ ap (λ p. Some (as_output (entry_of m p) room)) (same refl)
output_added_at m mid n name q room w false same is gone updated = updated ∙ gone

pub IsOutputAdded-put : (m mid n : Entries) (name : List ℕ) (room : ℕ) (w : Entry) → w ≡ as_output (entry_of m name) room
    → IsSet m mid name None → IsSet mid n name (Some w) → IsOutputAdded m n name room
IsOutputAdded-put m mid n name room w is gone set = λ q.
    output_added_at m mid n name q room w (bytes_eq name q) (bytes_eq-Decides name q).0 is (gone q) (set q)

-- the file of a name at first: an output, or a text that is none
abbrev pub first_at : Bool → Option (List ℕ) → ℕ → Option Entry
first_at here text room =
    if here then Some (as_output (option_map (λ t. new_entry t 0 false) text) room) else option_map (λ t. new_entry t 0 false) text

-- it has no fault
no_fault_at : (f : Entry → ℕ) → ((text : List ℕ) (room : ℕ) (b : Bool) → f (new_entry text room b) ≡ 0)
    → (here : Bool) (text : Option (List ℕ)) (room : ℕ) (entry : Option Entry) → entry ≡ first_at here text room
    → unwrap_or (option_map f entry) 0 ≡ 0
no_fault_at f free true text room entry is = ap (λ o. unwrap_or (option_map f o) 0) is ∙ free _ _ _
no_fault_at f free false None room entry is = ap (λ o. unwrap_or (option_map f o) 0) is
no_fault_at f free false (Some t) room entry is = ap (λ o. unwrap_or (option_map f o) 0) is ∙ free _ _ _

pub no_read_fault : (here : Bool) (text : Option (List ℕ)) (room : ℕ) (entry : Option Entry) → entry ≡ first_at here text room
    → unwrap_or (option_map (λ e. e.read_faults) entry) 0 ≡ 0
no_read_fault here text room entry is = no_fault_at (λ e. e.read_faults) (λ t r b. refl) here text room entry is

pub no_write_fault : (here : Bool) (text : Option (List ℕ)) (room : ℕ) (entry : Option Entry) → entry ≡ first_at here text room
    → unwrap_or (option_map (λ e. e.write_faults) entry) 0 ≡ 0
no_write_fault here text room entry is = no_fault_at (λ e. e.write_faults) (λ t r b. refl) here text room entry is

-- and where it is an output, it has that room
pub room_at : (here : Bool) (text : Option (List ℕ)) (room : ℕ) (entry : Option Entry) → entry ≡ first_at here text room
    → IsSomeAnd entry (λ e. IsTrue e.is_output) → IsSomeAnd entry (λ e. e.buffer.room ≡ room)
room_at true text room entry is output = rw is refl
room_at false None room entry is output = absurd (rw is at output)
room_at false (Some t) room entry is output = let never : IsTrue false = rw is at output in absurd (cc)
