-- What a change of one entry does to all that is told.
use Rattle.std.proofs.Common.{◌≡◌, ◌≢◌, ◌⊎◌, inl, inr, ◌≤◌, ℕ, Bool, true, false, List, Option, Some, IsSome, refl, sym, subst, ◌∙◌, ap, arith, rules}
use Rattle.std.specs.Prelude.{option_map, unwrap_or}
use Rattle.std.specs.Ordering.{nat_cmp, is_eq}
use Rattle.std.specs.Cmp.Lexicographic.{slice_cmp}
use Rattle.std.specs.Str.{bytes_eq}
use Rattle.std.specs.BTreeMap.{WritesThrough}
use Rattle.std.proofs.lemmas.Slice.Eq.{bytes_eq-Decides}
use Rattle.std.proofs.lemmas.Map.Text.{is_eq-slice_cmp}
use Rattle.hold_base.proofs.Bools.{false-never}
use Rattle.hold_files.specs.declared.memory.entry.Entry.{Entry}
use Rattle.hold_files.specs.Told.{OnlyReads, OnlyWrites}
use Rattle.hold_files.specs.declared.memory.Calls.{Calls}
use Rattle.hold_files.specs.declared.memory.MemoryFiles.{MemoryFiles}
use Rattle.hold_files.specs.Memory.{Entries, entry_of, told_in, RisesAlone, IsNext}

-- at some name, the entry is as before, or the old one is replaced by the new one
abbrev pub Turns : Option Entry → Option Entry → Entry → Entry → Type 0
Turns a b old new = (b ≡ a) ⊎ ((a ≡ Some old) × (b ≡ Some new))

-- the entry of one name is replaced, and all others stay
pub record IsReplaced (m n : Entries) (name : List ℕ) (old new : Entry) : Type 0 where
  pub turns : (q : List ℕ) → Turns (entry_of m q) (entry_of n q) old new
  pub others : (q : List ℕ) → q ≢ name → entry_of n q ≡ entry_of m q

-- what both entries have alike stays
kept : {X : Type 0} (f : Entry → X) (a b : Option Entry) (old new : Entry) → Turns a b old new → f new ≡ f old
    → option_map f b ≡ option_map f a
kept f a b old new (inl same) e = ap (option_map f) same
kept f a b old new (inr (had, has)) e = ap (option_map f) has ∙ ap Some e ∙ sym (ap (option_map f) had)

-- a count that doesn't fall in the entry doesn't fall
no_fall : (f : Entry → ℕ) (others : ℕ) (a b : Option Entry) (old new : Entry) → Turns a b old new → f old ≤ f new
    → unwrap_or (option_map f a) others ≤ unwrap_or (option_map f b) others
no_fall f others a b old new (inl same) le = rw same (omega arith)
no_fall f others a b old new (inr (had, has)) le = rw (had, has) le

-- a content that is told stays told
stays_told : (a b : Option Entry) (old new : Entry) → Turns a b old new
    → IsSome (option_map (λ e. e.buffer.text) a) → IsSome (option_map (λ e. e.buffer.text) b)
stays_told a b old new (inl same) some = rw same some
stays_told a b old new (inr (had, has)) some = rw has (search rules)

-- what both entries count alike is counted as before, for every name
pub count-replaced : (f : Entry → ℕ) (m n : Entries) (others : ℕ) (name : List ℕ) (old new : Entry) → IsReplaced m n name old new → f new ≡ f old
    → (q : List ℕ) → unwrap_or (option_map f (entry_of n q)) others ≡ unwrap_or (option_map f (entry_of m q)) others
count-replaced f m n others name old new replaced same q = ap (λ o. unwrap_or o others) (kept f (entry_of m q) (entry_of n q) old new (replaced.turns q) same)

-- and what they count apart is counted so for no other name
pub RisesAlone-replaced : (f : Entry → ℕ) (m : MemoryFiles) (n : Entries) (others : ℕ) (name : List ℕ) (old new : Entry) → IsReplaced m.entries n name old new
    → RisesAlone m name (λ q. unwrap_or (option_map f (entry_of m.entries q)) others) (λ q. unwrap_or (option_map f (entry_of n q)) others)
RisesAlone-replaced f m n others name old new replaced q apart =
    ap (λ o. unwrap_or (option_map f o) others) (replaced.others q (λ same. apart (inl (sym same))))

-- an entry with one read fault more
pub OnlyReads-replaced : (m n : Entries) (said : List ℕ) (r k s : ℕ) (name : List ℕ) (old new : Entry)
    → IsReplaced m n name old new → new.buffer.text ≡ old.buffer.text → new.write_faults ≡ old.write_faults
    → old.read_faults ≤ new.read_faults → OnlyReads (told_in m said r k s) (told_in n said r k s)
OnlyReads-replaced m n said r k s name old new replaced text writes reads = record {
  goes_on = record {
    reads = λ q. no_fall (λ e. e.read_faults) r (entry_of m q) (entry_of n q) old new (replaced.turns q) reads;
    writes = λ q. no_fall (λ e. e.write_faults) k (entry_of m q) (entry_of n q) old new (replaced.turns q) (omega arith);
    says = omega arith;
    contents = λ q. stays_told (entry_of m q) (entry_of n q) old new (replaced.turns q);
    said = λ some. some;
  };
  contents = λ q before is. kept (λ e. e.buffer.text) (entry_of m q) (entry_of n q) old new (replaced.turns q) text ∙ is;
  said = λ before is. is;
  writes = count-replaced (λ e. e.write_faults) m n k name old new replaced writes;
  says = refl;
}

-- an entry with another text, or with one write fault more
pub OnlyWrites-replaced : (m n : Entries) (said : List ℕ) (r k s : ℕ) (name : List ℕ) (old new : Entry)
    → IsReplaced m n name old new → new.read_faults ≡ old.read_faults
    → old.write_faults ≤ new.write_faults → OnlyWrites (told_in m said r k s) (told_in n said r k s) name
OnlyWrites-replaced m n said r k s name old new replaced reads writes = record {
  goes_on = record {
    reads = λ q. no_fall (λ e. e.read_faults) r (entry_of m q) (entry_of n q) old new (replaced.turns q) (omega arith);
    writes = λ q. no_fall (λ e. e.write_faults) k (entry_of m q) (entry_of n q) old new (replaced.turns q) writes;
    says = omega arith;
    contents = λ q. stays_told (entry_of m q) (entry_of n q) old new (replaced.turns q);
    said = λ some. some;
  };
  elsewhere = λ q other before is. ap (option_map (λ (e : Entry). e.buffer.text)) (replaced.others q other) ∙ is;
  said = λ before is. is;
  reads = count-replaced (λ e. e.read_faults) m n r name old new replaced reads;
  says = refl;
}

turn_by : (m n : Entries) (name q : List ℕ) (old new : Entry) (b : Bool) → (b ≡ true → name ≡ q)
    → (b ≡ false → entry_of n q ≡ entry_of m q) → entry_of m name ≡ Some old → entry_of n name ≡ Some new
    → Turns (entry_of m q) (entry_of n q) old new
turn_by m n name q old new true same others had has =
    inr (subst (λ p. entry_of m p ≡ Some old) (same refl) had, subst (λ p. entry_of n p ≡ Some new) (same refl) has)
turn_by m n name q old new false same others had has = inl (others refl)

-- a write through what a look-up lent replaces the entry
pub IsReplaced-lent : (m n : Entries) (name : List ℕ) (old new : Entry) → entry_of m name ≡ Some old
    → WritesThrough (slice_cmp nat_cmp) (slice_cmp nat_cmp name) m new n → IsReplaced m n name old new
IsReplaced-lent m n name old new had writes =
    let some : IsSome (entry_of m name) = rw had (search rules) in
    let updates = writes.3 some in
    let at_is : (q : List ℕ) → is_eq (slice_cmp nat_cmp name q) ≡ bytes_eq name q = λ q. is_eq-slice_cmp name q in
    record {
      turns = λ q. turn_by m n name q old new (bytes_eq name q) (bytes_eq-Decides name q).0 (λ differs. updates.2 q (at_is q ∙ differs)) had updates.1;
      others = λ q other. updates.2 q (at_is q ∙ false-never (bytes_eq name q) (name ≡ q) (bytes_eq-Decides name q).0 (λ e. other (sym e)));
    }

-- files in memory after a call that replaces one entry
pub IsNext-replaced : (old new : MemoryFiles) (next : Calls) (name : List ℕ) (e w : Entry)
    → IsReplaced old.entries new.entries name e w → w.is_output ≡ e.is_output → w.buffer.room ≡ e.buffer.room
    → new.calls ≡ next → new.fails ≡ old.fails → new.said.room ≡ old.said.room → IsNext old new next
IsNext-replaced old new next name e w replaced output room calls fails said = record {
  calls = calls;
  fails = fails;
  outputs = λ q. kept (λ e. e.is_output) (entry_of old.entries q) (entry_of new.entries q) e w (replaced.turns q) output;
  rooms = λ q. kept (λ e. e.buffer.room) (entry_of old.entries q) (entry_of new.entries q) e w (replaced.turns q) room;
  said = said;
}
