-- The table of places by key, made key by key.
use Rattle.std.proofs.Common.{◌≡◌, ℕ, ◌+◌, ◌<◌, ◌≤◌, List, length, get_or, set, refl, ap, sym, ◌∙◌, arith, ◌⊎◌, inl, inr}
use Rattle.std.specs.Prelude.{Option, true, false, is_some, Some, None, slice_get}
use Rattle.std.proofs.lemmas.Bool.{cases_eq, false≢true}
use Rattle.std.proofs.lemmas.List.{get_or-set_same, get_or-set_other, get_or_read}
use Rattle.std.proofs.lemmas.Option.{none-some, same_Some, slice_get_within, slice_get-get_or}
use Rattle.hold_base.proofs.Options.{none-is_some}
use Rattle.hold_plain.specs.Keys.{OneEach, place_of}
use Rattle.hold_plain.proofs.PlaceLemmas.{place_of-stands, place_of-nowhere}

-- the table has, by key, the places of the first n keys and no other
pub record IsTableUpTo (keys : List (Option ℕ)) (n : ℕ) (table : List (Option ℕ)) : Type 0 where
  pub has : (place key : ℕ) → place < n → slice_get keys place ≡ Some (Some key) → get_or table key None ≡ Some place
  pub only : (key place : ℕ) → get_or table key None ≡ Some place → (place < n) × (slice_get keys place ≡ Some (Some key))

pub table-empty : (keys table : List (Option ℕ)) → ((key : ℕ) → get_or table key None ≡ None) → IsTableUpTo keys 0 table
table-empty keys table empty = record {
  has = λ place key lt at. absurd (omega arith);
  only = λ key place e. absurd (none-some place (sym (empty key) ∙ e));
}

read_at : (keys : List (Option ℕ)) (n : ℕ) (key : Option ℕ) → n < length keys → get_or keys n None ≡ key → slice_get keys n ≡ Some key
read_at keys n key within is = slice_get-get_or keys n None within ∙ ap (λ (k : Option ℕ). Some k) is

-- a place without a key leaves the table as it is
pub table-skip : (keys : List (Option ℕ)) (n : ℕ) (table : List (Option ℕ)) → n < length keys → get_or keys n None ≡ None → IsTableUpTo keys n table → IsTableUpTo keys (n + 1) table
table-skip keys n table within none h = record {
  has = λ place key lt at. by_place place key lt at (cases_eq place n);
  only = λ key place e. let found = h.only key place e in (omega (arith, found.0), found.1);
}
  where
    by_place : (place key : ℕ) → place < n + 1 → slice_get keys place ≡ Some (Some key) → ((place ≡ n) ⊎ (place ≡ n → ⊥)) → get_or table key None ≡ Some place
    by_place place key lt at (inl same) = absurd (none-some key (same_Some None (Some key) (sym (read_at keys n None within none) ∙ ap (slice_get keys) (sym same) ∙ at)))
    by_place place key lt at (inr differs) = h.has place key (omega arith) at

table-put : (keys : List (Option ℕ)) (n key : ℕ) (table : List (Option ℕ)) → slice_get keys n ≡ Some (Some key) → key < length table →
    get_or table key None ≡ None → IsTableUpTo keys n table → IsTableUpTo keys (n + 1) (set table key (Some n))
table-put keys n key table at below free h = record {
  has = λ place other lt is. by_place place other lt is (cases_eq place n);
  only = λ other place e. by_key other place e (cases_eq other key);
}
  where
    by_place : (place other : ℕ) → place < n + 1 → slice_get keys place ≡ Some (Some other) → ((place ≡ n) ⊎ (place ≡ n → ⊥)) → get_or (set table key (Some n)) other None ≡ Some place
    by_place place other lt is (inl same) =
        let is_key : other ≡ key = same_Some other key (same_Some (Some other) (Some key) (sym is ∙ ap (slice_get keys) same ∙ at)) in
        ap (λ (k : ℕ). get_or (set table key (Some n)) k None) is_key ∙ get_or-set_same table key (Some n) None below ∙ ap (λ (k : ℕ). Some k) (sym same)
    by_place place other lt is (inr differs) =
        let had : get_or table other None ≡ Some place = h.has place other (omega arith) is in
        get_or-set_other table key other (Some n) None (λ e. none-some place (sym free ∙ ap (λ (k : ℕ). get_or table k None) (sym e) ∙ had)) ∙ had

    by_key : (other place : ℕ) → get_or (set table key (Some n)) other None ≡ Some place → ((other ≡ key) ⊎ (other ≡ key → ⊥)) → (place < n + 1) × (slice_get keys place ≡ Some (Some other))
    by_key other place e (inl same) =
        let is : n ≡ place = same_Some n place (sym (get_or-set_same table key (Some n) None below) ∙ ap (λ (k : ℕ). get_or (set table key (Some n)) k None) (sym same) ∙ e) in
        (omega arith, ap (slice_get keys) (sym is) ∙ at ∙ ap (λ (k : ℕ). Some (Some k)) (sym same))
    by_key other place e (inr differs) =
        let found = h.only other place (sym (get_or-set_other table key other (Some n) None differs) ∙ e) in
        (omega (arith, found.0), found.1)

-- each key is below the bound, as long as the table is
abbrev pub AreBelow : ℕ → List (Option ℕ) → Type 0
AreBelow bound keys = (place key : ℕ) → slice_get keys place ≡ Some (Some key) → key < bound

-- a key that has no place yet, as was read, gets its place
pub table-put_free : (bound n key : ℕ) (had : Option ℕ) (keys table : List (Option ℕ)) → AreBelow bound keys → length table ≡ bound → n < length keys → get_or keys n None ≡ Some key →
    had ≡ get_or table key had → is_some had ≡ false → IsTableUpTo keys n table → IsTableUpTo keys (n + 1) (set table key (Some n))
table-put_free bound n key had keys table below len within is read lacks h =
    let at : slice_get keys n ≡ Some (Some key) = read_at keys n (Some key) within is in
    let key_within : key < length table = omega (arith, below n key at, len) in
    table-put keys n key table at key_within (sym (get_or_read table key had key_within read None) ∙ none-is_some had lacks) h

-- a key that has a place already, as was read, stands at two
pub table-twice : (bound n key : ℕ) (had : Option ℕ) (keys table : List (Option ℕ)) → AreBelow bound keys → length table ≡ bound → n < length keys → get_or keys n None ≡ Some key →
    had ≡ get_or table key had → is_some had ≡ true → IsTableUpTo keys n table → OneEach keys → ⊥
table-twice bound n key None keys table below len within is read taken h one = false≢true taken
table-twice bound n key (Some place) keys table below len within is read taken h one =
    let at : slice_get keys n ≡ Some (Some key) = read_at keys n (Some key) within is in
    let key_within : key < length table = omega (arith, below n key at, len) in
    let found = h.only key place (sym (get_or_read table key (Some place) key_within read None)) in
    omega (arith, found.0, one place n key found.1 at)

pub table-one : (keys : List (Option ℕ)) (n : ℕ) (table : List (Option ℕ)) → length keys ≤ n → IsTableUpTo keys n table → OneEach keys
table-one keys n table all h i j key at_i at_j =
    let first : get_or table key None ≡ Some i = h.has i key (let lt = slice_get_within keys i (Some key) at_i in omega arith) at_i in
    let second : get_or table key None ≡ Some j = h.has j key (let lt = slice_get_within keys j (Some key) at_j in omega arith) at_j in
    same_Some i j (sym first ∙ second)

pub table-places : (keys : List (Option ℕ)) (n : ℕ) (table : List (Option ℕ)) → length keys ≤ n → IsTableUpTo keys n table → (key : ℕ) → get_or table key None ≡ place_of key keys
table-places keys n table all h key = by_place (place_of key keys) refl (get_or table key None) refl
  where
    by_place : (place : Option ℕ) → place_of key keys ≡ place → (had : Option ℕ) → get_or table key None ≡ had → get_or table key None ≡ place_of key keys
    by_place (Some place) e had is =
        let at = place_of-stands key place keys e in
        h.has place key (let lt = slice_get_within keys place (Some key) at in omega arith) at ∙ sym e
    by_place None e None is = is ∙ sym e
    by_place None e (Some place) is = absurd (place_of-nowhere key place keys e (h.only key place is).1)
