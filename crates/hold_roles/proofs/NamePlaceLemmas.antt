-- Tables of the places of names, and the types at those places.
use Rattle.std.proofs.Common.{◌≡◌, ℕ, suc, ◌+◌, ◌<◌, ◌≤◌, List, [], ◌∷◌, ◌++◌, length, drop, get_or, Bool, true, false, cond, Option, Some, None, refl, sym, ap, ◌∙◌, arith, is_none, not}
use Rattle.std.specs.Prelude.{bytes_eq, slice_get}
use Rattle.std.proofs.lemmas.List.{append-nil, append_assoc, drop_all, map-append}
use Rattle.std.proofs.lemmas.Option.{none-some}
use Rattle.hold_base.proofs.Lists.{drop-here}
use Rattle.hold_netlist.specs.Names.{is_among}
use Rattle.hold_netlist.specs.NameTable.{number_of}
use Rattle.hold_netlist.specs.inner.NameTable.{names_of}
use Rattle.hold_netlist.proofs.NameTableLemmas.{is_none_number}
use Rattle.hold_roles.specs.declared.role.CellType.{CellType}
use Rattle.hold_roles.specs.Types.{first_double, first_repeat_from, type_named, type_names}
use Rattle.hold_roles.specs.inner.NamePlaces.{TellsPlaces, first_at}

-- the names with their places, the first of which is `place`
abbrev pub pairs_from : ℕ → List (List ℕ) → List (List ℕ × ℕ)
pairs_from place [] = []
pairs_from place (n ∷ ns) = (n, place) ∷ pairs_from (place + 1) ns

-- what is known of a table of the first places: what is left makes the table of all, and has the first repeated name of all
pub record IsPlacedUpTo (types : List CellType) (place : ℕ) (table : List (List ℕ × ℕ)) : Type 0 where
  pub pairs : table ++ pairs_from place (type_names (drop place types)) ≡ pairs_from 0 (type_names types)
  pub repeat : first_repeat_from place (names_of table) (type_names (drop place types)) ≡ first_double types

number_of-pairs_from : (name : List ℕ) (place : ℕ) (names : List (List ℕ)) → number_of name (pairs_from place names) ≡ first_at place name names
number_of-pairs_from name place [] = refl
number_of-pairs_from name place (n ∷ ns) = ap (λ rest. cond (bytes_eq name n) (Some place) rest) (number_of-pairs_from name (place + 1) ns)

-- a table of all pairs tells the places
pub pairs-tell : (types : List CellType) (place : ℕ) (table : List (List ℕ × ℕ)) → length types ≤ place → IsPlacedUpTo types place table
    → TellsPlaces (type_names types) table
pairs-tell types place table past placed =
    let whole = placed.pairs in
    let left : pairs_from place (type_names (drop place types)) ≡ [] = ap (λ ts. pairs_from place (type_names ts)) (drop_all place types past) in
    let is : table ≡ pairs_from 0 (type_names types) = sym (append-nil table) ∙ ap (λ l. table ++ l) (sym left) ∙ whole in
    record { each = λ name. ap (number_of name) is ∙ number_of-pairs_from name 0 (type_names types) }

-- a name that a table lacks repeats none of its names
pub repeat-new : (place : ℕ) (pairs : List (List ℕ × ℕ)) (n : List ℕ) (ns : List (List ℕ)) → is_none (number_of n pairs) ≡ true
    → first_repeat_from place (names_of pairs) (n ∷ ns) ≡ first_repeat_from (place + 1) (names_of pairs ++ n ∷ []) ns
repeat-new place pairs n ns new = by (is_among n (names_of pairs)) (sym (is_none_number n pairs) ∙ new)
  where
    by : (b : Bool) → not b ≡ true → cond b (Some place) (first_repeat_from (place + 1) (names_of pairs ++ n ∷ []) ns) ≡ first_repeat_from (place + 1) (names_of pairs ++ n ∷ []) ns
    by true h = cc
    by false h = refl

-- and one that it has does
pub repeat-known : (place : ℕ) (pairs : List (List ℕ × ℕ)) (n : List ℕ) (ns : List (List ℕ)) → is_none (number_of n pairs) ≡ false
    → first_repeat_from place (names_of pairs) (n ∷ ns) ≡ Some place
repeat-known place pairs n ns known = by (is_among n (names_of pairs)) (sym (is_none_number n pairs) ∙ known)
  where
    by : (b : Bool) → not b ≡ false → cond b (Some place) (first_repeat_from (place + 1) (names_of pairs ++ n ∷ []) ns) ≡ Some place
    by true h = refl
    by false h = cc

-- ---- the type at a place

-- an item that was found stands at a place that is counted from some start
record IsFoundFrom (start : ℕ) (types : List CellType) (found : Option CellType) (place : ℕ) : Type 0 where
  pub steps : ℕ
  pub counted : place ≡ start + steps
  pub stands : slice_get types steps ≡ found

found_from : (start : ℕ) (name : List ℕ) (types : List CellType) (place : ℕ) → first_at start name (type_names types) ≡ Some place
    → IsFoundFrom start types (type_named name types) place
found_from start name [] place h = absurd (none-some place h)
found_from start name (t ∷ ts) place h = by (bytes_eq name t.name) h (found_from (start + 1) name ts place)
  where
    by : (b : Bool) → cond b (Some start) (first_at (start + 1) name (type_names ts)) ≡ Some place
        → (first_at (start + 1) name (type_names ts) ≡ Some place → IsFoundFrom (start + 1) ts (type_named name ts) place)
        → IsFoundFrom start (t ∷ ts) (cond b (Some t) (type_named name ts)) place
    by true h more = let same : start ≡ place = cc in record { steps = 0; counted = omega arith; stands = refl }
    by false h more = let found = more h in record { steps = suc found.steps; counted = omega (arith, found.counted); stands = found.stands }

-- the first type of a name stands at the place of the name
pub type_at : (name : List ℕ) (types : List CellType) (place : ℕ) → first_at 0 name (type_names types) ≡ Some place → slice_get types place ≡ type_named name types
type_at name types place h =
    let found = found_from 0 name types place h in
    let same : place ≡ found.steps = omega (arith, found.counted) in
    ap (slice_get types) same ∙ found.stands

-- a name is known where it has a place
pub is_none-place : (start : ℕ) (name : List ℕ) (types : List CellType) → is_none (first_at start name (type_names types)) ≡ is_none (type_named name types)
is_none-place start name [] = refl
is_none-place start name (t ∷ ts) = by (bytes_eq name t.name) (is_none-place (start + 1) name ts)
  where
    by : (b : Bool) → is_none (first_at (start + 1) name (type_names ts)) ≡ is_none (type_named name ts)
        → is_none (cond b (Some start) (first_at (start + 1) name (type_names ts))) ≡ is_none (cond b (Some t) (type_named name ts))
    by true h = refl
    by false h = h

-- so one without a place is unknown
pub no_type : (name : List ℕ) (types : List CellType) → first_at 0 name (type_names types) ≡ None → type_named name types ≡ None
no_type name types h = by (type_named name types) (sym (is_none-place 0 name types) ∙ ap is_none h)
  where
    by : (o : Option CellType) → is_none o ≡ true → o ≡ None
    by None e = refl
    by (Some t) e = cc

-- ---- one name more

-- a type that is new is added
pub place-added : (types : List CellType) (place : ℕ) (old new : List (List ℕ × ℕ)) (t : CellType) → place < length types → t ≡ get_or types place t
    → is_none (number_of t.name old) ≡ true → new ≡ old ++ (t.name, place) ∷ [] → IsPlacedUpTo types place old → IsPlacedUpTo types (place + 1) new
place-added types place old new t within here free added h =
    let at : drop place types ≡ t ∷ drop (place + 1) types = drop-here types place t within here in
    record {
      pairs = ap (λ l. l ++ pairs_from (place + 1) (type_names (drop (place + 1) types))) added
          ∙ append_assoc old ((t.name, place) ∷ []) (pairs_from (place + 1) (type_names (drop (place + 1) types)))
          ∙ ap (λ ts. old ++ pairs_from place (type_names ts)) (sym at) ∙ h.pairs;
      repeat = ap (λ l. first_repeat_from (place + 1) (names_of l) (type_names (drop (place + 1) types))) added
          ∙ ap (λ l. first_repeat_from (place + 1) l (type_names (drop (place + 1) types))) (map-append (λ (p : List ℕ × ℕ). p.0) old ((t.name, place) ∷ []))
          ∙ sym (repeat-new place old t.name (type_names (drop (place + 1) types)) free)
          ∙ ap (λ ts. first_repeat_from place (names_of old) (type_names ts)) (sym at) ∙ h.repeat;
    }

-- a type that isn't new is the first that repeats a name
pub place-repeats : (types : List CellType) (place : ℕ) (old : List (List ℕ × ℕ)) (t : CellType) → place < length types → t ≡ get_or types place t
    → is_none (number_of t.name old) ≡ false → IsPlacedUpTo types place old → first_double types ≡ Some place
place-repeats types place old t within here known h =
    let at : drop place types ≡ t ∷ drop (place + 1) types = drop-here types place t within here in
    sym h.repeat ∙ ap (λ ts. first_repeat_from place (names_of old) (type_names ts)) at ∙ repeat-known place old t.name (type_names (drop (place + 1) types)) known

pub placed-none : (types : List CellType) → IsPlacedUpTo types 0 []
placed-none types = record { pairs = refl; repeat = refl }

-- a place past the last: no name repeats
pub placed-all : (types : List CellType) (place : ℕ) (table : List (List ℕ × ℕ)) → length types ≤ place → IsPlacedUpTo types place table → first_double types ≡ None
placed-all types place table past h = sym h.repeat ∙ ap (λ ts. first_repeat_from place (names_of table) (type_names ts)) (drop_all place types past)
