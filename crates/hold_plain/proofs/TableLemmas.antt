-- What a table of names, made one name after another, says of the places of the names.
use Rattle.std.proofs.Common.{◌≡◌, ℕ, suc, ◌+◌, List, [], ◌∷◌, ◌++◌, map, Bool, true, false, cond, Option, Some, None, refl, sym, ap, ◌∙◌, arith, is_none, length, drop, ◌≤◌}
use Rattle.std.specs.Prelude.{bytes_eq, slice_get}
use Rattle.std.specs.Option.{option_map}
use Rattle.std.specs.Bool.{Decides}
use Rattle.std.proofs.lemmas.Bool.{false≢true}
use Rattle.std.proofs.lemmas.List.{drop_all}
use Rattle.std.proofs.lemmas.Slice.Eq.{bytes_eq-Decides}
use Rattle.hold_netlist.specs.NameTable.{number_of}
use Rattle.hold_plain.specs.declared.cell.Cell.{Cell}
use Rattle.hold_plain.specs.declared.timing.Clock.{Clock as ClockEntry}
use Rattle.hold_plain.specs.Cells.{cell_named, arrival_in, or_else}
use Rattle.hold_plain.specs.inner.Tables.{first_at, cell_names, clock_names, TellsPlaces}

-- the table once a name that it lacks got its number
abbrev pub with_name : List ℕ → ℕ → List (List ℕ × ℕ) → List (List ℕ × ℕ)
with_name name number table = cond (is_none (number_of name table)) (table ++ (name, number) ∷ []) table

-- the table once each of these names got its place, where it had none
abbrev pub with_names : List (List ℕ × ℕ) → ℕ → List (List ℕ) → List (List ℕ × ℕ)
with_names table place [] = table
with_names table place (n ∷ names) = with_names (with_name n place table) (place + 1) names

-- ---- one of two

or_else-none : {A : Type 0} (o : Option A) → or_else o None ≡ o
or_else-none None = refl
or_else-none (Some a) = refl

or_else-or_else : {A : Type 0} (a b c : Option A) → or_else (or_else a b) c ≡ or_else a (or_else b c)
or_else-or_else None b c = refl
or_else-or_else (Some x) b c = refl

-- the first, where it is there
or_else-some : {A : Type 0} (o other : Option A) → is_none o ≡ false → or_else o other ≡ o
or_else-some None other there = absurd (false≢true (sym there))
or_else-some (Some a) other there = refl

-- ---- making the table

number_of-last : (name n : List ℕ) (number : ℕ) (table : List (List ℕ × ℕ)) →
    number_of name (table ++ (n, number) ∷ []) ≡ or_else (number_of name table) (cond (bytes_eq name n) (Some number) None)
number_of-last name n number [] = refl
number_of-last name n number (p ∷ ps) = by (bytes_eq name p.0) (number_of-last name n number ps)
  where
    by : (b : Bool) → number_of name (ps ++ (n, number) ∷ []) ≡ or_else (number_of name ps) (cond (bytes_eq name n) (Some number) None) →
        cond b (Some p.1) (number_of name (ps ++ (n, number) ∷ [])) ≡ or_else (cond b (Some p.1) (number_of name ps)) (cond (bytes_eq name n) (Some number) None)
    by true h = refl
    by false h = h

-- a name that is there already keeps its number
kept : (name n : List ℕ) (number : ℕ) (table : List (List ℕ × ℕ)) → is_none (number_of n table) ≡ false →
    number_of name table ≡ or_else (number_of name table) (cond (bytes_eq name n) (Some number) None)
kept name n number table there = by (bytes_eq name n) (bytes_eq-Decides name n)
  where
    by : (b : Bool) → Decides b (name ≡ n) → number_of name table ≡ or_else (number_of name table) (cond b (Some number) None)
    by true tells = sym (or_else-some (number_of name table) (Some number) (ap (λ (m : List ℕ). is_none (number_of m table)) (tells.0 refl) ∙ there))
    by false tells = sym (or_else-none (number_of name table))

pub number_of-with_name : (name n : List ℕ) (number : ℕ) (table : List (List ℕ × ℕ)) →
    number_of name (with_name n number table) ≡ or_else (number_of name table) (cond (bytes_eq name n) (Some number) None)
number_of-with_name name n number table = by (is_none (number_of n table)) refl
  where
    by : (b : Bool) → is_none (number_of n table) ≡ b →
        number_of name (cond b (table ++ (n, number) ∷ []) table) ≡ or_else (number_of name table) (cond (bytes_eq name n) (Some number) None)
    by true is = number_of-last name n number table
    by false is = kept name n number table is

first_at-cons : (b : Bool) (place : ℕ) (rest : Option ℕ) → or_else (cond b (Some place) None) rest ≡ cond b (Some place) rest
first_at-cons true place rest = refl
first_at-cons false place rest = refl

number_of-with_names : (name : List ℕ) (table : List (List ℕ × ℕ)) (place : ℕ) (names : List (List ℕ)) →
    number_of name (with_names table place names) ≡ or_else (number_of name table) (first_at place name names)
number_of-with_names name table place [] = sym (or_else-none (number_of name table))
number_of-with_names name table place (n ∷ ns) =
    number_of-with_names name (with_name n place table) (place + 1) ns
    ∙ ap (λ (o : Option ℕ). or_else o (first_at (place + 1) name ns)) (number_of-with_name name n place table)
    ∙ or_else-or_else (number_of name table) (cond (bytes_eq name n) (Some place) None) (first_at (place + 1) name ns)
    ∙ ap (λ (o : Option ℕ). or_else (number_of name table) o) (first_at-cons (bytes_eq name n) place (first_at (place + 1) name ns))

-- a table of names in order tells their places
pub tells_places : {A : Type 0} (name_of : A → List ℕ) (xs : List A) (place : ℕ) (table : List (List ℕ × ℕ)) → length xs ≤ place →
    with_names table place (map name_of (drop place xs)) ≡ with_names [] 0 (map name_of xs) → TellsPlaces (map name_of xs) table
tells_places name_of xs place table past is =
    let whole : table ≡ with_names [] 0 (map name_of xs) = (rw (drop_all place xs past) at is) in
    record { each = λ name. ap (λ (t : List (List ℕ × ℕ)). number_of name t) whole ∙ number_of-with_names name [] 0 (map name_of xs) }

-- ---- reading it

first_at-suc : (place : ℕ) (name : List ℕ) (names : List (List ℕ)) → first_at (place + 1) name names ≡ option_map suc (first_at place name names)
first_at-suc place name [] = refl
first_at-suc place name (n ∷ ns) = by (bytes_eq name n) (first_at-suc (place + 1) name ns)
  where
    by : (b : Bool) → first_at (place + 1 + 1) name ns ≡ option_map suc (first_at (place + 1) name ns) →
        cond b (Some (place + 1)) (first_at (place + 1 + 1) name ns) ≡ option_map suc (cond b (Some place) (first_at (place + 1) name ns))
    by true h = ap Some (omega arith)
    by false h = h

-- what is said of the item at a place, where there is one
abbrev pub read_at : {A B : Type 0} → (A → B) → List A → Option ℕ → Option B
read_at f xs None = None
read_at f xs (Some place) = option_map f (slice_get xs place)

read_at-suc : {A B : Type 0} (f : A → B) (x : A) (xs : List A) (place : Option ℕ) → read_at f (x ∷ xs) (option_map suc place) ≡ read_at f xs place
read_at-suc f x xs None = refl
read_at-suc f x xs (Some place) = refl

-- the first item of a name, as a search down the list finds it, stands at the place of the name
module _ {A B : Type 0} (name_of : A → List ℕ) (f : A → B) (name : List ℕ) (found : List A → Option B) (none : found [] ≡ None)
    (more : (x : A) (xs : List A) → found (x ∷ xs) ≡ cond (bytes_eq name (name_of x)) (Some (f x)) (found xs)) where
  found_at : (xs : List A) → read_at f xs (first_at 0 name (map name_of xs)) ≡ found xs
  found_at [] = sym none
  found_at (x ∷ xs) =
      by (bytes_eq name (name_of x)) (ap (read_at f (x ∷ xs)) (first_at-suc 0 name (map name_of xs)) ∙ read_at-suc f x xs (first_at 0 name (map name_of xs)) ∙ found_at xs)
      ∙ sym (more x xs)
    where
      by : (b : Bool) → read_at f (x ∷ xs) (first_at (0 + 1) name (map name_of xs)) ≡ found xs →
          read_at f (x ∷ xs) (cond b (Some 0) (first_at (0 + 1) name (map name_of xs))) ≡ cond b (Some (f x)) (found xs)
      by true rest = refl
      by false rest = rest

-- the same with nothing to be read of the item
module _ {A : Type 0} (name_of : A → List ℕ) (name : List ℕ) (found : List A → Option A) (none : found [] ≡ None)
    (more : (x : A) (xs : List A) → found (x ∷ xs) ≡ cond (bytes_eq name (name_of x)) (Some x) (found xs)) where
  item_at : (xs : List A) (place : ℕ) → first_at 0 name (map name_of xs) ≡ Some place → slice_get xs place ≡ found xs
  item_at xs place is = sym (itself (slice_get xs place)) ∙ ap (read_at (λ (x : A). x) xs) (sym is) ∙ found_at name_of (λ (x : A). x) name found none more xs
    where
      itself : (o : Option A) → option_map (λ (x : A). x) o ≡ o
      itself None = refl
      itself (Some x) = refl

module _ (name : List ℕ) (cells : List Cell) (table : List (List ℕ × ℕ)) (tells : TellsPlaces (cell_names cells) table) where
  -- the first cell of a name stands at the place that the table has for it
  pub cell_at : (place : ℕ) → number_of name table ≡ Some place → slice_get cells place ≡ cell_named name cells
  cell_at place is = item_at (λ (cell : Cell). cell.name) name (cell_named name) refl (λ cell cells. refl) cells place (sym (tells.each name) ∙ is)

  -- a name that the table lacks is no cell's
  pub no_cell : number_of name table ≡ None → None ≡ cell_named name cells
  no_cell is =
      ap (read_at (λ (cell : Cell). cell) cells) (sym is ∙ tells.each name)
      ∙ found_at (λ (cell : Cell). cell.name) (λ (cell : Cell). cell) name (cell_named name) refl (λ cell cells. refl) cells

module _ (inst : List ℕ) (entries : List ClockEntry) (table : List (List ℕ × ℕ)) (tells : TellsPlaces (clock_names entries) table) where
  reads : read_at (λ (entry : ClockEntry). entry.arrival) entries (number_of inst table) ≡ arrival_in inst entries
  reads =
      ap (read_at (λ (entry : ClockEntry). entry.arrival) entries) (tells.each inst)
      ∙ found_at (λ (entry : ClockEntry). entry.inst) (λ (entry : ClockEntry). entry.arrival) inst (arrival_in inst) refl (λ entry entries. refl) entries

  -- what the entry at the place says, that the table has for the instance
  pub arrival_at : (place : ℕ) (entry : Option ClockEntry) → number_of inst table ≡ Some place → slice_get entries place ≡ entry →
      option_map (λ (e : ClockEntry). e.arrival) entry ≡ arrival_in inst entries
  arrival_at place entry is at =
      ap (option_map (λ (e : ClockEntry). e.arrival)) (sym at) ∙ ap (read_at (λ (e : ClockEntry). e.arrival) entries) (sym is) ∙ reads

  -- an instance that the table lacks has no entry
  pub no_arrival : number_of inst table ≡ None → None ≡ arrival_in inst entries
  no_arrival is = ap (read_at (λ (entry : ClockEntry). entry.arrival) entries) (sym is) ∙ reads
