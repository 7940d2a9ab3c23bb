-- Tables from names to numbers: what the entries of a map say of the pairs that a contract sees.
use Rattle.std.proofs.Common.{◌≡◌, ℕ, List, [], ◌∷◌, ◌++◌, Bool, true, false, cond, refl, ap, sym, ◌∙◌, bytes_eq, is_some, is_none, not}
use Rattle.std.specs.Prelude.{Vec, None, Some, ◌||◌}
use Rattle.std.specs.declared.alloc.Global.{Global}
use Rattle.std.specs.Map.{lookup}
use Rattle.indexmap.specs.IndexMap.{insert_entry}
use Rattle.hold_base.proofs.Options.{none-is_some}
use Rattle.hold_netlist.specs.Names.{is_among}
use Rattle.hold_netlist.specs.inner.NameTable.{names_of, pairs_of}
use Rattle.hold_netlist.specs.NameTable.{number_of}

-- a look-up by bytes among the entries
pub number_of_entries : (name : List ℕ) (es : List (Vec ℕ Global × ℕ)) → lookup (λ k. bytes_eq name k.items) es ≡ number_of name (pairs_of es)
number_of_entries name [] = refl
number_of_entries name (e ∷ es) = rw (number_of_entries name es) refl

-- a new name stands last
pub pairs_of_added : (es : List (Vec ℕ Global × ℕ)) (k : Vec ℕ Global) (n : ℕ) → number_of k.items (pairs_of es) ≡ None
    → pairs_of (insert_entry (λ a b. bytes_eq a.items b.items) es k n) ≡ pairs_of es ++ (k.items, n) ∷ []
pairs_of_added [] k n none = refl
pairs_of_added (e ∷ es) k n none = by (bytes_eq k.items e.0.items) none (pairs_of_added es k n)
  where
    by : (b : Bool) → cond b (Some e.1) (number_of k.items (pairs_of es)) ≡ None
        → (number_of k.items (pairs_of es) ≡ None → pairs_of (insert_entry (λ a b. bytes_eq a.items b.items) es k n) ≡ pairs_of es ++ (k.items, n) ∷ [])
        → pairs_of (cond b ((e.0, n) ∷ es) (e ∷ insert_entry (λ a b. bytes_eq a.items b.items) es k n)) ≡ pairs_of (e ∷ es) ++ (k.items, n) ∷ []
    by true h rest = cc
    by false h rest = ap (λ ps. (e.0.items, e.1) ∷ ps) (rest h)

-- a name has a number where it is among the names
pub is_some_number : (name : List ℕ) (pairs : List (List ℕ × ℕ)) → is_some (number_of name pairs) ≡ is_among name (names_of pairs)
is_some_number name [] = refl
is_some_number name (p ∷ ps) = by (bytes_eq name p.0) (is_some_number name ps)
  where
    by : (b : Bool) → is_some (number_of name ps) ≡ is_among name (names_of ps) → is_some (cond b (Some p.1) (number_of name ps)) ≡ (b || is_among name (names_of ps))
    by true h = refl
    by false h = h

-- a name is new where it is not among the names
pub is_none_number : (name : List ℕ) (pairs : List (List ℕ × ℕ)) → is_none (number_of name pairs) ≡ not (is_among name (names_of pairs))
is_none_number name pairs = ap not (is_some_number name pairs)

-- what stands in the table once a new name was put into its map
pub added_pair : (old new : List (Vec ℕ Global × ℕ)) (name : List ℕ) (pairs : List (List ℕ × ℕ)) (k : Vec ℕ Global) (n : ℕ)
    → pairs_of old ≡ pairs → k.items ≡ name → false ≡ is_some (number_of name pairs)
    → new ≡ insert_entry (λ a b. bytes_eq a.items b.items) old k n → pairs_of new ≡ pairs ++ (name, n) ∷ []
added_pair old new name pairs k n seen same missing put =
    let none : number_of k.items (pairs_of old) ≡ None = rw (same, seen) (none-is_some _ (sym missing)) in
    ap pairs_of put ∙ pairs_of_added old k n none ∙ rw (same, seen) refl
