-- The pin of a check, as the groups around it are gone through.
use Rattle.std.proofs.Common.{◌≡◌, ℕ, zero, suc, ◌<◌, ◌≤◌, true, Option, Some, None, List, [], ◌∷◌, length, refl, sym, ap, subst, arith}
use Rattle.std.specs.Prelude.{if◌then◌else◌}
use Rattle.hold_sdflex.specs.Items.{Token, Group, Item, Atom, Text, Colon, Nested, atom, string, colon, closes, opens, items_behind, items_in, behind}
use Rattle.hold_sdf.specs.Keywords.{is_word, cond_words}
use Rattle.hold_sdf.specs.Shapes.{keyword, keyword_in, edge_pin, last_behind, last_of, spec_by, depth_of, spec_of}
use Rattle.hold_sdf.specs.inner.Steps.{spec_in}

-- items whose groups all have fewer tokens than so many
abbrev Within : ℕ → List Item → Type 0
Within n [] = Unit {0}
Within n (item ∷ rest) = (depth_of (Some item) ≤ n) × Within n rest

within_more : (n m : ℕ) (items : List Item) → n ≤ m → Within n items → Within m items
within_more n m [] more within = tt
within_more n m (item ∷ rest) more within = (omega (arith, within.0), within_more n m rest more within.1)

-- a group has fewer tokens than the list that it stands in
items-within : (skip : ℕ) (ts : List Token) → Within (length ts) (items_behind skip ts)
items-within skip [] = tt
items-within (suc skip) (t ∷ ts) = within_more (length ts) (suc (length ts)) (items_behind skip ts) (omega arith) (items-within skip ts)
items-within zero (atom w ∷ ts) = (omega arith, within_more (length ts) (suc (length ts)) (items_behind 0 ts) (omega arith) (items-within 0 ts))
items-within zero (string ∷ ts) = (omega arith, within_more (length ts) (suc (length ts)) (items_behind 0 ts) (omega arith) (items-within 0 ts))
items-within zero (colon ∷ ts) = (omega arith, within_more (length ts) (suc (length ts)) (items_behind 0 ts) (omega arith) (items-within 0 ts))
items-within zero (closes ∷ ts) = tt
items-within zero (opens at far ∷ ts) = (omega arith, within_more (length ts) (suc (length ts)) (items_behind far ts) (omega arith) (items-within far ts))

behind-within : (n : ℕ) (items : List Item) → Within n items → Within n (behind items)
behind-within n [] within = tt
behind-within n (item ∷ rest) within = within.1

last-within : (n : ℕ) (so_far : Option Item) (items : List Item) → depth_of so_far ≤ n → Within n items → depth_of (last_behind so_far items) ≤ n
last-within n so_far [] low within = low
last-within n so_far (item ∷ rest) low within = last-within n (Some item) rest within.0 within.1

pub last_of-depth : (ts : List Token) → depth_of (last_of (behind (items_in ts))) ≤ length ts
unfolding items_in last_of
last_of-depth ts = last-within (length ts) None (behind (items_behind 0 ts)) (omega arith) (behind-within (length ts) (items_behind 0 ts) (items-within 0 ts))

-- going deeper than an item goes changes nothing
spec_by-same : (d e : ℕ) (item : Option Item) → depth_of item ≤ d → depth_of item ≤ e → spec_by d item ≡ spec_by e item
spec_by-same d e None low less = refl
spec_by-same d e (Some (Atom w)) low less = refl
spec_by-same d e (Some Text) low less = refl
spec_by-same d e (Some Colon) low less = refl
spec_by-same zero e (Some (Nested g)) low less = absurd (omega arith)
spec_by-same (suc d) zero (Some (Nested g)) low less = absurd (omega arith)
spec_by-same (suc d) (suc e) (Some (Nested g)) low less =
    let deep : depth_of (last_of (behind (items_in g.inner))) ≤ length g.inner = last_of-depth g.inner in
    ap (λ w. if is_word cond_words (keyword_in g) then w else edge_pin (items_in g.inner))
    (spec_by-same d e (last_of (behind (items_in g.inner))) (omega arith) (omega arith))

-- the pin within a group: that of an edge, or of a condition's last item
pub spec_of_group : (g : Group) → spec_of (Some (Nested g)) ≡ spec_in g.inner
unfolding spec_of
spec_of_group g =
    ap (λ w. if is_word cond_words (keyword_in g) then w else edge_pin (items_in g.inner))
    (spec_by-same (length g.inner) (depth_of (last_of (behind (items_in g.inner)))) (last_of (behind (items_in g.inner))) (last_of-depth g.inner) (omega arith))

-- one group further in
pub spec_in-deeper : (ts : List Token) (g : Group) → is_word cond_words (keyword (items_in ts)) ≡ true → last_of (behind (items_in ts)) ≡ Some (Nested g) → spec_in g.inner ≡ spec_in ts
spec_in-deeper ts g cond last = rw (cond, last) (sym (spec_of_group g))

pub spec_in-smaller : (ts : List Token) (g : Group) → last_of (behind (items_in ts)) ≡ Some (Nested g) → length g.inner < length ts
spec_in-smaller ts g last = let deep = last_of-depth ts in let same : depth_of (Some (Nested g)) ≤ length ts = subst (λ o. depth_of o ≤ length ts) last deep in omega arith
