-- Chains: how many buffers they have, and that their kinds are among those counted.
use Rattle.std.proofs.Common.{◌≡◌, ℕ, zero, suc, ◌+◌, ◌-◌, ◌*◌, ◌<◌, ◌≤◌, List, [], ◌∷◌, length, take, drop, get_or, true, cond, Some, None, refl, sym, ap, ◌∙◌, ◌⊎◌, inl, inr, arith, length-append}
use Rattle.std.specs.Prelude.{slice_get, position, replicate, sum, ◌==◌, nat_lt}
use Rattle.std.specs.List.{AllByRecursion, position_or_len}
use Rattle.std.proofs.lemmas.Bool.{cases_lt, eq-eqb, ne_eqb}
use Rattle.std.proofs.lemmas.Bool.Decides.{nat_tests}
use Rattle.std.proofs.lemmas.List.{drop_all, drop_more, get_or_past, length-map, length-replicate}
use Rattle.std.proofs.lemmas.List.Sums.{position_or_len_is, sum_by-cons}
use Rattle.std.proofs.lemmas.Option.{get_or_from_slice_get, slice_get-get_or, slice_get_within}
use Rattle.hold_base.proofs.Lists.{AllByRecursion-append}
use Rattle.hold_base.specs.declared.number.PinNo.{PinNo}
use Rattle.hold_graph.specs.Sites.{buffers_of, chain_sum, count_at}
use Rattle.hold_graph.specs.Sums.{Buffers}
use Rattle.hold_graph.proofs.SiteLists.{AreRising}
use Rattle.hold_netlist.specs.declared.kind.Kind.{Kind}
use Rattle.hold_insert.specs.Chains.{Insertion, chain_from, in_front_of, insertions}

-- ---- how many

-- a chain has as many buffers as the counts of its kinds sum up to
pub length-chain_from : (counts : List ℕ) (base place : ℕ) (kinds : List Kind) (of : ℕ → ℕ) → ((k : ℕ) → of k ≡ get_or counts (base + k) 0)
    → length (chain_from place kinds of) ≡ sum (take (length kinds) (drop (base + place) counts))
length-chain_from counts base place [] of same = refl
length-chain_from counts base place (kind ∷ kinds) of same = by (cases_lt (base + place) (length counts)) (length-chain_from counts base (place + 1) kinds of same)
  where
    here : length (chain_from place (kind ∷ kinds) of) ≡ of place + length (chain_from (place + 1) kinds of)
    here = length-append (replicate (of place) kind) (chain_from (place + 1) kinds of) ∙ ap (λ n. n + length (chain_from (place + 1) kinds of)) (length-replicate (of place) kind)

    by : (base + place < length counts) ⊎ (length counts ≤ base + place) → length (chain_from (place + 1) kinds of) ≡ sum (take (length kinds) (drop (base + (place + 1)) counts))
        → length (chain_from place (kind ∷ kinds) of) ≡ sum (take (length (kind ∷ kinds)) (drop (base + place) counts))
    by (inl lt) rest =
        let cut : drop (base + place) counts ≡ get_or counts (base + place) 0 ∷ drop (base + (place + 1)) counts =
        drop_more counts (base + place) 0 lt ∙ ap (λ n. get_or counts (base + place) 0 ∷ drop n counts) (let e : base + place + 1 ≡ base + (place + 1) = omega arith in e) in
        here ∙ ap (λ n. n + length (chain_from (place + 1) kinds of)) (same place) ∙ ap (λ n. get_or counts (base + place) 0 + n) rest
        ∙ sym (sum_by-cons (λ (x : ℕ). x) (get_or counts (base + place) 0) (take (length kinds) (drop (base + (place + 1)) counts)))
        ∙ ap (λ l. sum (take (length (kind ∷ kinds)) l)) (sym cut)
    by (inr le) rest =
        let none : drop (base + place) counts ≡ [] = drop_all (base + place) counts le in
        let none_later : drop (base + (place + 1)) counts ≡ [] = drop_all (base + (place + 1)) counts (omega arith) in
        let zero_here : of place ≡ 0 = same place ∙ get_or_past counts (base + place) 0 le in
        let zero_later : length (chain_from (place + 1) kinds of) ≡ 0 = rest ∙ ap (λ l. sum (take (length kinds) l)) none_later ∙ empty (length kinds) in
        here ∙ ap (λ n. n + length (chain_from (place + 1) kinds of)) zero_here ∙ ap (λ n. 0 + n) zero_later ∙ sym (empty (length (kind ∷ kinds))) ∙ ap (λ l. sum (take (length (kind ∷ kinds)) l)) (sym none)
      where
        empty : (n : ℕ) → sum (take n []) ≡ 0
        empty zero = refl
        empty (suc n) = refl

-- rising pins have their places
pub position-at : (sites : List PinNo) → AreRising sites → (j : ℕ) (pin : PinNo) → slice_get sites j ≡ Some pin → position (λ site. site.0 == pin.0) sites ≡ Some j
position-at sites rising j pin at =
    let inside = slice_get_within sites j pin at in
    let first : position_or_len (λ site. site.0 == pin.0) sites ≡ j =
    position_or_len_is (λ site. site.0 == pin.0) sites j pin (omega arith)
    (λ k lt. let less = rising k j (get_or sites k pin) pin lt (slice_get-get_or sites k pin (omega arith)) at in ne_eqb (get_or sites k pin).0 pin.0 (λ e. omega arith))
    (λ lt. eq-eqb (get_or sites j pin).0 pin.0 (ap (λ (p : PinNo). p.0) (get_or_from_slice_get sites j pin pin at))) in
    let test : nat_lt (position_or_len (λ site. site.0 == pin.0) sites) (length sites) ≡ true = grind (arith, nat_tests) in
    ap (λ b. cond b (Some (position_or_len (λ site. site.0 == pin.0) sites)) None) test ∙ ap (λ n. Some n) first

-- the counts at the site of a place
pub buffers_of-at : (kinds : ℕ) (sites : List PinNo) (counts : List ℕ) → AreRising sites → (j : ℕ) (pin : PinNo) → slice_get sites j ≡ Some pin
    → (k : ℕ) → buffers_of kinds sites counts pin k ≡ get_or counts (j * kinds + k) 0
buffers_of-at kinds sites counts rising j pin at k = ap (λ o. count_at kinds counts o k) (position-at sites rising j pin at)

-- so a site's chain has as many buffers as are counted there
pub length-chain : (kinds : List Kind) (sites : List PinNo) (counts : List ℕ) → AreRising sites → (j : ℕ) (pin : PinNo) → slice_get sites j ≡ Some pin
    → length (chain_from 0 kinds (buffers_of (length kinds) sites counts pin)) ≡ chain_sum (length kinds) counts j
length-chain kinds sites counts rising j pin at =
    length-chain_from counts (j * length kinds) 0 kinds (buffers_of (length kinds) sites counts pin) (buffers_of-at (length kinds) sites counts rising j pin at)
    ∙ ap (λ n. sum (take (length kinds) (drop n counts))) (let e : j * length kinds + 0 ≡ j * length kinds = omega arith in e)
    ∙ ap (λ n. sum (take n (drop (j * length kinds) counts))) (let e : length kinds ≡ (j * length kinds + length kinds) - j * length kinds = omega arith in e)

pub length-insertions : (kinds : List Kind) (buffers : Buffers) (most : ℕ) (sites : List PinNo) → AllByRecursion (λ site. length (chain_from 0 kinds (buffers site)) ≤ most) sites
    → length (insertions kinds sites buffers) ≤ length sites * most
length-insertions kinds buffers most [] few = omega arith
length-insertions kinds buffers most (site ∷ sites) few =
    let rest = length-insertions kinds buffers most sites few.1 in
    let here = few.0 in
    let long = length-map (chain_from 0 kinds (buffers site)) (λ (kind : Kind). let x : Insertion = record { pin = site; kind = kind } in x) in
    let both = length-append (in_front_of site (chain_from 0 kinds (buffers site))) (insertions kinds sites buffers) in
    omega arith

-- ---- of which kinds

replicate-all : {X : Type 0} (P : X → Type 0) (n : ℕ) (x : X) → P x → AllByRecursion P (replicate n x)
replicate-all P zero x h = tt
replicate-all P (suc n) x h = (h, replicate-all P n x h)

pub chain-all : (P : Kind → Type 0) (place : ℕ) (kinds : List Kind) (of : ℕ → ℕ) → AllByRecursion P kinds → AllByRecursion P (chain_from place kinds of)
chain-all P place [] of h = tt
chain-all P place (kind ∷ kinds) of h = AllByRecursion-append P (replicate (of place) kind) (chain_from (place + 1) kinds of) (replicate-all P (of place) kind h.0) (chain-all P (place + 1) kinds of h.1)
