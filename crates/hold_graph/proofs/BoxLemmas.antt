-- Boxes: the root box and the halves of a box are boxes, a point is in one of the halves, and every buffering is a point of the
-- root box.
use Rattle.std.proofs.Common.{◌≡◌, ℕ, zero, suc, ◌+◌, ◌*◌, ◌/◌, ◌%◌, ◌-◌, ◌<◌, ◌≤◌, List, [], ◌∷◌, length, drop, take, sym, ap, ◌∙◌, ◌⊎◌, inl, inr, arith}
use Rattle.std.specs.Prelude.{replicate, slice_index, slice_set, sum}
use Rattle.std.specs.List.{AllZip}
use Rattle.std.proofs.lemmas.List.{length-set, length-replicate}
use Rattle.std.proofs.lemmas.List.Elements.{All-set, All-replicate}
use Rattle.std.proofs.lemmas.Slice.Zip.{AllZip-long}
use Rattle.hold_base.specs.Limits.{chain_limit}
use Rattle.std.proofs.lemmas.Bool.{cases_order}
use Rattle.std.proofs.lemmas.List.Sums.{sum_by-cons}
use Rattle.std.proofs.lemmas.Nat.{div-add-mod'}
use Rattle.std.proofs.Math.Nat.{mod-lt, mul-le-mul_right}
use Rattle.hold_base.specs.declared.number.PinNo.{PinNo}
use Rattle.hold_base.specs.declared.number.VarNo.{VarNo}
use Rattle.hold_graph.specs.declared.problem.Problem.{Problem}
use Rattle.hold_graph.specs.Problem.{IsValid}
use Rattle.hold_graph.specs.Sites.{chain_sum, IsBuffering}
use Rattle.hold_graph.specs.declared.boxed.Boxed.{Boxed}
use Rattle.hold_graph.specs.Boxes.{IsBox, AreWithin, IsPoint, IsPlace, root_box, lower_half, upper_half}

within-halves : (lows highs counts : List ℕ) (var at : ℕ) → AreWithin lows highs counts →
    AreWithin lows (slice_set highs var at) counts ⊎ AreWithin (slice_set lows var (at + 1)) highs counts
within-halves [] [] [] var at h = inl h
within-halves [] [] (count ∷ counts) var at h = absurd h
within-halves [] (high ∷ highs) counts var at h = absurd h
within-halves (low ∷ lows) [] counts var at h = absurd h
within-halves (low ∷ lows) (high ∷ highs) [] var at h = absurd h
within-halves (low ∷ lows) (high ∷ highs) (count ∷ counts) zero at h =
    elim (cases_order count at) [ inl same ↦ inl (h.0, omega arith, h.2) | inr other ↦ elim other [ inl below ↦ inl (h.0, omega arith, h.2) | inr above ↦ inr (omega arith, h.1, h.2) ] ]
within-halves (low ∷ lows) (high ∷ highs) (count ∷ counts) (suc var) at h =
    elim (within-halves lows highs counts var at h.2) [ inl rest ↦ inl (h.0, h.1, rest) | inr rest ↦ inr (h.0, h.1, rest) ]

-- a point of a box is in one of its halves
pub in_a_half : (box : Boxed) (counts : List ℕ) (var : VarNo) (at : ℕ) → IsPoint box counts →
    IsPoint (lower_half var at box) counts ⊎ IsPoint (upper_half var at box) counts
in_a_half box counts var at h = within-halves box.low box.high counts var.0 at h

-- counts that are each at most a number are within as many boxes from 0 to it
within-all : (counts : List ℕ) (n most : ℕ) → length counts ≡ n → ((var : ℕ) → var < length counts → slice_index counts var ≤ most) →
    AreWithin (replicate n 0) (replicate n most) counts
within-all [] zero most len each = tt
within-all [] (suc n) most len each = absurd (omega arith)
within-all (count ∷ counts) zero most len each = absurd (omega arith)
within-all (count ∷ counts) (suc n) most len each =
    (omega arith, each 0 (omega arith), within-all counts n most (omega arith) (λ var below. each (suc var) (omega arith)))

item-sum : (xs : List ℕ) (n at : ℕ) → at < n → slice_index xs at ≤ sum (take n xs)
item-sum [] n at below = omega arith
item-sum (x ∷ xs) zero at below = absurd (omega arith)
item-sum (x ∷ xs) (suc n) zero below = let whole = sum_by-cons (λ (y : ℕ). y) x (take n xs) in omega (arith, whole)
item-sum (x ∷ xs) (suc n) (suc at) below =
    let rest = item-sum xs n at (omega arith) in let whole = sum_by-cons (λ (y : ℕ). y) x (take n xs) in omega (arith, rest, whole)

-- an item of a range is at most the range's sum
range-sum : (xs : List ℕ) (from n at place : ℕ) → place ≡ from + at → at < n → slice_index xs place ≤ sum (take n (drop from xs))
range-sum xs zero n at place is below = let same : place ≡ at = omega arith in rw same (item-sum xs n at below)
range-sum [] (suc from) n at place is below = omega arith
range-sum (x ∷ xs) (suc from) n at zero is below = absurd (omega arith)
range-sum (x ∷ xs) (suc from) n at (suc place) is below = range-sum xs from n at place (omega arith) below

-- a variable's count is at most the sum at its site
count-at_site : (kinds : ℕ) (counts : List ℕ) (sites most : ℕ) → length counts ≡ sites * kinds →
    ((site : ℕ) → site < sites → chain_sum kinds counts site ≤ most) → (var : ℕ) → var < length counts → slice_index counts var ≤ most
count-at_site zero counts sites most len chains var below = absurd (omega arith)
count-at_site (suc kinds) counts sites most len chains var below =
    let parts : var / suc kinds * suc kinds + var % suc kinds ≡ var = div-add-mod' var (suc kinds) in
    let kind : var % suc kinds < suc kinds = mod-lt var (omega arith) in
    let there : var / suc kinds < sites = elim (cases_order sites (var / suc kinds)) [
      | inl same ↦ absurd (let more = ap (λ n. n * suc kinds) same in omega (arith, more, parts))
      | inr other ↦ elim other [ inl past ↦ absurd (let more = mul-le-mul_right (suc kinds) (past) in omega (arith, more, parts)) | inr lt ↦ lt ]
    ] in
    let here = range-sum counts (var / suc kinds * suc kinds) (var / suc kinds * suc kinds + suc kinds - var / suc kinds * suc kinds) (var % suc kinds) var (sym parts) (omega (arith, kind)) in
    let limit = chains (var / suc kinds) there in
    omega (arith, here, limit)

-- every buffering is a point of the root box
pub buffering-in_root : (problem : Problem) (sites : List PinNo) (counts : List ℕ) → IsBuffering problem sites counts → IsPoint (root_box problem sites) counts
buffering-in_root problem sites counts h =
    within-all counts (length sites * length problem.costs) problem.max_chain h.each
    (count-at_site (length problem.costs) counts (length sites) problem.max_chain h.each h.chains)

-- lows that are each at most its high
abbrev AreOrdered : List ℕ → List ℕ → Type 0
AreOrdered lows highs = AllZip (λ low high. low ≤ high) lows highs

ordered-replicate : (n most : ℕ) → AreOrdered (replicate n 0) (replicate n most)
ordered-replicate zero most = tt
ordered-replicate (suc n) most = (omega arith, ordered-replicate n most)

ordered-lower : (lows highs : List ℕ) (var at : ℕ) → AreOrdered lows highs → slice_index lows var ≤ at → AreOrdered lows (slice_set highs var at)
ordered-lower [] [] var at h from_low = h
ordered-lower [] (high ∷ highs) var at h from_low = absurd h
ordered-lower (low ∷ lows) [] var at h from_low = absurd h
ordered-lower (low ∷ lows) (high ∷ highs) zero at h from_low = (from_low, h.1)
ordered-lower (low ∷ lows) (high ∷ highs) (suc var) at h from_low = (h.0, ordered-lower lows highs var at h.1 from_low)

ordered-upper : (lows highs : List ℕ) (var at : ℕ) → AreOrdered lows highs → at < slice_index highs var → AreOrdered (slice_set lows var (at + 1)) highs
ordered-upper [] [] var at h below_high = h
ordered-upper [] (high ∷ highs) var at h below_high = absurd h
ordered-upper (low ∷ lows) [] var at h below_high = absurd h
ordered-upper (low ∷ lows) (high ∷ highs) zero at h below_high = (omega arith, h.1)
ordered-upper (low ∷ lows) (high ∷ highs) (suc var) at h below_high = (h.0, ordered-upper lows highs var at h.1 below_high)

-- the root box is a box, and so are the halves at a place
pub root-is_box : (problem : Problem) (sites : List PinNo) → IsValid problem → IsBox problem sites (root_box problem sites)
root-is_box problem sites valid = record {
  each = length-replicate (length sites * length problem.costs) 0;
  ordered = ordered-replicate (length sites * length problem.costs) problem.max_chain;
  most = All-replicate (λ high. high ≤ chain_limit) (length sites * length problem.costs) problem.max_chain valid.max_chain;
}

pub lower-is_box : (problem : Problem) (sites : List PinNo) (box : Boxed) (var : VarNo) (at : ℕ) → IsBox problem sites box → IsPlace var at box →
    IsBox problem sites (lower_half var at box)
lower-is_box problem sites box var at h place =
    let long = AllZip-long (λ low high. low ≤ high) box.low box.high h.ordered in
    let there : var.0 < length box.high = let below = place.there in omega (arith, long, below) in
    let limit : slice_index box.high var.0 ≤ chain_limit = h.most var.0 0 there in
    let below = place.below_high in
    record {
      each = h.each;
      ordered = ordered-lower box.low box.high var.0 at h.ordered place.from_low;
      most = All-set (λ high. high ≤ chain_limit) box.high var.0 at (omega (arith, limit, below)) h.most;
    }

pub upper-is_box : (problem : Problem) (sites : List PinNo) (box : Boxed) (var : VarNo) (at : ℕ) → IsBox problem sites box → IsPlace var at box →
    IsBox problem sites (upper_half var at box)
upper-is_box problem sites box var at h place = record {
  each = length-set box.low var.0 (at + 1) ∙ h.each;
  ordered = ordered-upper box.low box.high var.0 at h.ordered place.below_high;
  most = h.most;
}
