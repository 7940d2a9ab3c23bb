-- The cost of counts: what a change of one does to it, and how much it may be.
use Rattle.std.proofs.Common.{◌≡◌, ℕ, zero, suc, ◌+◌, ◌-◌, ◌*◌, ◌%◌, ◌<◌, ◌≤◌, List, [], ◌∷◌, length, get_or, set, inl, inr, ap, ◌∙◌, arith}
use Rattle.std.specs.Prelude.{All}
use Rattle.std.proofs.lemmas.List.{get_or_past}
use Rattle.std.proofs.lemmas.Bool.{cases_order}
use Rattle.std.proofs.Math.Nat.{mul-le-mul_left, mul-le-mul_right}
use Rattle.hold_base.specs.Limits.{cost_limit}
use Rattle.hold_graph.specs.Sites.{cost_from, cost_of}

pub cost_from-set : (costs : List ℕ) (first : ℕ) (counts : List ℕ) (var count : ℕ) → var < length counts →
    cost_from costs first (set counts var count) + get_or counts var 0 * get_or costs ((first + var) % length costs) 0
    ≡ cost_from costs first counts + count * get_or costs ((first + var) % length costs) 0
cost_from-set costs first [] var count there = absurd (omega arith)
cost_from-set costs first (old ∷ counts) zero count there = let same : first + 0 ≡ first = omega arith in rw same (omega arith)
cost_from-set costs first (old ∷ counts) (suc var) count there =
    let rest = cost_from-set costs (first + 1) counts var count (omega arith) in
    let same : first + suc var ≡ (first + 1) + var = omega arith in
    rw same (omega (arith, rest))

pub cost_from-at : (costs : List ℕ) (first : ℕ) (counts : List ℕ) (var : ℕ) → get_or counts var 0 * get_or costs ((first + var) % length costs) 0 ≤ cost_from costs first counts
cost_from-at costs first [] var = omega arith
cost_from-at costs first (count ∷ counts) zero = let same : first + 0 ≡ first = omega arith in rw same (omega arith)
cost_from-at costs first (count ∷ counts) (suc var) =
    let rest = cost_from-at costs (first + 1) counts var in
    let same : first + suc var ≡ (first + 1) + var = omega arith in
    rw same (omega (arith, rest))

-- a kind's cost is within the limit, also where there is no such kind
pub cost-most : (costs : List ℕ) (kind : ℕ) → All (λ cost. cost ≤ cost_limit) costs → get_or costs kind 0 ≤ cost_limit
cost-most costs kind most = elim (cases_order kind (length costs)) [
  | inl same ↦ none (omega arith)
  | inr other ↦ elim other [ inl there ↦ most kind 0 there | inr past ↦ none (omega arith) ]
]
  where
    none : length costs ≤ kind → get_or costs kind 0 ≤ cost_limit
    none past = let is = get_or_past costs kind 0 past in omega (arith, is)

-- a byte's worth of buffers at most
pub cost_from-most : (costs : List ℕ) (first : ℕ) (counts : List ℕ) → All (λ cost. cost ≤ cost_limit) costs → All (λ count. count < 256) counts →
    cost_from costs first counts ≤ length counts * (255 * cost_limit)
cost_from-most costs first [] most bytes = omega arith
cost_from-most costs first (count ∷ counts) most bytes =
    let rest = cost_from-most costs (first + 1) counts most (λ k d below. bytes (suc k) d (omega arith)) in
    let here : count < 256 = bytes 0 0 (omega arith) in
    let small : count ≤ 255 = omega arith in
    let one = mul-le-mul_left count (cost-most costs (first % length costs) most) in
    let many = mul-le-mul_right cost_limit small in
    omega (arith, rest, one, many)

-- a cost once one count has changed
pub changed-takes : (costs counts : List ℕ) (var cost old each : ℕ) → cost ≡ cost_of costs counts → each ≡ get_or costs (var % length costs) 0 → old ≡ get_or counts var 0 → old * each ≤ cost
changed-takes costs counts var cost old each cost_is each_is old_is =
    let at = cost_from-at costs 0 counts var in
    let same : 0 + var ≡ var = omega arith in
    let here = ap (λ v. get_or counts var 0 * get_or costs (v % length costs) 0) same in
    let product = ap (λ n. n * each) old_is ∙ ap (λ n. get_or counts var 0 * n) each_is in
    omega (arith, at, here, product, cost_is)

pub changed-is : (costs counts : List ℕ) (var count cost old each : ℕ) → cost ≡ cost_of costs counts → each ≡ get_or costs (var % length costs) 0 → old ≡ get_or counts var 0 → var < length counts →
    (cost - old * each) + count * each ≡ cost_of costs (set counts var count)
changed-is costs counts var count cost old each cost_is each_is old_is there =
    let takes = changed-takes costs counts var cost old each cost_is each_is old_is in
    let change = cost_from-set costs 0 counts var count there in
    let same : 0 + var ≡ var = omega arith in
    let before = ap (λ v. get_or counts var 0 * get_or costs (v % length costs) 0) same in
    let after = ap (λ v. count * get_or costs (v % length costs) 0) same in
    let product = ap (λ n. n * each) old_is ∙ ap (λ n. get_or counts var 0 * n) each_is in
    let second = ap (λ n. count * n) each_is in
    omega (arith, takes, change, before, after, product, second, cost_is)

pub changed-room : (costs counts : List ℕ) (var count cost each : ℕ) → cost ≡ cost_of costs counts → each ≡ get_or costs (var % length costs) 0 → All (λ c. c ≤ cost_limit) costs → All (λ c. c < 256) counts →
    length counts ≤ 8388608 → count < 256 → cost + count * each < 18446744073709551616
changed-room costs counts var count cost each cost_is each_is most bytes few small =
    let whole = cost_from-most costs 0 counts most bytes in
    let many = mul-le-mul_right (255 * cost_limit) few in
    let one = mul-le-mul_left count (cost-most costs (var % length costs) most) in
    let second = ap (λ n. count * n) each_is in
    let byte : count ≤ 255 = omega arith in
    let limit = mul-le-mul_right cost_limit byte in
    omega (arith, whole, many, one, second, limit, cost_is)
