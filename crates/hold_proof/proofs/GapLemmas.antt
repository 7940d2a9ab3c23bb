-- Gaps: a cost and factors over a box come to at least the cost of the lows and the gaps, and some counts come to just that.
use Rattle.std.proofs.Common.{◌≡◌, ℕ, zero, suc, ◌+◌, ◌*◌, ◌<◌, ◌≤◌, List, [], ◌∷◌, length, get_or, set, replicate, refl, ap, ◌∙◌, arith}
use Rattle.std.specs.Prelude.{ℤ, pos, negsuc, neg_ℤ, ◌+ℤ◌, ◌-ℤ◌, ◌*ℤ◌, ◌≤ℤ◌, ◌<ℤ◌, unsigned_abs}
use Rattle.std.specs.List.{AllZip}
use Rattle.std.proofs.lemmas.Int.{ints}
use Rattle.std.proofs.Math.Nat.{mul-le-mul_left, mul-le-mul_right}
use Rattle.hold_graph.specs.Sites.{cost_from}
use Rattle.hold_graph.specs.Boxes.{AreWithin}
use Rattle.hold_proof.specs.inner.Forms.{form_value}
use Rattle.hold_proof.specs.inner.Gaps.{least_times, step_of, gap, gaps}
use Rattle.hold_proof.proofs.Magnitudes.{unsigned_abs-le}
use Rattle.hold_proof.proofs.Products.{times-add_left, times-neg_left}

-- a number that isn't below 0 times more
times-more : (factor : ℤ) (less more : ℕ) → pos 0 ≤ℤ factor → less ≤ more → (factor *ℤ pos less) ≤ℤ (factor *ℤ pos more)
times-more (pos n) less more h le = let grows = mul-le-mul_left n le in omega (arith, ints, grows)
times-more (negsuc n) less more h le = absurd (omega (arith, ints))

times-more_below : (factor : ℤ) (less more : ℕ) → factor <ℤ pos 0 → less ≤ more → (factor *ℤ pos more) ≤ℤ (factor *ℤ pos less)
times-more_below factor less more h le =
    let turned = times-more (neg_ℤ factor) less more (omega (arith, ints, h)) le in
    let first = times-neg_left factor (pos less) in
    let second = times-neg_left factor (pos more) in
    omega (arith, ints, turned, first, second)

pub least_times-below : (factor : ℤ) (low high : ℕ) → factor <ℤ pos 0 → least_times factor low high ≡ factor *ℤ pos high
least_times-below (pos n) low high h = absurd (omega (arith, ints, h))
least_times-below (negsuc n) low high h = refl

pub least_times-above : (factor : ℤ) (low high : ℕ) → pos 0 ≤ℤ factor → least_times factor low high ≡ factor *ℤ pos low
least_times-above (pos n) low high h = refl
least_times-above (negsuc n) low high h = absurd (omega (arith, ints, h))

pub least_times-bound : (factor : ℤ) (low high count : ℕ) → low ≤ count → count ≤ high → least_times factor low high ≤ℤ (factor *ℤ pos count)
least_times-bound (pos n) low high count from to = times-more (pos n) low count (omega (arith, ints)) from
least_times-bound (negsuc n) low high count from to = times-more_below (negsuc n) count high (omega (arith, ints)) to

-- the count that comes to the least
abbrev least_count : ℤ → ℕ → ℕ → ℕ
least_count (pos n) low high = low
least_count (negsuc n) low high = high

least_count-is : (factor : ℤ) (low high : ℕ) → low ≤ high → (low ≤ least_count factor low high) × (least_count factor low high ≤ high) × ((factor *ℤ pos (least_count factor low high)) ≡ least_times factor low high)
least_count-is (pos n) low high le = (omega arith, le, refl)
least_count-is (negsuc n) low high le = (le, omega arith, refl)

-- one variable's part of a cost, taken so often
cost-first : (costs : List ℕ) (scale var count : ℕ) (counts : List ℕ) →
    pos (scale * cost_from costs var (count ∷ counts)) ≡ (pos (step_of costs scale var) *ℤ pos count) +ℤ pos (scale * cost_from costs (var + 1) counts)
cost-first costs scale var count counts = omega (arith, ints)

pub gaps-bound : (costs : List ℕ) (scale var : ℕ) (factors : List ℤ) (lows highs counts : List ℕ) → length factors ≡ length lows → AreWithin lows highs counts →
    (pos (scale * cost_from costs var lows) +ℤ gaps costs scale var factors lows highs) ≤ℤ (pos (scale * cost_from costs var counts) +ℤ form_value factors counts)
gaps-bound costs scale var [] [] [] [] each within = omega (arith, ints)
gaps-bound costs scale var [] [] [] (count ∷ counts) each within = absurd within
gaps-bound costs scale var [] [] (high ∷ highs) counts each within = absurd within
gaps-bound costs scale var [] (low ∷ lows) highs counts each within = absurd (omega arith)
gaps-bound costs scale var (factor ∷ factors) [] highs counts each within = absurd (omega arith)
gaps-bound costs scale var (factor ∷ factors) (low ∷ lows) [] counts each within = absurd within
gaps-bound costs scale var (factor ∷ factors) (low ∷ lows) (high ∷ highs) [] each within = absurd within
gaps-bound costs scale var (factor ∷ factors) (low ∷ lows) (high ∷ highs) (count ∷ counts) each within =
    let rest = gaps-bound costs scale (var + 1) factors lows highs counts (omega arith) within.2 in
    let here = least_times-bound (pos (step_of costs scale var) +ℤ factor) low high count within.0 within.1 in
    let sum = times-add_left (pos (step_of costs scale var)) factor (pos count) in
    let first = cost-first costs scale var low lows in
    let second = cost-first costs scale var count counts in
    omega (arith, ints, rest, here, sum, first, second)

-- counts that come to the least
abbrev least_counts : List ℕ → ℕ → ℕ → List ℤ → List ℕ → List ℕ → List ℕ
least_counts costs scale var [] lows highs = []
least_counts costs scale var (factor ∷ factors) [] highs = []
least_counts costs scale var (factor ∷ factors) (low ∷ lows) [] = []
least_counts costs scale var (factor ∷ factors) (low ∷ lows) (high ∷ highs) =
    least_count (pos (step_of costs scale var) +ℤ factor) low high ∷ least_counts costs scale (var + 1) factors lows highs

record AreLeast (costs : List ℕ) (scale var : ℕ) (factors : List ℤ) (lows highs counts : List ℕ) : Type 0 where
  within : AreWithin lows highs counts
  value : pos (scale * cost_from costs var counts) +ℤ form_value factors counts ≡ pos (scale * cost_from costs var lows) +ℤ gaps costs scale var factors lows highs

least_counts-are : (costs : List ℕ) (scale var : ℕ) (factors : List ℤ) (lows highs : List ℕ) → length factors ≡ length lows → AllZip (λ low high. low ≤ high) lows highs →
    AreLeast costs scale var factors lows highs (least_counts costs scale var factors lows highs)
least_counts-are costs scale var [] [] [] each ordered = record { within = tt; value = omega (arith, ints) }
least_counts-are costs scale var [] [] (high ∷ highs) each ordered = absurd ordered
least_counts-are costs scale var [] (low ∷ lows) highs each ordered = absurd (omega arith)
least_counts-are costs scale var (factor ∷ factors) [] highs each ordered = absurd (omega arith)
least_counts-are costs scale var (factor ∷ factors) (low ∷ lows) [] each ordered = absurd ordered
least_counts-are costs scale var (factor ∷ factors) (low ∷ lows) (high ∷ highs) each ordered =
    let rest = least_counts-are costs scale (var + 1) factors lows highs (omega arith) ordered.1 in
    let here = least_count-is (pos (step_of costs scale var) +ℤ factor) low high ordered.0 in
    let value = here.2 in
    let sum = times-add_left (pos (step_of costs scale var)) factor (pos (least_count (pos (step_of costs scale var) +ℤ factor) low high)) in
    let first = cost-first costs scale var low lows in
    let second = cost-first costs scale var (least_count (pos (step_of costs scale var) +ℤ factor) low high) (least_counts costs scale (var + 1) factors lows highs) in
    record { within = (here.0, here.1, rest.within); value = omega (arith, ints, rest.value, value, sum, first, second) }

pub gaps-attained : (costs : List ℕ) (scale var : ℕ) (factors : List ℤ) (lows highs : List ℕ) → length factors ≡ length lows → AllZip (λ low high. low ≤ high) lows highs →
    (counts : List ℕ) × AreWithin lows highs counts
    × (pos (scale * cost_from costs var counts) +ℤ form_value factors counts ≡ pos (scale * cost_from costs var lows) +ℤ gaps costs scale var factors lows highs)
gaps-attained costs scale var factors lows highs each ordered =
    let are = least_counts-are costs scale var factors lows highs each ordered in
    (least_counts costs scale var factors lows highs, are.within, are.value)

-- a change of one factor changes its gap alone
pub gaps-set : (costs : List ℕ) (scale first : ℕ) (factors : List ℤ) (lows highs : List ℕ) (var : ℕ) (factor : ℤ) → var < length factors → length factors ≡ length lows → length lows ≡ length highs →
    gaps costs scale first (set factors var factor) lows highs +ℤ gap (step_of costs scale (first + var)) (get_or factors var (pos 0)) (get_or lows var 0) (get_or highs var 0)
    ≡ gaps costs scale first factors lows highs +ℤ gap (step_of costs scale (first + var)) factor (get_or lows var 0) (get_or highs var 0)
gaps-set costs scale first [] lows highs var factor there lows_each highs_each = absurd (omega arith)
gaps-set costs scale first (old ∷ factors) [] highs var factor there lows_each highs_each = absurd (omega arith)
gaps-set costs scale first (old ∷ factors) (low ∷ lows) [] var factor there lows_each highs_each = absurd (omega arith)
gaps-set costs scale first (old ∷ factors) (low ∷ lows) (high ∷ highs) zero factor there lows_each highs_each =
    let same : first + 0 ≡ first = omega arith in rw same (omega (arith, ints))
gaps-set costs scale first (old ∷ factors) (low ∷ lows) (high ∷ highs) (suc var) factor there lows_each highs_each =
    let rest = gaps-set costs scale (first + 1) factors lows highs var factor (omega arith) (omega arith) (omega arith) in
    let same : first + suc var ≡ (first + 1) + var = omega arith in
    rw same (omega (arith, ints, rest))

-- no factor, no gap
pub gap-none : (step low high : ℕ) → gap step (pos 0) low high ≡ pos 0
gap-none step low high =
    let whole = least_times-above (pos step +ℤ pos 0) low high (omega (arith, ints)) in
    omega (arith, ints, whole)

pub gaps-none : (costs : List ℕ) (scale var n : ℕ) (lows highs : List ℕ) → gaps costs scale var (replicate n (pos 0)) lows highs ≡ pos 0
gaps-none costs scale var zero lows highs = refl
gaps-none costs scale var (suc n) [] highs = refl
gaps-none costs scale var (suc n) (low ∷ lows) [] = refl
gaps-none costs scale var (suc n) (low ∷ lows) (high ∷ highs) =
    let here = gap-none (step_of costs scale var) low high in
    let rest = gaps-none costs scale (var + 1) n lows highs in
    omega (arith, ints, here, rest)

-- the gap of a factor is at most as large as the factor with the greatest count, 16
pub gap-size : (step : ℕ) (factor : ℤ) (low high : ℕ) → low ≤ high → high ≤ 16 → unsigned_abs (gap step factor low high) ≤ 16 * unsigned_abs factor
gap-size step (pos n) low high ordered most =
    let whole = least_times-above (pos step +ℤ pos n) low high (omega (arith, ints)) in
    let grows = mul-le-mul_left n (le_trans ordered most) in
    unsigned_abs-le (gap step (pos n) low high) (16 * n) (record { low = omega (arith, ints, whole, grows); high = omega (arith, ints, whole, grows) })
  where
    le_trans : low ≤ high → high ≤ 16 → low ≤ 16
    le_trans a b = omega arith
gap-size step (negsuc n) low high ordered most = by_sign (pos step +ℤ negsuc n) refl
  where
    both : low ≤ 16
    both = omega arith

    by_sign : (whole : ℤ) → whole ≡ pos step +ℤ negsuc n → unsigned_abs (gap step (negsuc n) low high) ≤ 16 * suc n
    by_sign (pos m) is =
        let least = least_times-above (pos step +ℤ negsuc n) low high (omega (arith, ints, is)) in
        let sum = times-add_left (pos step) (negsuc n) (pos low) in
        let part : negsuc n *ℤ pos low ≡ neg_ℤ (pos (suc n * low)) = times-neg_left (pos (suc n)) (pos low) in
        let grows = mul-le-mul_left (suc n) both in
        unsigned_abs-le (gap step (negsuc n) low high) (16 * suc n) (record { low = omega (arith, ints, least, sum, part, grows); high = omega (arith, ints, least, sum, part, grows) })
    by_sign (negsuc m) is =
        let least = least_times-below (pos step +ℤ negsuc n) low high (omega (arith, ints, is)) in
        let sum = times-add_left (pos step) (negsuc n) (pos high) in
        let part : negsuc n *ℤ pos high ≡ neg_ℤ (pos (suc n * high)) = times-neg_left (pos (suc n)) (pos high) in
        let grows = mul-le-mul_left (suc n) most in
        let up = mul-le-mul_left step ordered in
        let less : step ≤ n = omega (arith, ints, is) in
        let down = mul-le-mul_right high less in
        unsigned_abs-le (gap step (negsuc n) low high) (16 * suc n) (record { low = omega (arith, ints, least, sum, part, grows, up); high = omega (arith, ints, least, sum, part, up, down) })

-- a gap, from the least of both and the step's own part
pub gap-value : (step low high low_of : ℕ) (factor whole alone least part : ℤ) → least ≡ least_times whole low high → whole ≡ pos step +ℤ factor →
    part ≡ alone *ℤ pos low_of → alone ≡ pos step → low_of ≡ low → least -ℤ part ≡ gap step factor low high
gap-value step low high low_of factor whole alone least part least_is whole_is part_is alone_is low_is =
    let first = least_is ∙ ap (λ z. least_times z low high) whole_is in
    let second : part ≡ pos (step * low) = part_is ∙ ap (λ z. z *ℤ pos low_of) alone_is ∙ ap (λ n. pos (step * n)) low_is in
    omega (arith, ints, first, second)
