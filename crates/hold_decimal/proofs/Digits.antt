-- Digits: what lists of them are worth, counted up to a cap and cut in two.
use Rattle.std.proofs.Common.{◌≡◌, ℕ, suc, zero, ◌+◌, ◌-◌, ◌*◌, ◌^◌, ◌<◌, ◌≤◌, ◌⊎◌, min, ◌≢◌, List, [], ◌∷◌, ◌++◌, length, take, drop, ap, sym, subst, add-one, ◌∙◌, arith, length-append, inl, inr}
use Rattle.std.proofs.Math.Nat.{pow-suc, mul-le-mul, mul-le-mul_right, mul-le-mul_left, mul-lt-mul_of_pos_right}
use Rattle.std.proofs.lemmas.Nat.{pow-add}
use Rattle.std.proofs.lemmas.Bool.{cases_lt}
use Rattle.hold_decimal.specs.Numeral.{AllDigits}
use Rattle.hold_base.specs.Digits.{number_of}
use Rattle.hold_base.proofs.Digits.{ten-pos, ten-split, ten-mono}

-- the digits in front count as many tens more as there are digits behind
pub number_of-append : (xs ys : List ℕ) → number_of (xs ++ ys) ≡ number_of xs * 10 ^ length ys + number_of ys
number_of-append [] ys = omega arith
number_of-append (x ∷ xs) ys =
    let tens : 10 ^ length (xs ++ ys) ≡ 10 ^ length xs * 10 ^ length ys = ap (λ n. 10 ^ n) (length-append xs ys) ∙ pow-add 10 (length xs) (length ys) in
    omega (arith, number_of-append xs ys, ap (λ t. (x - 48) * t) tens)

-- a number is below the power of ten that has as many raised as it has digits
pub number_of-below : (xs : List ℕ) → AllDigits xs → number_of xs < 10 ^ length xs
number_of-below [] d = omega arith
number_of-below (x ∷ xs) d =
    let first : x - 48 ≤ 9 = omega arith in
    omega (arith, number_of-below xs d.2, pow-suc 10 (length xs), mul-le-mul_right (10 ^ length xs) first)

pub AllDigits-append : (xs ys : List ℕ) → AllDigits xs → AllDigits ys → AllDigits (xs ++ ys)
AllDigits-append [] ys d e = e
AllDigits-append (x ∷ xs) ys d e = (d.0, d.1, AllDigits-append xs ys d.2 e)

pub AllDigits-take : (n : ℕ) (xs : List ℕ) → AllDigits xs → AllDigits (take n xs)
AllDigits-take zero xs d = tt
AllDigits-take (suc n) [] d = tt
AllDigits-take (suc n) (x ∷ xs) d = (d.0, d.1, AllDigits-take n xs d.2)

pub AllDigits-drop : (n : ℕ) (xs : List ℕ) → AllDigits xs → AllDigits (drop n xs)
AllDigits-drop zero xs d = d
AllDigits-drop (suc n) [] d = tt
AllDigits-drop (suc n) (x ∷ xs) d = AllDigits-drop n xs d.2

-- stopping a count at a limit before it grows changes nothing above
pub capped : (count tens rest limit : ℕ) → 0 < tens → min (min count limit * tens + rest) limit ≡ min (count * tens + rest) limit
capped count tens rest limit above = capped_by count tens rest limit above (cases_lt count limit)
  where
    capped_by : (count tens rest limit : ℕ) → 0 < tens → (count < limit) ⊎ (limit ≤ count) → min (min count limit * tens + rest) limit ≡ min (count * tens + rest) limit
    capped_by count tens rest limit above (inl less) = let e : min count limit ≡ count = omega arith in ap (λ x. min (x * tens + rest) limit) e
    capped_by count tens rest limit above (inr more) =
        let e : min count limit ≡ limit = omega arith in
        let high : limit * 1 ≤ limit * tens = mul-le-mul_left limit above in
        let first : min (limit * tens + rest) limit ≡ limit = omega arith in
        let second : min (count * tens + rest) limit ≡ limit = omega (arith, mul-le-mul_right tens more) in
        ap (λ x. min (x * tens + rest) limit) e ∙ first ∙ sym second

-- one digit more, where the count stops at a limit
pub capped_digit : (count digit more rest limit : ℕ) → min (min (count * 10 + digit) limit * 10 ^ more + rest) limit ≡ min (count * 10 ^ suc more + (digit * 10 ^ more + rest)) limit
capped_digit count digit more rest limit =
    capped (count * 10 + digit) (10 ^ more) rest limit (ten-pos more)
    ∙ ap (λ x. min x limit) (let e : (count * 10 + digit) * 10 ^ more + rest ≡ count * 10 ^ suc more + (digit * 10 ^ more + rest) = omega (arith, ap (λ t. count * t) (pow-suc 10 more)) in e)

-- value is whole times the denominator and a rest below it
pub record IsParted (value denominator whole rest : ℕ) : Type 0 where
  pub sum : value ≡ whole * denominator + rest
  pub below : rest < denominator

-- the two sums below, over plain numbers
sum_less : (all front back tens lost up down one : ℕ) → all ≡ front * tens + back → front * tens ≡ front * lost → down ≡ lost * up → one ≡ 1 → all * up ≡ front * one * down + back * up
sum_less all front back tens lost up down one cut same split is_one =
    omega (arith, ap (λ x. x * up) cut, ap (λ x. x * up) same, ap (λ x. front * x) split, ap (λ x. front * x * down) is_one)

sum_more : (all front back tens raised up down : ℕ) → all ≡ front * tens + back → tens ≡ 1 → up ≡ raised * down → all * up ≡ front * raised * down + back * up
sum_more all front back tens raised up down cut is_one split =
    omega (arith, ap (λ x. x * up) cut, ap (λ x. front * x * up) is_one, ap (λ x. front * x) split)

-- digits cut in two, where those behind are all that the power of ten below takes away
pub parted : (front back : List ℕ) (up down : ℕ) → AllDigits back → length back ≤ down - up → number_of front * 10 ^ length back ≡ number_of front * 10 ^ (down - up) →
    IsParted (number_of (front ++ back) * 10 ^ up) (10 ^ down) (number_of front * 10 ^ (up - down)) (number_of back * 10 ^ up)
parted front back up down digits short same = parted_by (cases_lt up down)
  where
    parted_by : (up < down) ⊎ (down ≤ up) → IsParted (number_of (front ++ back) * 10 ^ up) (10 ^ down) (number_of front * 10 ^ (up - down)) (number_of back * 10 ^ up)
    parted_by (inl less) =
        let no_raised : 10 ^ (up - down) ≡ 1 = ap (λ n. 10 ^ n) (let e : up - down ≡ 0 = omega arith in e) in
        let split = ten-split up down (omega arith) in
        let small : number_of back < 10 ^ (down - up) = omega (arith, number_of-below back digits, ten-mono (length back) (down - up) short) in
        record {
          sum = sum_less (number_of (front ++ back)) (number_of front) (number_of back) (10 ^ length back) (10 ^ (down - up)) (10 ^ up) (10 ^ down) (10 ^ (up - down)) (number_of-append front back) same split no_raised;
          below = omega (arith, split, mul-lt-mul_of_pos_right small (ten-pos up));
        }
    parted_by (inr more) =
        let split = ten-split down up more in
        let none : 10 ^ length back ≡ 1 = ap (λ n. 10 ^ n) (let e : length back ≡ 0 = omega arith in e) in
        let nothing : number_of back ≡ 0 = omega (arith, number_of-below back digits) in
        record {
          sum = sum_more (number_of (front ++ back)) (number_of front) (number_of back) (10 ^ length back) (10 ^ (up - down)) (10 ^ up) (10 ^ down) (number_of-append front back) none split;
          below = subst (λ x. x * 10 ^ up < 10 ^ down) (sym nothing) (omega (arith, ten-pos down));
        }

-- a first digit other than 0 counts
pub not_zero : (b : ℕ) (bs : List ℕ) → 48 ≤ b → b ≢ 48 → number_of (b ∷ bs) ≢ 0
not_zero b bs low other none =
    let one : 1 ≤ b - 48 = omega arith in
    absurd (omega (arith, mul-le-mul one (ten-pos (length bs))))

-- one zero more behind a count
pub capped_zero : (first count raised limit : ℕ) → count ≡ min (first * 10 ^ raised) limit → min (count * 10) limit ≡ min (first * 10 ^ (raised + 1)) limit
capped_zero first count raised limit e =
    ap (λ x. min x limit) (let one : count * 10 ≡ min (first * 10 ^ raised) limit * 10 + 0 = omega (arith, e) in one)
    ∙ capped (first * 10 ^ raised) 10 0 limit (omega arith)
    ∙ ap (λ x. min x limit) (let one : first * 10 ^ raised * 10 + 0 ≡ first * 10 ^ suc raised = omega (arith, ap (λ x. first * x) (pow-suc 10 raised)) in one)
    ∙ ap (λ k. min (first * 10 ^ k) limit) (sym (add-one raised))

-- the number of all digits, from a count of those before the point and one of those after it
pub capped_all : (whole part : List ℕ) (raised limit : ℕ) → min (min (min (0 * 10 ^ length whole + number_of whole) limit * 10 ^ length part + number_of part) limit * 10 ^ raised) limit ≡ min (number_of (whole ++ part) * 10 ^ raised) limit
capped_all whole part raised limit =
    let first : min (min (0 * 10 ^ length whole + number_of whole) limit * 10 ^ length part + number_of part) limit ≡ min (number_of (whole ++ part)) limit =
    capped (0 * 10 ^ length whole + number_of whole) (10 ^ length part) (number_of part) limit (ten-pos (length part))
    ∙ ap (λ x. min x limit) (let one : (0 * 10 ^ length whole + number_of whole) * 10 ^ length part + number_of part ≡ number_of (whole ++ part) = omega (arith, number_of-append whole part) in one)
    in
    ap (λ x. min (x * 10 ^ raised) limit) first
    ∙ ap (λ x. min x limit) (let one : min (number_of (whole ++ part)) limit * 10 ^ raised ≡ min (number_of (whole ++ part)) limit * 10 ^ raised + 0 = omega arith in one)
    ∙ capped (number_of (whole ++ part)) (10 ^ raised) 0 limit (ten-pos raised)
    ∙ ap (λ x. min x limit) (let one : number_of (whole ++ part) * 10 ^ raised + 0 ≡ number_of (whole ++ part) * 10 ^ raised = omega arith in one)

-- two lists of digits write 0 where each does
pub zero_parts : (xs ys : List ℕ) → (number_of xs ≡ 0 → number_of ys ≡ 0 → number_of (xs ++ ys) ≡ 0) × (number_of (xs ++ ys) ≡ 0 → (number_of xs ≡ 0) × (number_of ys ≡ 0))
zero_parts xs ys = (
  λ first second. number_of-append xs ys ∙ ap (λ x. x * 10 ^ length ys + number_of ys) first ∙ omega arith,
  λ none.
      let more : number_of xs * 1 ≤ number_of xs * 10 ^ length ys = mul-le-mul_left (number_of xs) (ten-pos (length ys)) in
      (omega (arith, number_of-append xs ys), omega (arith, number_of-append xs ys)),
)
