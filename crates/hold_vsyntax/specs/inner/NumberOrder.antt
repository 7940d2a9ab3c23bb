-- digits_of n: the digits of a number as it is kept, from the first; a small one counts as its only digit.
-- digit k ds: the digit with k digits behind it; 0 where there is none.
-- last_sums k ds es: of the last k places, the sums of the digits of two numbers.
-- horner n ds: the number that digits write behind those of n. A digit may be any number here.
-- is_equal o, is_not_greater o: whether an order of two is so.
use Rattle.std.specs.declared.cmp.Ordering.{Ordering}
use Rattle.std.specs.declared.cmp.Ordering.TheVariants.{Less, Equal, Greater}
use Rattle.std.specs.Prelude.{Bool, true, false, ℕ, zero, suc, ◌+◌, ◌*◌, ◌-◌, ◌==◌, List, [], ◌∷◌, length, map, if◌then◌else◌}
use Rattle.hold_vsyntax.specs.declared.number.Kept.{Kept}
use Rattle.hold_vsyntax.specs.declared.number.Kept.TheVariants.{Small, Digits}

abbrev pub digits_of : Kept → List ℕ
digits_of (Small n) = n ∷ []
digits_of (Digits digits) = map (λ d. d - 48) digits

abbrev pub digit : ℕ → List ℕ → ℕ
digit k [] = 0
digit k (d ∷ ds) = if k == length ds then d else digit k ds

abbrev pub last_sums : ℕ → List ℕ → List ℕ → List ℕ
last_sums zero ds es = []
last_sums (suc k) ds es = (digit k ds + digit k es) ∷ last_sums k ds es

abbrev pub horner : ℕ → List ℕ → ℕ
horner n [] = n
horner n (d ∷ ds) = horner (n * 10 + d) ds

abbrev pub is_equal : Ordering → Bool
is_equal Less = false
is_equal Equal = true
is_equal Greater = false

abbrev pub is_not_greater : Ordering → Bool
is_not_greater Less = true
is_not_greater Equal = true
is_not_greater Greater = false
