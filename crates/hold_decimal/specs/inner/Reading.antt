-- What the steps of the reader give.
--
-- leading text: how many digits the text begins with.
-- front_digits text: those digits. after_digits text: what is behind them.
-- begins_with byte text: whether the byte stands first; never in the empty text.
-- after_sign text: the text without the plus or minus that it may begin with.
-- part_of text: the digits behind the point that the text begins with; none where it begins otherwise. after_part text: what is
--   behind the point and these digits; the whole text where it begins otherwise.
-- IsCutOff all front back lost: the last `lost` digits are cut off, or all of them where there are fewer.
-- IsOutward value denominator floor ceiling: the whole numbers beside value / denominator; the two are one where it is whole.
use Rattle.std.specs.Prelude.{◌≡◌, ℕ, ◌+◌, ◌*◌, ◌<◌, ◌≤◌, ◌⊎◌, Bool, false, if◌then◌else◌, ◌==◌, ◌||◌, List, [], ◌∷◌, ◌++◌, length, take, drop}
use Rattle.std.specs.Char.{is_ascii_digit}

-- the number of digits in front
abbrev pub leading : List ℕ → ℕ
leading [] = 0
leading (b ∷ bs) = if is_ascii_digit b then leading bs + 1 else 0

-- the digits in front
abbrev pub front_digits : List ℕ → List ℕ
front_digits text = take (leading text) text

-- what is behind the digits in front
abbrev pub after_digits : List ℕ → List ℕ
after_digits text = drop (leading text) text

-- the byte stands first
abbrev pub begins_with : ℕ → List ℕ → Bool
begins_with byte [] = false
begins_with byte (b ∷ bs) = b == byte

-- what is behind a '+' (43) or a '-' (45), or the whole text where there is none
abbrev pub after_sign : List ℕ → List ℕ
after_sign [] = []
after_sign (b ∷ bs) = if b == 43 || b == 45 then bs else b ∷ bs

-- the digits behind a '.' (46)
abbrev pub part_of : List ℕ → List ℕ
part_of [] = []
part_of (b ∷ bs) = if b == 46 then front_digits bs else []

-- what is behind a '.' (46) and its digits
abbrev pub after_part : List ℕ → List ℕ
after_part [] = []
after_part (b ∷ bs) = if b == 46 then after_digits bs else b ∷ bs

-- front and back are all; back has as many as are lost, or front has none and back no more
pub record IsCutOff (all front back : List ℕ) (lost : ℕ) : Type 0 where
  pub joined : front ++ back ≡ all
  pub short : length back ≤ lost
  pub most : (length back ≡ lost) ⊎ (front ≡ [])

-- floor ≤ value / denominator < floor + 1 and ceiling - 1 < value / denominator ≤ ceiling
pub record IsOutward (value denominator floor ceiling : ℕ) : Type 0 where
  pub at_most : floor * denominator ≤ value
  pub next_above : value < (floor + 1) * denominator
  pub at_least : value ≤ ceiling * denominator
  pub last_below : ceiling * denominator < value + denominator
