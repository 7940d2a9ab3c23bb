-- The time that a number's text spells, as a function.
--
-- digits text: the digits that the text begins with; behind_digits text: what stands behind them.
-- begins sign text: whether the text begins with this byte; the empty text begins with none.
-- behind_sign text: the text without the plus or minus that it may begin with.
-- part_of text: the digits behind the point that the text begins with; behind_part text: what stands behind the point and
--     these digits. Without a point in front there are none, and the whole text stands behind.
-- power_of text: the number of one to three digits, if the text is that.
-- exponent_of text: by how much an exponent raises and by how much it lowers: by nothing where the text is empty; else it is an
--     `e` or `E`, a sign or none, and a power, which lowers behind a minus and raises otherwise.
-- numeral_of text: the parts of the number that the text spells, if it spells one; numeral_by: the same by its sign, its digits before
--     and after the point, and what its exponent does.
-- magnitude_of n scale, denominator_of n: the number's exact value at that scale is the first over the second, but for its sign.
-- floor_of v d, ceiling_of v d: the whole numbers beside v / d.
-- interval_of negative floor ceiling: from the floor to the ceiling, with the sign; None where the ceiling passes the limit of
--     times. numeral_time scale n: that of a number.
-- time_of scale text: the interval that hold_decimal's `IsTime` gives to the text at that scale; None where it gives none. That it
--     is that interval is proved (`proofs/Numbers`).
use Rattle.std.specs.Prelude.{ℕ, ◌+◌, ◌*◌, ◌/◌, ◌%◌, ◌^◌, Bool, false, ◌==◌, ◌&&◌, ◌||◌, nat_le, if◌then◌else◌, List, [], ◌∷◌, length, Option, Some, None, option_map, option_and_then, pos, neg_ℤ}
use Rattle.std.specs.Char.{is_ascii_digit}
use Rattle.std.specs.List.{list_all}
use Rattle.hold_base.specs.Digits.{number_of}
use Rattle.hold_base.specs.Limits.{time_limit}
use Rattle.hold_base.specs.declared.time.Interval.{Interval}
use Rattle.hold_decimal.specs.Numeral.{Numeral}
use Rattle.hold_decimal.specs.Rounding.{digits_of}

abbrev pub digits : List ℕ → List ℕ
digits [] = []
digits (b ∷ bs) = if is_ascii_digit b then b ∷ digits bs else []

abbrev pub behind_digits : List ℕ → List ℕ
behind_digits [] = []
behind_digits (b ∷ bs) = if is_ascii_digit b then behind_digits bs else b ∷ bs

abbrev pub begins : ℕ → List ℕ → Bool
begins sign [] = false
begins sign (b ∷ bs) = b == sign

-- '+' is 43, '-' is 45
abbrev pub behind_sign : List ℕ → List ℕ
behind_sign [] = []
behind_sign (b ∷ bs) = if b == 43 || b == 45 then bs else b ∷ bs

-- '.' is 46
abbrev pub part_of : List ℕ → List ℕ
part_of [] = []
part_of (b ∷ bs) = if b == 46 then digits bs else []

abbrev pub behind_part : List ℕ → List ℕ
behind_part [] = []
behind_part (b ∷ bs) = if b == 46 then behind_digits bs else b ∷ bs

abbrev pub power_of : List ℕ → Option ℕ
power_of text = if list_all is_ascii_digit text && (nat_le 1 (length text) && nat_le (length text) 3) then Some (number_of text) else None

-- 'e' is 101, 'E' is 69
abbrev pub exponent_of : List ℕ → Option (ℕ × ℕ)
exponent_of [] = Some (0, 0)
exponent_of (b ∷ bs) = if b == 101 || b == 69 then option_map (λ n. if begins 45 bs then (0, n) else (n, 0)) (power_of (behind_sign bs)) else None

abbrev pub numeral_by : Bool → List ℕ → List ℕ → Option (ℕ × ℕ) → Option Numeral
numeral_by negative whole part exponent =
    if nat_le 1 (length whole + length part) then option_map (λ e. record { negative = negative; whole = whole; part = part; raise = e.0; lower = e.1 }) exponent else None

unfoldable pub numeral_of : List ℕ → Option Numeral
numeral_of text =
    let unsigned = behind_sign text in
    let rest = behind_digits unsigned in
    numeral_by (begins 45 text) (digits unsigned) (part_of rest) (exponent_of (behind_part rest))

abbrev pub magnitude_of : Numeral → ℕ → ℕ
magnitude_of n scale = digits_of n * 10 ^ (n.raise + scale)

abbrev pub denominator_of : Numeral → ℕ
denominator_of n = 10 ^ (length n.part + n.lower)

abbrev pub floor_of : ℕ → ℕ → ℕ
floor_of v d = v / d

abbrev pub ceiling_of : ℕ → ℕ → ℕ
ceiling_of v d = if v % d == 0 then v / d else v / d + 1

abbrev pub interval_of : Bool → ℕ → ℕ → Option Interval
interval_of negative floor ceiling =
    if nat_le ceiling time_limit then
    Some (record { least = (if negative then neg_ℤ (pos ceiling) else pos floor); greatest = (if negative then neg_ℤ (pos floor) else pos ceiling) })
    else None

abbrev pub numeral_time : ℕ → Numeral → Option Interval
numeral_time scale n =
    let v = magnitude_of n scale in
    let d = denominator_of n in
    interval_of n.negative (floor_of v d) (ceiling_of v d)

unfoldable pub time_of : ℕ → List ℕ → Option Interval
time_of scale text = option_and_then (numeral_time scale) (numeral_of text)
