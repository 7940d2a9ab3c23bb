-- The text of a decimal number.
--
-- AllDigits bytes: each byte is one of '0' to '9'; so too where there is none.
-- Numeral: the parts of a number: whether it has a minus sign, the digits before the point and those after it (either may be
--   none), and the power of ten that its exponent raises or lowers it by (of a number that is spelled one of the two is 0;
--   without an exponent both are).
-- IsSign text negative: no sign, a plus or a minus; negative is so of a minus alone.
-- IsPoint text part: a point, or nothing where no digits stand after it. `5.` has a point and no digits after it.
-- IsPower text raise lower: what stands behind an `e`: a sign or none and one to three digits. Behind a minus they write lower,
--   else raise; the other is 0.
-- IsExponent text raise lower: nothing, and both are 0; or an `e` or `E` and a power.
-- Spells text n: the text is n's sign, the digits before the point, the point, the digits after it and the exponent, with at
--   least one digit beside the point; `.` and the empty text spell nothing.
use Rattle.std.specs.Prelude.{◌≡◌, ℕ, ◌+◌, ◌≤◌, ◌⊎◌, Bool, true, false, if◌then◌else◌, List, [], ◌∷◌, ◌++◌, length}
use Rattle.hold_base.specs.Digits.{number_of}

-- each byte is one from '0' (48) to '9' (57)
abbrev pub AllDigits : List ℕ → Type 0
AllDigits [] = Unit {0}
AllDigits (b ∷ bs) = (48 ≤ b) × (b ≤ 57) × AllDigits bs

-- the parts of a number
pub record Numeral : Type 0 where
  pub negative : Bool
  pub whole : List ℕ
  pub part : List ℕ
  pub raise : ℕ
  pub lower : ℕ

-- no sign, '+' (43) or '-' (45)
abbrev pub IsSign : List ℕ → Bool → Type 0
IsSign [] negative = negative ≡ false
IsSign (b ∷ []) negative = ((b ≡ 43) × (negative ≡ false)) ⊎ ((b ≡ 45) × (negative ≡ true))
IsSign (b ∷ c ∷ more) negative = ⊥

-- '.' (46), or nothing where no digits stand after it
abbrev pub IsPoint : List ℕ → List ℕ → Type 0
IsPoint [] part = part ≡ []
IsPoint (b ∷ []) part = b ≡ 46
IsPoint (b ∷ c ∷ more) part = ⊥

-- a sign or none, and one to three digits
pub record IsPower (text : List ℕ) (raise lower : ℕ) : Type 0 where
  pub sign : List ℕ
  pub negative : Bool
  pub digits : List ℕ
  pub cut : text ≡ sign ++ digits
  pub signed : IsSign sign negative
  pub all_digits : AllDigits digits
  pub one : 1 ≤ length digits
  pub three : length digits ≤ 3
  pub raised : raise ≡ (if negative then 0 else number_of digits)
  pub lowered : lower ≡ (if negative then number_of digits else 0)

-- nothing, or 'e' (101) or 'E' (69) and a power
abbrev pub IsExponent : List ℕ → ℕ → ℕ → Type 0
IsExponent [] raise lower = (raise ≡ 0) × (lower ≡ 0)
IsExponent (b ∷ bs) raise lower = ((b ≡ 101) ⊎ (b ≡ 69)) × IsPower bs raise lower

-- the text is the number's parts, one after another
pub record Spells (text : List ℕ) (n : Numeral) : Type 0 where
  pub sign : List ℕ
  pub point : List ℕ
  pub exponent : List ℕ
  pub cut : text ≡ sign ++ (n.whole ++ (point ++ (n.part ++ exponent)))
  pub signed : IsSign sign n.negative
  pub whole_digits : AllDigits n.whole
  pub pointed : IsPoint point n.part
  pub part_digits : AllDigits n.part
  pub some_digit : 1 ≤ length n.whole + length n.part
  pub powered : IsExponent exponent n.raise n.lower
