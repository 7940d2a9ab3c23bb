-- What a file's headers set for all of it.
--
-- Settings: the divider of paths and the power of ten of the unit, each where it is set.
-- number_words, unit_words: the numbers and the units of a scale, as they are written, and their powers of ten.
-- power_in table text: the power beside the text in the table; None where it isn't there. Words are as written.
-- is_numeric b: whether the byte is a digit or a point. number_length text: how many such bytes the text begins with.
-- sum_of m n: their sum, where both are there. scale_of number unit: the power of ten of a scale of this number and unit; None where
--     one of them is none.
-- scale_by first second: that of one atom, whose number ends with its last digit or point in front, or of two. scale_in items:
--     that of a TIMESCALE's items behind the keyword.
-- divider_byte bytes: the divider that is written so, `.` (46) or `/` (47). divider_in items: that of a DIVIDER's items behind the
--     keyword, one atom.
-- with_divider, with_scale: the settings with what a group at this place sets; a fault at that group where it is set already or
--     the group has another shape.
-- with_header s g: the settings with a header; with_header_kind: the same by its kind.
-- is_header_kind kind: whether it is a header's. header_in g: the group where it is a header.
-- settings_of s items: the settings after the headers that the items begin with, and the items behind these; the first fault
--     among these headers. settings_by, go_on: its steps, by the header in front and by what that sets.
-- nothing_set: the settings before any header.
-- divider_of s, unit_of s: what holds: without a divider it is `.`, without a unit that of 1 ns.
use Rattle.std.specs.Prelude.{ℕ, suc, ◌+◌, Bool, ◌==◌, ◌&&◌, ◌||◌, if◌then◌else◌, List, [], ◌∷◌, take, drop, Option, Some, None, Result, Ok, Err, is_some, unwrap_or, true, false, bytes_eq, codes}
use Rattle.std.specs.Char.{is_ascii_digit}
use Rattle.hold_sdflex.specs.Items.{Word, Group, Item, items_in, first_atom, group_of, behind}
use Rattle.hold_sdf.specs.declared.fault.SdfFault.{SdfFault}
use Rattle.hold_sdf.specs.declared.fault.SdfFault.TheVariants.{Syntax}
use Rattle.hold_sdf.specs.declared.keyword.HeaderKind.{HeaderKind}
use Rattle.hold_sdf.specs.declared.keyword.HeaderKind.TheVariants.{Divider, TimeScale, ReadPast, Other}
use Rattle.hold_sdf.specs.Keywords.{header_kind}
use Rattle.hold_sdf.specs.Shapes.{keyword, keyword_in, is_empty}

pub record Settings : Type 0 where
  pub divider : Option ℕ
  pub power : Option ℕ

abbrev pub power_in : List (List ℕ × ℕ) → List ℕ → Option ℕ
power_in [] text = None
power_in (row ∷ rows) text = if bytes_eq row.0 text then Some row.1 else power_in rows text

unfoldable pub number_words : List (List ℕ × ℕ)
number_words = (codes "1", 0) ∷ (codes "10", 1) ∷ (codes "100", 2) ∷ (codes "1.0", 0) ∷ (codes "10.0", 1) ∷ (codes "100.0", 2) ∷ []

unfoldable pub unit_words : List (List ℕ × ℕ)
unit_words = (codes "s", 15) ∷ (codes "ms", 12) ∷ (codes "us", 9) ∷ (codes "ns", 6) ∷ (codes "ps", 3) ∷ (codes "fs", 0) ∷ []

abbrev pub is_numeric : ℕ → Bool
is_numeric b = is_ascii_digit b || b == 46

abbrev pub number_length : List ℕ → ℕ
number_length [] = 0
number_length (b ∷ bs) = if is_numeric b then suc (number_length bs) else 0

abbrev pub sum_of : Option ℕ → Option ℕ → Option ℕ
sum_of None n = None
sum_of (Some m) None = None
sum_of (Some m) (Some n) = Some (m + n)

unfoldable pub scale_of : List ℕ → List ℕ → Option ℕ
scale_of number unit = sum_of (power_in number_words number) (power_in unit_words unit)

-- of one atom, whose number ends where its last digit or point does, or of two
abbrev pub scale_by : Option Word → Option Word → Option ℕ
scale_by None second = None
scale_by (Some first) None = scale_of (take (number_length first.bytes) first.bytes) (drop (number_length first.bytes) first.bytes)
scale_by (Some first) (Some second) = scale_of first.bytes second.bytes

unfoldable pub scale_in : List Item → Option ℕ
scale_in items =
    if is_empty (behind items) then scale_by (first_atom items) None
    else if is_some (first_atom (behind items)) && is_empty (behind (behind items)) then scale_by (first_atom items) (first_atom (behind items))
    else None

abbrev pub divider_byte : List ℕ → Option ℕ
divider_byte bytes = if bytes_eq bytes (codes ".") then Some 46 else if bytes_eq bytes (codes "/") then Some 47 else None

unfoldable pub divider_in : List Item → Option ℕ
divider_in items = if is_empty (behind items) then divider_byte (keyword items) else None

abbrev pub with_divider : Settings → ℕ → Option ℕ → Result Settings SdfFault
with_divider s at None = Err (Syntax at)
with_divider s at (Some divider) = if is_some s.divider then Err (Syntax at) else Ok (record { divider = Some divider; power = s.power })

abbrev pub with_scale : Settings → ℕ → Option ℕ → Result Settings SdfFault
with_scale s at None = Err (Syntax at)
with_scale s at (Some power) = if is_some s.power then Err (Syntax at) else Ok (record { divider = s.divider; power = Some power })

abbrev pub with_header_kind : HeaderKind → Settings → Group → Result Settings SdfFault
with_header_kind Divider s g = with_divider s g.at (divider_in (behind (items_in g.inner)))
with_header_kind TimeScale s g = with_scale s g.at (scale_in (behind (items_in g.inner)))
with_header_kind ReadPast s g = Ok s
with_header_kind Other s g = Ok s

unfoldable pub with_header : Settings → Group → Result Settings SdfFault
with_header s g = with_header_kind (header_kind (keyword_in g)) s g

abbrev pub is_header_kind : HeaderKind → Bool
is_header_kind Divider = true
is_header_kind TimeScale = true
is_header_kind ReadPast = true
is_header_kind Other = false

-- the group, where it is a header
abbrev pub header_in : Option Group → Option Group
header_in None = None
header_in (Some g) = if is_header_kind (header_kind (keyword_in g)) then Some g else None

abbrev pub go_on : Result Settings SdfFault → (Settings → Result (Settings × List Item) SdfFault) → Result (Settings × List Item) SdfFault
go_on (Ok s) next = next s
go_on (Err fault) next = Err fault

abbrev pub settings_by : Option Group → Settings → List Item → (Settings → Result (Settings × List Item) SdfFault) → Result (Settings × List Item) SdfFault
settings_by None s items next = Ok (s, items)
settings_by (Some g) s items next = go_on (with_header s g) next

abbrev pub settings_of : Settings → List Item → Result (Settings × List Item) SdfFault
settings_of s [] = Ok (s, [])
settings_of s (item ∷ rest) = settings_by (header_in (group_of item)) s (item ∷ rest) (λ next. settings_of next rest)

abbrev pub nothing_set : Settings
nothing_set = record { divider = None; power = None }

abbrev pub divider_of : Settings → ℕ
divider_of s = unwrap_or s.divider 46

abbrev pub unit_of : Settings → ℕ
unit_of s = unwrap_or s.power 6
