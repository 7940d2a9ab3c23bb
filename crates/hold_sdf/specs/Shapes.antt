-- The shapes of groups, by what stands directly within them. A group's first item is its keyword, so its parts begin with the
-- second. A word that asks something of an optional item or group says no, or None, where there is none.
--
-- bytes_or_none w: the bytes of the atom; none without one. keyword items: the bytes of the first item where it is an atom; none
--     else. keyword_in g: a group's keyword.
-- is_empty items: whether there are none. number_within least most items: whether there are so many.
-- are_groups items: whether each item is a group; so too of none.
-- last_behind so_far items: the last of the items; so_far where there are none. last_of items: the last of the items.
--
-- behind_atom items: the items without the atom that they may begin with.
-- is_colon item: whether it is one. begins_with_colon items: whether the first is one. begins_part items: whether an atom that may
--     be left out and then a colon stand first; behind_colon items: what stands behind these two.
-- is_triple items: whether they are two colons with at most one atom before, between and behind them.
-- is_value items: whether they stand in a value's group: nothing, one atom, or a triple. is_value_group g: whether it is such
--     a group. are_values items: whether each item is one.
-- atoms items: the atoms among the items, in order. Those of a value are its numbers. value_of g: the numbers of a value's group.
-- is_delay items: whether they stand in a delay's group: those of a value, or one to three values' groups. is_delay_group g: whether
--     it is such a group. are_all_delays items: whether each item is one; are_delays: and there are one to twelve.
-- numbers_within g: the atoms in the group. delay_numbers items: a delay's numbers: those of the value, or of the first of the values.
-- numbers_by g rest: the numbers of a delay's group and then the rest. numbers_of items: the numbers of the delays' groups that
--     the items begin with, in order.
--
-- edge_pin items: the atom behind posedge or negedge. pin_of item: the atom that names a pin: the item where it is an atom, or that
--     of an edge.
-- spec_by depth item: the atom that names the pin of a check: the item where it is an atom, that of an edge, or that of the last item
--     of a COND's group, if it lies no more than `depth` groups deep. depth_of item: more than the groups within it, whatever they
--     are. spec_of item: the atom at any depth.
--
-- IoPath: the pins of an IOPATH or an INTERCONNECT, and the numbers of its delays. path_of from to delays: that of two pins, and of
--     the items behind them.
-- iopath_of items: that of an IOPATH: a pin or an edge of one, a pin, and delays; None where it has another shape. wire_of items:
--     that of an INTERCONNECT: two pins and delays.
-- retain_in g: the group's keyword, where that is RETAIN. retain_among items: that of the first such group among the items.
--
-- Check: the pins of a check, data pin first, and the numbers of its setup and hold values, where it has such a value.
-- is_condition g: whether it is an SCOND or CCOND group. conditions items: whether each item is one.
-- setup_only, hold_only, setup_and_hold pin clock values rest: the check of these pins and values, where nothing, or conditions,
--     stand behind. check_values kind pin clock items: that of the items behind the pins. check_pins: the same of pins that may be
--     missing.
-- check_of kind items: the check of a SETUP, HOLD or SETUPHOLD; None where it has another shape.
--
-- is_text item: whether it is a string. is_cell_type items: whether they are a CELLTYPE's, with one string. is_type_group g: whether
--     it is such a group.
-- named w: the atom, as that of an instance. instance_of items: of an INSTANCE the atom that it has, if any; None where it is no
--     INSTANCE of at most one atom. instance_in g: the same of a group.
-- is_star items: whether they are an INSTANCE's, with the atom `*` alone. is_star_group g: whether it is such a group. has_star items:
--     whether one is among the items.
-- head_of items: of a cell's items its instance's atom, if it has one; None where the cell doesn't begin with its type and its
--     instance, or something else than groups follows.
use Rattle.std.specs.Prelude.{ℕ, zero, suc, Bool, true, false, ◌&&◌, ◌||◌, nat_le, if◌then◌else◌, List, [], ◌∷◌, ◌++◌, length, Option, Some, None, is_some, bytes_eq, codes}
use Rattle.std.specs.Option.{option_or, option_to_list}
use Rattle.hold_sdflex.specs.Items.{Word, Group, Item, Atom, Text, Colon, Nested, items_in, first_item, first_atom, first_group, atom_of, group_of, behind}
use Rattle.hold_sdf.specs.Keywords.{is_word, type_words, instance_words, cond_words, retain_words, edge_words, condition_words}
use Rattle.hold_sdf.specs.declared.keyword.CheckKind.{CheckKind}
use Rattle.hold_sdf.specs.declared.keyword.CheckKind.TheVariants.{Setup, Hold, SetupHold, ReadPast, Other}

abbrev pub bytes_or_none : Option Word → List ℕ
bytes_or_none None = []
bytes_or_none (Some w) = w.bytes

unfoldable pub keyword : List Item → List ℕ
keyword items = bytes_or_none (first_atom items)

abbrev pub keyword_in : Group → List ℕ
keyword_in g = keyword (items_in g.inner)

abbrev pub is_empty : List Item → Bool
is_empty [] = true
is_empty (item ∷ rest) = false

abbrev pub are_groups : List Item → Bool
are_groups [] = true
are_groups (item ∷ rest) = is_some (group_of item) && are_groups rest

abbrev pub last_behind : Option Item → List Item → Option Item
last_behind so_far [] = so_far
last_behind so_far (item ∷ rest) = last_behind (Some item) rest

unfoldable pub last_of : List Item → Option Item
last_of items = last_behind None items

abbrev pub behind_atom : List Item → List Item
behind_atom [] = []
behind_atom (Atom w ∷ rest) = rest
behind_atom (Text ∷ rest) = Text ∷ rest
behind_atom (Colon ∷ rest) = Colon ∷ rest
behind_atom (Nested g ∷ rest) = Nested g ∷ rest

abbrev pub is_colon : Option Item → Bool
is_colon None = false
is_colon (Some (Atom w)) = false
is_colon (Some Text) = false
is_colon (Some Colon) = true
is_colon (Some (Nested g)) = false

abbrev pub begins_with_colon : List Item → Bool
begins_with_colon items = is_colon (first_item items)

-- what stands behind an atom that may be left out and a colon
abbrev pub behind_colon : List Item → List Item
behind_colon items = behind (behind_atom items)

abbrev pub begins_part : List Item → Bool
begins_part items = begins_with_colon (behind_atom items)

abbrev pub is_triple : List Item → Bool
is_triple items = begins_part items && (begins_part (behind_colon items) && is_empty (behind_atom (behind_colon (behind_colon items))))

unfoldable pub is_value : List Item → Bool
is_value items = is_empty (behind_atom items) || is_triple items

abbrev pub atoms : List Item → List Word
atoms [] = []
atoms (item ∷ rest) = option_to_list (atom_of item) ++ atoms rest

abbrev pub is_value_group : Option Group → Bool
is_value_group None = false
is_value_group (Some g) = is_value (items_in g.inner)

abbrev pub are_values : List Item → Bool
are_values [] = true
are_values (item ∷ rest) = is_value_group (group_of item) && are_values rest

abbrev pub number_within : ℕ → ℕ → List Item → Bool
number_within least most items = nat_le least (length items) && nat_le (length items) most

unfoldable pub is_delay : List Item → Bool
is_delay items = is_value items || (number_within 1 3 items && are_values items)

abbrev pub numbers_within : Option Group → List Word
numbers_within None = []
numbers_within (Some g) = atoms (items_in g.inner)

unfoldable pub delay_numbers : List Item → List Word
delay_numbers items = if is_value items then atoms items else numbers_within (first_group items)

abbrev pub is_delay_group : Option Group → Bool
is_delay_group None = false
is_delay_group (Some g) = is_delay (items_in g.inner)

abbrev pub are_all_delays : List Item → Bool
are_all_delays [] = true
are_all_delays (item ∷ rest) = is_delay_group (group_of item) && are_all_delays rest

unfoldable pub are_delays : List Item → Bool
are_delays items = number_within 1 12 items && are_all_delays items

abbrev pub numbers_by : Option Group → List Word → List Word
numbers_by None rest = []
numbers_by (Some g) rest = delay_numbers (items_in g.inner) ++ rest

abbrev pub numbers_of : List Item → List Word
numbers_of [] = []
numbers_of (item ∷ rest) = numbers_by (group_of item) (numbers_of rest)

unfoldable pub edge_pin : List Item → Option Word
edge_pin items = if is_word edge_words (keyword items) && is_empty (behind (behind items)) then first_atom (behind items) else None

abbrev pub pin_of : Option Item → Option Word
pin_of None = None
pin_of (Some (Atom w)) = Some w
pin_of (Some Text) = None
pin_of (Some Colon) = None
pin_of (Some (Nested g)) = edge_pin (items_in g.inner)

pub record IoPath : Type 0 where
  pub from : Word
  pub to : Word
  pub numbers : List Word

-- pins and delays, if both pins are there and the delays are some
abbrev pub path_of : Option Word → Option Word → List Item → Option IoPath
path_of None to delays = None
path_of (Some from) None delays = None
path_of (Some from) (Some to) delays = if are_delays delays then Some (record { from = from; to = to; numbers = numbers_of delays }) else None

unfoldable pub iopath_of : List Item → Option IoPath
iopath_of items = path_of (pin_of (first_item (behind items))) (first_atom (behind (behind items))) (behind (behind (behind items)))

unfoldable pub wire_of : List Item → Option IoPath
wire_of items = path_of (first_atom (behind items)) (first_atom (behind (behind items))) (behind (behind (behind items)))

abbrev pub retain_in : Option Group → Option (List ℕ)
retain_in None = None
retain_in (Some g) = if is_word retain_words (keyword_in g) then Some (keyword_in g) else None

abbrev pub retain_among : List Item → Option (List ℕ)
retain_among [] = None
retain_among (item ∷ rest) = option_or (retain_in (group_of item)) (retain_among rest)

abbrev pub spec_by : ℕ → Option Item → Option Word
spec_by depth None = None
spec_by depth (Some (Atom w)) = Some w
spec_by depth (Some Text) = None
spec_by depth (Some Colon) = None
spec_by zero (Some (Nested g)) = None
spec_by (suc depth) (Some (Nested g)) =
    if is_word cond_words (keyword_in g) then spec_by depth (last_of (behind (items_in g.inner))) else edge_pin (items_in g.inner)

abbrev pub depth_of : Option Item → ℕ
depth_of None = 0
depth_of (Some (Atom w)) = 0
depth_of (Some Text) = 0
depth_of (Some Colon) = 0
depth_of (Some (Nested g)) = suc (length g.inner)

unfoldable pub spec_of : Option Item → Option Word
spec_of item = spec_by (depth_of item) item

abbrev pub value_of : Option Group → Option (List Word)
value_of None = None
value_of (Some g) = if is_value (items_in g.inner) then Some (atoms (items_in g.inner)) else None

abbrev pub is_condition : Option Group → Bool
is_condition None = false
is_condition (Some g) = is_word condition_words (keyword_in g)

abbrev pub conditions : List Item → Bool
conditions [] = true
conditions (item ∷ rest) = is_condition (group_of item) && conditions rest

pub record Check : Type 0 where
  pub data_pin : Word
  pub clock_pin : Word
  pub setup : Option (List Word)
  pub hold : Option (List Word)

abbrev pub setup_only : Word → Word → Option (List Word) → List Item → Option Check
setup_only pin clock None rest = None
setup_only pin clock (Some setup) rest = if is_empty rest then Some (record { data_pin = pin; clock_pin = clock; setup = Some setup; hold = None }) else None

abbrev pub hold_only : Word → Word → Option (List Word) → List Item → Option Check
hold_only pin clock None rest = None
hold_only pin clock (Some hold) rest = if is_empty rest then Some (record { data_pin = pin; clock_pin = clock; setup = None; hold = Some hold }) else None

abbrev pub setup_and_hold : Word → Word → Option (List Word) → Option (List Word) → List Item → Option Check
setup_and_hold pin clock None hold rest = None
setup_and_hold pin clock (Some setup) None rest = None
setup_and_hold pin clock (Some setup) (Some hold) rest = if conditions rest then Some (record { data_pin = pin; clock_pin = clock; setup = Some setup; hold = Some hold }) else None

-- by the items behind the pins
abbrev pub check_values : CheckKind → Word → Word → List Item → Option Check
check_values Setup pin clock items = setup_only pin clock (value_of (first_group items)) (behind items)
check_values Hold pin clock items = hold_only pin clock (value_of (first_group items)) (behind items)
check_values SetupHold pin clock items = setup_and_hold pin clock (value_of (first_group items)) (value_of (first_group (behind items))) (behind (behind items))
check_values ReadPast pin clock items = None
check_values Other pin clock items = None

abbrev pub check_pins : CheckKind → Option Word → Option Word → List Item → Option Check
check_pins kind None clock items = None
check_pins kind (Some pin) None items = None
check_pins kind (Some pin) (Some clock) items = check_values kind pin clock items

unfoldable pub check_of : CheckKind → List Item → Option Check
check_of kind items = check_pins kind (spec_of (first_item (behind items))) (spec_of (first_item (behind (behind items)))) (behind (behind (behind items)))

abbrev pub is_text : Option Item → Bool
is_text None = false
is_text (Some (Atom w)) = false
is_text (Some Text) = true
is_text (Some Colon) = false
is_text (Some (Nested g)) = false

unfoldable pub is_cell_type : List Item → Bool
is_cell_type items = is_word type_words (keyword items) && (is_text (first_item (behind items)) && is_empty (behind (behind items)))

abbrev pub named : Option Word → Option (Option Word)
named None = None
named (Some w) = Some (Some w)

unfoldable pub instance_of : List Item → Option (Option Word)
instance_of items =
    if is_word instance_words (keyword items) && is_empty (behind (behind items)) then
    (if is_empty (behind items) then Some None else named (first_atom (behind items)))
    else None

unfoldable pub is_star : List Item → Bool
is_star items = is_word instance_words (keyword items) && (is_empty (behind (behind items)) && bytes_eq (keyword (behind items)) (codes "*"))

abbrev pub is_star_group : Option Group → Bool
is_star_group None = false
is_star_group (Some g) = is_star (items_in g.inner)

abbrev pub has_star : List Item → Bool
has_star [] = false
has_star (item ∷ rest) = is_star_group (group_of item) || has_star rest

abbrev pub is_type_group : Option Group → Bool
is_type_group None = false
is_type_group (Some g) = is_cell_type (items_in g.inner)

abbrev pub instance_in : Option Group → Option (Option Word)
instance_in None = None
instance_in (Some g) = instance_of (items_in g.inner)

unfoldable pub head_of : List Item → Option (Option Word)
head_of items =
    if is_type_group (first_group (behind items)) && are_groups (behind (behind (behind items))) then instance_in (first_group (behind (behind items))) else None
