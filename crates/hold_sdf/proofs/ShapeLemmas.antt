-- Items that are read one by one, as the shapes of groups ask for them.
use Rattle.std.proofs.Common.{◌≡◌, true, false, Some, None, List, [], ◌∷◌, refl, ap}
use Rattle.std.specs.Prelude.{◌&&◌, ◌||◌}
use Rattle.std.specs.Option.{option_or}
use Rattle.hold_sdflex.specs.Items.{Word, Item, Atom, Text, Colon, Nested, first_item, first_atom, first_group, group_of, behind}
use Rattle.hold_sdf.specs.Shapes.{is_empty, behind_atom, is_value_group, are_values, is_delay_group, are_all_delays, is_condition, conditions, retain_in, retain_among, is_star_group, has_star}

-- an atom in front, or none
pub behind_atom-some : (items : List Item) (w : Word) → Some w ≡ first_atom items → behind_atom items ≡ behind items
behind_atom-some [] w is = cc
behind_atom-some (Atom v ∷ rest) w is = refl
behind_atom-some (Text ∷ rest) w is = cc
behind_atom-some (Colon ∷ rest) w is = cc
behind_atom-some (Nested g ∷ rest) w is = cc

pub behind_atom-none : (items : List Item) → None ≡ first_atom items → behind_atom items ≡ items
behind_atom-none [] is = refl
behind_atom-none (Atom v ∷ rest) is = cc
behind_atom-none (Text ∷ rest) is = refl
behind_atom-none (Colon ∷ rest) is = refl
behind_atom-none (Nested g ∷ rest) is = refl

-- an item more of those that have to be groups of a sort
pub are_values-more : (items : List Item) → is_empty items ≡ false → are_values items ≡ (is_value_group (first_group items) && are_values (behind items))
are_values-more [] some = cc
are_values-more (item ∷ rest) some = refl

pub are_values-end : (items : List Item) → is_empty items ≡ true → are_values items ≡ true
are_values-end [] e = refl
are_values-end (item ∷ rest) e = cc

pub are_all_delays-more : (items : List Item) → is_empty items ≡ false → are_all_delays items ≡ (is_delay_group (first_group items) && are_all_delays (behind items))
are_all_delays-more [] some = cc
are_all_delays-more (item ∷ rest) some = refl

pub are_all_delays-end : (items : List Item) → is_empty items ≡ true → are_all_delays items ≡ true
are_all_delays-end [] e = refl
are_all_delays-end (item ∷ rest) e = cc

pub conditions-more : (items : List Item) → is_empty items ≡ false → conditions items ≡ (is_condition (first_group items) && conditions (behind items))
conditions-more [] some = cc
conditions-more (item ∷ rest) some = refl

pub conditions-end : (items : List Item) → is_empty items ≡ true → conditions items ≡ true
conditions-end [] e = refl
conditions-end (item ∷ rest) e = cc

-- an item more that may be a RETAIN
pub retain_among-more : (items : List Item) (item : Item) → Some item ≡ first_item items → retain_among items ≡ option_or (retain_in (group_of item)) (retain_among (behind items))
retain_among-more [] item is = cc
retain_among-more (x ∷ rest) item is = let same : x ≡ item = cc in ap (λ y. option_or (retain_in (group_of y)) (retain_among rest)) same

pub retain_among-end : (items : List Item) → None ≡ first_item items → retain_among items ≡ None
retain_among-end [] is = refl
retain_among-end (x ∷ rest) is = cc

-- an item more that may be an instance of any name
pub has_star-more : (items : List Item) (item : Item) → Some item ≡ first_item items → has_star items ≡ (is_star_group (group_of item) || has_star (behind items))
has_star-more [] item is = cc
has_star-more (x ∷ rest) item is = let same : x ≡ item = cc in ap (λ y. is_star_group (group_of y) || has_star rest) same

pub has_star-end : (items : List Item) → None ≡ first_item items → has_star items ≡ false
has_star-end [] is = refl
has_star-end (x ∷ rest) is = cc

pub ruleset star_steps = (has_star-more, has_star-end)

pub ruleset retain_steps = (retain_among-more, retain_among-end)

pub ruleset conditions_of = (conditions-more, conditions-end)

pub ruleset behind_atom_of = (behind_atom-some, behind_atom-none)

pub ruleset values_of = (are_values-more, are_values-end)

pub ruleset delays_of = (are_all_delays-more, are_all_delays-end)
