-- The keys of a table's map beside the members that it stands for.
use Rattle.std.proofs.Common.{◌≡◌, ℕ, List, [], ◌∷◌, Bool, true, ◌&&◌, String, Global, string_bytes, Some, None, length, get_or, ◌≢◌, refl, ap, sym, ◌∙◌, arith}
use Rattle.std.specs.Map.{keys_of as map_keys}
use Rattle.toml.specs.View.{view, members_view, items_view}
use Rattle.toml.specs.declared.value.Value.{Value}
use Rattle.toml.proofs.Views.{Entry}
use Rattle.std.proofs.lemmas.Option.{same_Some}
use Rattle.hold_cli.specs.declared.job_form.Job.{Job}
use Rattle.hold_cli.specs.JobForm.{job_of, IsJobText}
use Rattle.hold_cli.specs.JobFormKeys.{is_one_of, has_only, only_item}
use Rattle.hold_cli.specs.JobFormTimes.{span_between, span_in_pair}

-- whether each of these texts is one of the keys
abbrev pub are_all_of : List (List ℕ) → List (String Global) → Bool
are_all_of keys [] = true
are_all_of keys (s ∷ ss) = is_one_of keys (string_bytes s) && are_all_of keys ss

pub are_all_of_keys : (keys : List (List ℕ)) (es : List Entry) → are_all_of keys (map_keys es) ≡ has_only keys (members_view es)
are_all_of_keys keys [] = refl
are_all_of_keys keys (e ∷ es) = ap (λ b. is_one_of keys (string_bytes e.0) && b) (are_all_of_keys keys es)

pub only_item_one : (vs : List Value) (d : Value) → length vs ≡ 1 → Some (view (get_or vs 0 d)) ≡ only_item (items_view vs)
only_item_one [] d one = absurd (omega arith)
only_item_one (v ∷ []) d one = refl
only_item_one (v ∷ w ∷ vs) d one = absurd (omega arith)

pub only_item_other : (vs : List Value) → length vs ≢ 1 → None ≡ only_item (items_view vs)
only_item_other [] other = refl
only_item_other (v ∷ []) other = absurd (other refl)
only_item_other (v ∷ w ∷ vs) other = refl

-- a pair is read by its two items
pub pair_of_two : (vs : List Value) (d : Value) → length vs ≡ 2 → span_between (view (get_or vs 0 d)) (view (get_or vs 1 d)) ≡ span_in_pair (items_view vs)
pair_of_two [] d two = absurd (omega arith)
pair_of_two (v ∷ []) d two = absurd (omega arith)
pair_of_two (v ∷ w ∷ []) d two = refl
pair_of_two (v ∷ w ∷ x ∷ vs) d two = absurd (omega arith)

pub pair_of_other : (vs : List Value) → length vs ≢ 2 → None ≡ span_in_pair (items_view vs)
pair_of_other [] other = refl
pair_of_other (v ∷ []) other = refl
pair_of_other (v ∷ w ∷ []) other = absurd (other refl)
pair_of_other (v ∷ w ∷ x ∷ vs) other = refl

-- a text is one job at most
pub IsJobText-unique : (text own : List ℕ) (a b : Job) → IsJobText text own a → IsJobText text own b → a ≡ b
IsJobText-unique text own a b one two =
    let trees : one.tree ≡ two.tree = same_Some _ _ (sym one.parsed ∙ two.parsed) in
    same_Some _ _ (sym one.gives ∙ ap (λ tree. job_of tree own) trees ∙ two.gives)
