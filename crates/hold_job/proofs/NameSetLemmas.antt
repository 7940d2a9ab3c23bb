-- Sets of names beside the lists that they were made of.
use Rattle.std.proofs.Common.{◌≡◌, ℕ, ◌+◌, ◌<◌, List, [], ◌∷◌, ◌++◌, Bool, true, false, not, ◌&&◌, ◌||◌, cond, bytes_eq, get_or, drop, length, Option, Some, None, refl, ap, sym, ◌∙◌}
use Rattle.std.specs.Prelude.{Ok, Err}
use Rattle.std.specs.Fmt.{decimal}
use Rattle.toml.specs.Data.{Data, Items, no_items, item, as_str}
use Rattle.hold_job.specs.Outcome.{Outcome, ◌>>=◌, of_kind, in_rule, at}
use Rattle.hold_job.specs.Keys.{Form}
use Rattle.hold_job.specs.Lists.{in_turn}
use Rattle.hold_job.specs.Names.{is_name, new_name, one_of}
use Rattle.std.proofs.Math.Bool.{or_assoc, or-false}
use Rattle.std.proofs.lemmas.List.{drop_more}
use Rattle.std.proofs.lemmas.List.Folds.{list_any-append}
use Rattle.std.proofs.lemmas.Slice.Eq.{bytes_eq-Decides}
use Rattle.hold_base.proofs.Bools.{not-false}
use Rattle.hold_netlist.specs.Names.{is_among}

pub among_last : (set : List (List ℕ)) (x n : List ℕ) → is_among n (set ++ x ∷ []) ≡ (is_among n set || bytes_eq n x)
among_last set x n = list_any-append (bytes_eq n) set (x ∷ []) ∙ ap (λ b. is_among n set || b) (or-false (bytes_eq n x))

-- a name that is in the set already adds nothing
among_twice : (set : List (List ℕ)) (x n : List ℕ) (here : Bool) (rest : Bool) → here ≡ bytes_eq n x → is_among x set ≡ true → (is_among n set || rest) ≡ (is_among n set || (here || rest))
among_twice set x n false rest is among = refl
among_twice set x n true rest is among =
    let same : n ≡ x = (bytes_eq-Decides n x).0 (sym is) in
    rw (same, among) refl

-- a name that is put into a set
in_set_or_left : (set : List (List ℕ)) (x n : List ℕ) (is_new rest : Bool) → is_new ≡ not (is_among x set)
    → (is_among n (cond is_new (set ++ x ∷ []) set) || rest) ≡ (is_among n set || (bytes_eq n x || rest))
in_set_or_left set x n true rest new = rw (among_last set x n) (or_assoc (is_among n set) (bytes_eq n x) rest)
in_set_or_left set x n false rest new = among_twice set x n (bytes_eq n x) rest refl (not-false (is_among x set) (sym new))

-- what is in the set or left stays so when the next name is put into the set
pub set_step : (set new names : List (List ℕ)) (i : ℕ) (x name n : List ℕ) (is_new : Bool) → i < length names → name ≡ get_or names i name → x ≡ name
    → is_new ≡ not (is_among x set) → new ≡ cond is_new (set ++ x ∷ []) set
    → (is_among n new || is_among n (drop (i + 1) names)) ≡ (is_among n set || is_among n (drop i names))
set_step set new names i x name n is_new below at same is added =
    let next : drop i names ≡ x ∷ drop (i + 1) names = drop_more names i name below ∙ ap (λ y. y ∷ drop (i + 1) names) (sym at ∙ sym same) in
    ap (λ s. is_among n s || is_among n (drop (i + 1) names)) added ∙ in_set_or_left set x n is_new _ is ∙ ap (λ ns. is_among n set || is_among n ns) (sym next)

-- ---- texts that are tested against a set

-- what holds of a set holds with more names behind it
pub among_behind : (s t more : List (List ℕ)) → ((n : List ℕ) → is_among n s ≡ is_among n t) → (n : List ℕ) → is_among n (s ++ more) ≡ is_among n (t ++ more)
among_behind s t more same n = list_any-append (bytes_eq n) s more ∙ ap (λ b. b || is_among n more) (same n) ∙ sym (list_any-append (bytes_eq n) t more)

pub new_name_same : (s t : List (List ℕ)) → ((n : List ℕ) → is_among n s ≡ is_among n t) → (d : Data) → new_name s d ≡ new_name t d
new_name_same s t same d = by (as_str d)
  where
    by : (o : Option (List ℕ)) → (of_kind o >>= in_rule (λ n. is_name n && not (is_among n s))) ≡ (of_kind o >>= in_rule (λ n. is_name n && not (is_among n t)))
    by None = refl
    by (Some n) = rw (same n) refl

pub one_of_same : (s t : List (List ℕ)) → ((n : List ℕ) → is_among n s ≡ is_among n t) → (d : Data) → one_of s d ≡ one_of t d
one_of_same s t same d = by (as_str d)
  where
    by : (o : Option (List ℕ)) → (of_kind o >>= in_rule (λ n. is_among n s)) ≡ (of_kind o >>= in_rule (λ n. is_among n t))
    by None = refl
    by (Some n) = rw (same n) refl

-- forms that agree on each item agree on the list
pub in_turn_same : {A : Type 0} (f g : List A → Form A) → ((so_far : List A) (d : Data) → f so_far d ≡ g so_far d) → (so_far : List A) (ds : Items)
    → in_turn f so_far ds ≡ in_turn g so_far ds
in_turn_same f g same so_far no_items = refl
in_turn_same {A} f g same so_far (item d ds) =
    ap (λ o. at (decimal (length so_far)) o >>= λ x. in_turn f (so_far ++ x ∷ []) ds) (same so_far d)
    ∙ by (at (decimal (length so_far)) (g so_far d)) (λ more. in_turn_same f g same more ds)
  where
    by : (o : Outcome A) → ((more : List A) → in_turn f more ds ≡ in_turn g more ds) → (o >>= λ x. in_turn f (so_far ++ x ∷ []) ds) ≡ (o >>= λ x. in_turn g (so_far ++ x ∷ []) ds)
    by (Ok x) rest = rest (so_far ++ x ∷ [])
    by (Err fault) rest = refl
