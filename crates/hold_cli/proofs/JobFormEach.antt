-- Reading the items of a list one after another.
use Rattle.std.proofs.Common.{◌≡◌, ℕ, ◌+◌, ◌<◌, ◌≤◌, List, [], ◌∷◌, ◌++◌, length, get_or, drop, Option, Some, None, refl, ap, ◌∙◌, append_assoc}
use Rattle.std.proofs.lemmas.List.{append-nil, drop_all}
use Rattle.toml.specs.Data.{Data, Items, item}
use Rattle.toml.specs.View.{view, items_view}
use Rattle.toml.specs.declared.value.Value.{Value}
use Rattle.toml.proofs.Views.{items_view-drop}
use Rattle.hold_cli.specs.JobFormKeys.{each_of}

-- what was read, before what the rest gives
abbrev pub after : {A : Type 0} → List A → Option (List A) → Option (List A)
after done None = None
after done (Some rest) = Some (done ++ rest)

-- an item that gives nothing spoils the list
nothing_first : {A : Type 0} (read : Data → Option A) (d : Data) (ds : Items) → read d ≡ None → each_of read (item d ds) ≡ None
nothing_first read d ds e = rw e refl

-- an item that gives something stands before what the rest gives
moved : {A : Type 0} (done : List A) (x : A) (rest : Option (List A)) (whole : Option (List A)) → whole ≡ after (x ∷ []) rest → after (done ++ x ∷ []) rest ≡ after done whole
moved done x None whole e = rw e refl
moved done x (Some xs) whole e = rw e (ap Some (append_assoc done (x ∷ []) xs))

something_first : {A : Type 0} (read : Data → Option A) (d : Data) (ds : Items) (x : A) (rest : Option (List A)) → each_of read ds ≡ rest → read d ≡ Some x → each_of read (item d ds) ≡ after (x ∷ []) rest
something_first read d ds x None rest e = rw (e, rest) refl
something_first read d ds x (Some xs) rest e = rw (e, rest) refl

pub each_of_spoilt : {A : Type 0} (read : Data → Option A) (vs : List Value) (i : ℕ) (v : Value) (done : List A) → i < length vs → read (view (get_or vs i v)) ≡ None
    → after done (each_of read (items_view (drop i vs))) ≡ None
each_of_spoilt read vs i v done below e = rw (items_view-drop vs i v below, nothing_first read _ _ e) refl

pub each_of_step : {A : Type 0} (read : Data → Option A) (vs : List Value) (i : ℕ) (v : Value) (done : List A) (x : A) → i < length vs → read (view (get_or vs i v)) ≡ Some x
    → after (done ++ x ∷ []) (each_of read (items_view (drop (i + 1) vs))) ≡ after done (each_of read (items_view (drop i vs)))
each_of_step read vs i v done x below e =
    moved done x _ _ (ap (each_of read) (items_view-drop vs i v below) ∙ something_first read _ _ x _ refl e)

pub each_of_end : {A : Type 0} (read : Data → Option A) (vs : List Value) (i : ℕ) (done : List A) → length vs ≤ i
    → after done (each_of read (items_view (drop i vs))) ≡ Some done
each_of_end read vs i done past = rw (drop_all i vs past) (ap Some (append-nil done))
