-- Which names are among others, and what it says of a list that its names are told apart one by one.
use Rattle.std.proofs.Common.{◌≡◌, ℕ, List, [], ◌∷◌, ◌++◌, true, false, ◌||◌, refl, sym, ◌∙◌, ap, bytes_eq, append_assoc}
use Rattle.std.specs.Prelude.{None}
use Rattle.std.proofs.lemmas.Bool.{false_from_ne_true, or_parts, or_from, or_left, or_right}
use Rattle.std.proofs.lemmas.List.{append-nil}
use Rattle.std.proofs.lemmas.List.Folds.{list_any-append}
use Rattle.std.proofs.lemmas.Slice.Eq.{bytes_eq-Decides}
use Rattle.hold_base.proofs.Bools.{cond-None}
use Rattle.hold_base.proofs.Bytes.{bytes_eq-swap}
use Rattle.hold_netlist.specs.Names.{is_among}
use Rattle.hold_netlist.specs.Doubles.{first_repeat}

pub is_among-append : (n : List ℕ) (a b : List (List ℕ)) → is_among n (a ++ b) ≡ (is_among n a || is_among n b)
is_among-append n a b = list_any-append (bytes_eq n) a b

pub is_among_left : (n : List ℕ) (a b : List (List ℕ)) → is_among n a ≡ true → is_among n (a ++ b) ≡ true
is_among_left n a b h = is_among-append n a b ∙ or_left (is_among n a) (is_among n b) h

pub is_among_right : (n : List ℕ) (a b : List (List ℕ)) → is_among n b ≡ true → is_among n (a ++ b) ≡ true
is_among_right n a b h = is_among-append n a b ∙ or_right (is_among n a) (is_among n b) h

pub among_neither : (n : List ℕ) (a b : List (List ℕ)) → is_among n (a ++ b) ≡ false → (is_among n a ≡ false) × (is_among n b ≡ false)
among_neither n a b h = or_parts (is_among n a) (is_among n b) (sym (is_among-append n a b) ∙ h)

-- a name that is among them is another than one that isn't
pub among_apart : (n other : List ℕ) (names : List (List ℕ)) → is_among n names ≡ true → is_among other names ≡ false → bytes_eq n other ≡ false
among_apart n other names is isnt = false_from_ne_true (bytes_eq n other) (λ same. let e : n ≡ other = (bytes_eq-Decides n other).0 same in let again = ap (λ m. is_among m names) e in cc)

-- none of the names is among those
abbrev pub NoneAmong : List (List ℕ) → List (List ℕ) → Type 0
NoneAmong [] those = Unit {0}
NoneAmong (n ∷ ns) those = (is_among n those ≡ false) × NoneAmong ns those

-- no name stands twice
abbrev pub Differ : List (List ℕ) → Type 0
Differ [] = Unit {0}
Differ (n ∷ ns) = (is_among n ns ≡ false) × Differ ns

-- a name that isn't among those that repeat nothing is new
none_before : (n : List ℕ) (seen ns : List (List ℕ)) → NoneAmong ns (seen ++ n ∷ []) → NoneAmong ns seen × (is_among n ns ≡ false)
none_before n seen [] h = (tt, refl)
none_before n seen (m ∷ ms) h =
    let parts = among_neither m seen (n ∷ []) h.0 in
    let apart : bytes_eq m n ≡ false = (or_parts (bytes_eq m n) false parts.1).0 in
    let rest = none_before n seen ms h.1 in
    ((parts.0, rest.0), or_from (bytes_eq n m) (is_among n ms) (bytes_eq-swap m n apart) rest.1)

-- where no name repeats one that was seen, none is among the seen, and they differ
pub unrepeated : (seen ns : List (List ℕ)) → first_repeat seen ns ≡ None → NoneAmong ns seen × Differ ns
unrepeated seen [] h = (tt, tt)
unrepeated seen (n ∷ ns) h =
    let new = cond-None (is_among n seen) n (first_repeat (seen ++ n ∷ []) ns) h in
    let rest = unrepeated (seen ++ n ∷ []) ns new.1 in
    let before = none_before n seen ns rest.0 in
    ((new.0, before.0), (before.1, rest.1))

-- the front repeats nothing, and the rest nothing of the front
pub unrepeated-append : (seen a b : List (List ℕ)) → first_repeat seen (a ++ b) ≡ None → (first_repeat seen a ≡ None) × (first_repeat (seen ++ a) b ≡ None)
unrepeated-append seen [] b h = (refl, rw append-nil h)
unrepeated-append seen (n ∷ a) b h =
    let new = cond-None (is_among n seen) n (first_repeat (seen ++ n ∷ []) (a ++ b)) h in
    let rest = unrepeated-append (seen ++ n ∷ []) a b new.1 in
    (rw new.0 rest.0, rw append_assoc at rest.1)
