-- Sets of names beside the lists that they were made of, and names that stand twice.
use Rattle.std.proofs.Common.{◌≡◌, ℕ, ◌+◌, ◌<◌, List, [], ◌∷◌, ◌++◌, Bool, true, false, not, ◌&&◌, ◌||◌, cond, Some, is_none, bytes_eq, get_or, drop, length, refl, ap, sym, ◌∙◌, append_assoc}
use Rattle.std.proofs.Math.Bool.{or_assoc, or-false}
use Rattle.std.proofs.lemmas.List.{append-nil, drop_more}
use Rattle.std.specs.List.{list_all}
use Rattle.std.proofs.lemmas.List.Folds.{list_any-append}
use Rattle.std.proofs.lemmas.Slice.Eq.{bytes_eq-Decides}
use Rattle.hold_base.proofs.Bools.{not-false}
use Rattle.hold_base.proofs.Lists.{list_all-same}
use Rattle.hold_netlist.specs.Doubles.{first_repeat}
use Rattle.hold_netlist.specs.Names.{is_among}
use Rattle.hold_plain.specs.declared.cell.CellArc.{CellArc}
use Rattle.hold_plain.specs.declared.cell.CellCheck.{CellCheck}
use Rattle.hold_cli.specs.JobFormCells.{leads_between}

among_last : (set : List (List ℕ)) (x n : List ℕ) → is_among n (set ++ x ∷ []) ≡ (is_among n set || bytes_eq n x)
among_last set x n = list_any-append (bytes_eq n) set (x ∷ []) ∙ ap (λ b. is_among n set || b) (or-false (bytes_eq n x))

-- a name that is in the set already adds nothing
among_twice : (set : List (List ℕ)) (x n : List ℕ) (here : Bool) (rest : Bool) → here ≡ bytes_eq n x → is_among x set ≡ true → (is_among n set || rest) ≡ (is_among n set || (here || rest))
among_twice set x n false rest is among = refl
among_twice set x n true rest is among =
    let same : n ≡ x = (bytes_eq-Decides n x).0 (sym is) in
    rw (same, among) refl

-- a name that is put into a set
in_set_or_left : (set : List (List ℕ)) (x n : List ℕ) (is_new rest : Bool) → is_new ≡ not (is_among x set)
    → (is_among n (cond is_new (set ++ x ∷ []) set) || rest) ≡ (is_among n set || (bytes_eq n x || rest))
in_set_or_left set x n true rest new = rw (among_last set x n) (or_assoc (is_among n set) (bytes_eq n x) rest)
in_set_or_left set x n false rest new = among_twice set x n (bytes_eq n x) rest refl (not-false (is_among x set) (sym new))

-- what is in the set or left stays so when the next name is put into the set
pub set_step : (set new names : List (List ℕ)) (i : ℕ) (x name n : List ℕ) (is_new : Bool) → i < length names → name ≡ get_or names i name → x ≡ name
    → is_new ≡ not (is_among x set) → new ≡ cond is_new (set ++ x ∷ []) set
    → (is_among n new || is_among n (drop (i + 1) names)) ≡ (is_among n set || is_among n (drop i names))
set_step set new names i x name n is_new below at same is added =
    let next : drop i names ≡ x ∷ drop (i + 1) names = drop_more names i name below ∙ ap (λ y. y ∷ drop (i + 1) names) (sym at ∙ sym same) in
    ap (λ s. is_among n s || is_among n (drop (i + 1) names)) added ∙ in_set_or_left set x n is_new _ is ∙ ap (λ ns. is_among n set || is_among n ns) (sym next)

pub all_lead_same : (arcs : List CellArc) (s o s2 o2 : List (List ℕ)) → ((n : List ℕ) → is_among n s ≡ is_among n s2) → ((n : List ℕ) → is_among n o ≡ is_among n o2)
    → list_all (leads_between s o) arcs ≡ list_all (leads_between s2 o2) arcs
all_lead_same arcs s o s2 o2 sources outputs = list_all-same (leads_between s o) (leads_between s2 o2) (λ arc. rw (sources arc.from, outputs arc.to) refl) arcs

pub all_of_same : (checks : List CellCheck) (s s2 : List (List ℕ)) → ((n : List ℕ) → is_among n s ≡ is_among n s2)
    → list_all (λ entry. is_among entry.pin s) checks ≡ list_all (λ entry. is_among entry.pin s2) checks
all_of_same checks s s2 same = list_all-same (λ (entry : CellCheck). is_among entry.pin s) (λ (entry : CellCheck). is_among entry.pin s2) (λ entry. same entry.pin) checks

-- names that are all new, and then more names
pub first_repeat-append : (seen xs ys : List (List ℕ)) → is_none (first_repeat seen (xs ++ ys)) ≡ (is_none (first_repeat seen xs) && is_none (first_repeat (seen ++ xs) ys))
first_repeat-append seen [] ys = ap (λ s. is_none (first_repeat s ys)) (sym (append-nil seen))
first_repeat-append seen (x ∷ xs) ys = by (is_among x seen) (first_repeat-append (seen ++ x ∷ []) xs ys)
  where
    by : (b : Bool) → is_none (first_repeat (seen ++ x ∷ []) (xs ++ ys)) ≡ (is_none (first_repeat (seen ++ x ∷ []) xs) && is_none (first_repeat ((seen ++ x ∷ []) ++ xs) ys))
        → is_none (cond b (Some x) (first_repeat (seen ++ x ∷ []) (xs ++ ys))) ≡ (is_none (cond b (Some x) (first_repeat (seen ++ x ∷ []) xs)) && is_none (first_repeat (seen ++ x ∷ xs) ys))
    by true rest = refl
    by false rest = rest ∙ rw (append_assoc seen (x ∷ []) xs) refl

-- three lists of names, seen one after the other
pub three_new : (xs ys zs : List (List ℕ)) (third : Bool) → true ≡ is_none (first_repeat [] xs) → true ≡ is_none (first_repeat xs ys)
    → third ≡ is_none (first_repeat (xs ++ ys) zs) → third ≡ is_none (first_repeat [] (xs ++ (ys ++ zs)))
three_new xs ys zs third one two is =
    rw (first_repeat-append [] xs (ys ++ zs), ← one, first_repeat-append xs ys zs, ← two) is

pub first_old : (xs more : List (List ℕ)) → false ≡ is_none (first_repeat [] xs) → false ≡ is_none (first_repeat [] (xs ++ more))
first_old xs more one = rw (first_repeat-append [] xs more, ← one) refl

pub second_old : (xs ys zs : List (List ℕ)) → true ≡ is_none (first_repeat [] xs) → false ≡ is_none (first_repeat xs ys)
    → false ≡ is_none (first_repeat [] (xs ++ (ys ++ zs)))
second_old xs ys zs one two = rw (first_repeat-append [] xs (ys ++ zs), ← one, first_repeat-append xs ys zs, ← two) refl
