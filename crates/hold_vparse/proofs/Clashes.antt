-- Mentions of which none declares a name again: which names differ, then.
--
-- NoneClash m xs: no mention declares again what an earlier one declares.
-- picked p xs: the names of the mentions that p holds of.
use Rattle.std.proofs.Common.{◌≡◌, ℕ, List, [], ◌∷◌, ◌++◌, Bool, true, false, cond, refl, sym, ◌∙◌, subst, bytes_eq}
use Rattle.std.specs.Prelude.{if◌then◌else◌}
use Rattle.std.specs.List.{AllByRecursion, list_any}
use Rattle.std.proofs.lemmas.Bool.{false_from_ne_true, and_from, or_parts, or_from}
use Rattle.std.proofs.lemmas.List.Folds.{list_any-append}
use Rattle.std.proofs.lemmas.Slice.Eq.{bytes_eq-Decides}
use Rattle.hold_base.proofs.Bools.{cond-nil}
use Rattle.hold_base.proofs.Bytes.{bytes_eq-swap}
use Rattle.hold_netlist.specs.Names.{is_among}
use Rattle.hold_vsyntax.specs.declared.tree.Module.{Module}
use Rattle.hold_vparse.specs.Lines.{header_names}
use Rattle.hold_vparse.specs.Nets.{names, declared_names}
use Rattle.hold_vparse.specs.DoubleNames.{Mention, clash, declares_again, doubles}
use Rattle.hold_vparse.proofs.ClearMentions.{IsClear}
use Rattle.hold_vparse.proofs.NameLists.{NoneAmong, Differ}

abbrev pub NoneClash : Module → List Mention → Type 0
NoneClash m [] = Unit {0}
NoneClash m (x ∷ xs) = AllByRecursion (λ (y : Mention). declares_again m y x ≡ false) xs × NoneClash m xs

abbrev pub picked : (Mention → Bool) → List Mention → List (List ℕ)
picked p [] = []
picked p (x ∷ xs) = if p x then x.name.name ∷ picked p xs else picked p xs

each_apart : (m : Module) (seen : List Mention) (x : Mention) (ys : List Mention) → AllByRecursion (IsClear m (seen ++ x ∷ [])) ys
    → AllByRecursion (IsClear m seen) ys × AllByRecursion (λ (y : Mention). declares_again m y x ≡ false) ys
each_apart m seen x [] h = (tt, tt)
each_apart m seen x (y ∷ ys) h =
    let parts = or_parts (list_any (declares_again m y) seen) (list_any (declares_again m y) (x ∷ [])) (sym (list_any-append (declares_again m y) seen (x ∷ [])) ∙ h.0) in
    let last = or_parts (declares_again m y x) false parts.1 in
    let rest = each_apart m seen x ys h.1 in
    ((parts.0, rest.0), (last.0, rest.1))

-- where nothing is declared again, each mention is clear of the seen ones, and none clash
pub none_clash : (m : Module) (seen xs : List Mention) → doubles m seen xs ≡ [] → AllByRecursion (IsClear m seen) xs × NoneClash m xs
none_clash m seen [] h = (tt, tt)
none_clash m seen (x ∷ xs) h =
    let parts = cond-nil (list_any (declares_again m x) seen) x.name (doubles m (seen ++ x ∷ []) xs) h in
    let rest = none_clash m (seen ++ x ∷ []) xs parts.1 in
    let each = each_apart m seen x xs rest.0 in
    ((parts.0, each.0), (each.1, rest.1))

-- two mentions of one name whose roles clash
pub declared_again : (m : Module) (x y : Mention) → bytes_eq x.name.name y.name.name ≡ true
    → ((listed : Bool) → clash listed (is_among x.name.name (declared_names m)) x.role y.role ≡ true) → declares_again m y x ≡ true
declared_again m x y same clashes =
    let e : x.name.name ≡ y.name.name = (bytes_eq-Decides x.name.name y.name.name).0 same in
    let listed = is_among y.name.name (names (header_names m.header)) in
    and_from (bytes_eq y.name.name x.name.name) (clash listed (is_among y.name.name (declared_names m)) x.role y.role)
    ((bytes_eq-Decides y.name.name x.name.name).1 (sym e))
    (subst (λ n. clash listed (is_among n (declared_names m)) x.role y.role ≡ true) e (clashes listed))

-- a name that would be declared again by each that has it is none of theirs
absent : (n : List ℕ) (p again : Mention → Bool) → ((y : Mention) → p y ≡ true → bytes_eq n y.name.name ≡ true → again y ≡ true)
    → (ys : List Mention) → AllByRecursion (λ (y : Mention). again y ≡ false) ys → is_among n (picked p ys) ≡ false
absent n p again meets [] h = refl
absent n p again meets (y ∷ ys) h = by (p y) (meets y) (absent n p again meets ys h.1)
  where
    by : (b : Bool) → (b ≡ true → bytes_eq n y.name.name ≡ true → again y ≡ true) → is_among n (picked p ys) ≡ false → is_among n (cond b (y.name.name ∷ picked p ys) (picked p ys)) ≡ false
    by true met rest = or_from (bytes_eq n y.name.name) (is_among n (picked p ys)) (false_from_ne_true (bytes_eq n y.name.name) (λ same. let both = met refl same in let clear = h.0 in cc)) rest
    by false met rest = rest

none_added : (n : List ℕ) (ns those : List (List ℕ)) → is_among n ns ≡ false → NoneAmong ns those → NoneAmong ns (n ∷ those)
none_added n [] those new h = tt
none_added n (k ∷ ks) those new h =
    let parts = or_parts (bytes_eq n k) (is_among n ks) new in
    (or_from (bytes_eq k n) (is_among k those) (bytes_eq-swap n k parts.0) h.0, none_added n ks those parts.1 h.1)

-- names of mentions that clash with each other differ
pub picked-differ : (m : Module) (p : Mention → Bool) → ((x y : Mention) → p x ≡ true → p y ≡ true → bytes_eq x.name.name y.name.name ≡ true → declares_again m y x ≡ true)
    → (xs : List Mention) → NoneClash m xs → Differ (picked p xs)
picked-differ m p meets [] h = tt
picked-differ m p meets (x ∷ xs) h = by (p x) (λ e. absent x.name.name p (λ (y : Mention). declares_again m y x) (λ y. meets x y e) xs h.0) (picked-differ m p meets xs h.1)
  where
    by : (b : Bool) → (b ≡ true → is_among x.name.name (picked p xs) ≡ false) → Differ (picked p xs) → Differ (cond b (x.name.name ∷ picked p xs) (picked p xs))
    by true new rest = (new refl, rest)
    by false new rest = rest

-- names of mentions of two sorts that clash, whichever stands first, are apart
pub picked-apart : (m : Module) (p q : Mention → Bool) → ((x : Mention) → p x ≡ true → q x ≡ false)
    → ((x y : Mention) → p x ≡ true → q y ≡ true → bytes_eq x.name.name y.name.name ≡ true → declares_again m y x ≡ true)
    → ((x y : Mention) → q x ≡ true → p y ≡ true → bytes_eq x.name.name y.name.name ≡ true → declares_again m y x ≡ true)
    → (xs : List Mention) → NoneClash m xs → NoneAmong (picked p xs) (picked q xs)
picked-apart m p q other first second [] h = tt
picked-apart m p q other first second (x ∷ xs) h =
    by (p x) (q x) (other x) (λ e. absent x.name.name q (λ (y : Mention). declares_again m y x) (λ y. first x y e) xs h.0)
    (λ e. absent x.name.name p (λ (y : Mention). declares_again m y x) (λ y. second x y e) xs h.0) (picked-apart m p q other first second xs h.1)
  where
    by : (b c : Bool) → (b ≡ true → c ≡ false) → (b ≡ true → is_among x.name.name (picked q xs) ≡ false) → (c ≡ true → is_among x.name.name (picked p xs) ≡ false)
        → NoneAmong (picked p xs) (picked q xs) → NoneAmong (cond b (x.name.name ∷ picked p xs) (picked p xs)) (cond c (x.name.name ∷ picked q xs) (picked q xs))
    by true true one f g rest = absurd (let e = one refl in cc)
    by true false one f g rest = (f refl, rest)
    by false true one f g rest = none_added x.name.name (picked p xs) (picked q xs) (g refl) rest
    by false false one f g rest = rest
