-- A text that is a name and a number in brackets is so in one way: the name ends before the last opening bracket.
use Rattle.std.proofs.Common.{◌≡◌, ℕ, ◌+◌, ◌<◌, ◌%◌, List, [], ◌∷◌, ◌++◌, length-append, length, take, drop, refl, ap, sym, ◌∙◌, subst, arith}
use Rattle.std.specs.Prelude.{◌^◌, Option, Some, None, decimal}
use Rattle.std.specs.List.{AllByRecursion}
use Rattle.std.proofs.lemmas.Fmt.{decimal_by_steps, decimal_injective, IsAscii-decimal}
use Rattle.std.proofs.lemmas.Str.{IsUtf8-from_ascii}
use Rattle.std.specs.Str.{IsUtf8}
use Rattle.std.proofs.lemmas.List.{append_cancel_right, drop_all, take-append-drop, drop-append-le}
use Rattle.std.proofs.lemmas.Option.{slice_get_within, get_or_from_slice_get}
use Rattle.hold_base.proofs.Lists.{AllByRecursion-append, slice_get-append, slice_get-seam, drop-here}
use Rattle.hold_told.specs.inner.Indexed.{index, IsNoOpen, IsOpenAt, IsLastOpen}

no_open-behind : (xs : List ℕ) (a d : List ℕ) → AllByRecursion IsNoOpen xs → xs ≡ a ++ 91 ∷ d → ⊥
no_open-behind [] [] d h e = cc
no_open-behind [] (y ∷ a) d h e = cc
no_open-behind (x ∷ xs) [] d h e = let same : x ≡ 91 = cc in h.0 same
no_open-behind (x ∷ xs) (y ∷ a) d h e = let rest : xs ≡ a ++ 91 ∷ d = cc in no_open-behind xs a d h.1 rest

pub cut-last : (a b d e : List ℕ) → AllByRecursion IsNoOpen d → AllByRecursion IsNoOpen e → a ++ 91 ∷ d ≡ b ++ 91 ∷ e → (a ≡ b) × (d ≡ e)
cut-last [] [] d e h g same = (refl, cc)
cut-last [] (y ∷ b) d e h g same = let rest : d ≡ b ++ 91 ∷ e = cc in absurd (no_open-behind d b e h rest)
cut-last (x ∷ a) [] d e h g same = let rest : e ≡ a ++ 91 ∷ d = cc in absurd (no_open-behind e a d g rest)
cut-last (x ∷ a) (y ∷ b) d e h g same =
    let rest : a ++ 91 ∷ d ≡ b ++ 91 ∷ e = cc in
    let first : x ≡ y = cc in
    let more = cut-last a b d e h g rest in
    (ap (λ (n : ℕ). n ∷ a) first ∙ ap (λ (l : List ℕ). y ∷ l) more.0, more.1)

pub decimal-no_open : (n : ℕ) → n < 2 ^ 64 → AllByRecursion IsNoOpen (decimal n)
decimal-no_open = decimal_by_steps (λ n ds. AllByRecursion IsNoOpen ds)
    (λ n small. ((λ e. omega arith), tt))
    (λ n ds big h. let last : IsNoOpen (48 + n % 10) = (λ e. omega arith) in AllByRecursion-append IsNoOpen ds ((48 + n % 10) ∷ []) h (last, tt))

-- what stands behind the bracket of an index
behind : ℕ → List ℕ
behind n = decimal n ++ 93 ∷ []

behind-no_open : (n : ℕ) → n < 2 ^ 64 → AllByRecursion IsNoOpen (behind n)
unfolding behind
behind-no_open n small = AllByRecursion-append IsNoOpen (decimal n) (93 ∷ []) (decimal-no_open n small) ((λ e. omega arith), tt)

-- the last opening bracket, byte by byte
pub open-here : (xs : List ℕ) → IsLastOpen (xs ++ 91 ∷ []) (Some (length xs))
open-here xs = record { is = slice_get-seam xs [] 91; last = subst (AllByRecursion IsNoOpen) (sym (nothing xs)) tt }
  where
    nothing : (xs : List ℕ) → drop (length xs + 1) (xs ++ 91 ∷ []) ≡ []
    nothing xs = drop_all (length xs + 1) (xs ++ 91 ∷ []) (simp length-append (omega arith))

pub open-kept : (xs : List ℕ) (x : ℕ) (last : Option ℕ) → (x ≡ 91 → ⊥) → IsLastOpen xs last → IsLastOpen (xs ++ x ∷ []) last
open-kept xs x None differs h = AllByRecursion-append IsNoOpen xs (x ∷ []) h (differs, tt)
open-kept xs x (Some at) differs h =
    let within = slice_get_within xs at 91 h.is in
    record {
      is = slice_get-append xs (x ∷ []) at 91 h.is;
      last = subst (AllByRecursion IsNoOpen) (sym (drop-append-le (at + 1) xs (x ∷ []) (omega arith))) (AllByRecursion-append IsNoOpen (drop (at + 1) xs) (x ∷ []) h.last (differs, tt));
    }

-- the text is cut there
pub cut-at : (text : List ℕ) (place : ℕ) → IsOpenAt text place → text ≡ take place text ++ 91 ∷ drop (place + 1) text
cut-at text place h =
    let within = slice_get_within text place 91 h.is in
    sym (take-append-drop place text) ∙ ap (λ (l : List ℕ). take place text ++ l) (drop-here text place 91 within (sym (get_or_from_slice_get text place 91 91 h.is)))

-- where the text is a name and an index, the index begins there
pub index-there : (text name : List ℕ) (n place : ℕ) → n < 2 ^ 64 → IsOpenAt text place → text ≡ name ++ index n → drop place text ≡ index n
unfolding behind
index-there text name n place small h is =
    let parts = cut-last (take place text) name (drop (place + 1) text) (behind n) h.last (behind-no_open n small) (sym (cut-at text place h) ∙ is) in
    let within = slice_get_within text place 91 h.is in
    drop-here text place 91 within (sym (get_or_from_slice_get text place 91 91 h.is)) ∙ ap (λ (l : List ℕ). 91 ∷ l) parts.1

pub no_index : (text name : List ℕ) (n : ℕ) → AllByRecursion IsNoOpen text → text ≡ name ++ index n → ⊥
no_index text name n h is = no_open-behind text name (decimal n ++ 93 ∷ []) h is

pub decimal-utf8 : (text : List ℕ) (n : ℕ) → n < 2 ^ 64 → text ≡ decimal n → IsUtf8 text
decimal-utf8 text n small is = rw is (IsUtf8-from_ascii (decimal n) (IsAscii-decimal n small))

-- a text is a name and an index in one way
pub index-one : (a b : List ℕ) (m n : ℕ) → m < 2 ^ 64 → n < 2 ^ 64 → a ++ index m ≡ b ++ index n → (a ≡ b) × (m ≡ n)
unfolding behind
index-one a b m n small_m small_n same =
    let parts = cut-last a b (behind m) (behind n) (behind-no_open m small_m) (behind-no_open n small_n) same in
    (parts.0, decimal_injective m n small_m small_n (append_cancel_right (decimal m) (decimal n) (93 ∷ []) parts.1))
