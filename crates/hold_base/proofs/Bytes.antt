-- Texts compared byte by byte (bytes_eq). std has bytes_eq-Decides (proofs.lemmas.Slice.Eq).
use Rattle.std.proofs.Common.{◌≡◌, ◌≢◌, ℕ, List, Bool, true, false, refl, sym, ◌∙◌, bytes_eq}
use Rattle.std.proofs.lemmas.Bool.Decides.{same_from_decides}
use Rattle.std.proofs.lemmas.Slice.Eq.{bytes_eq-Decides}

pub bytes_eq-self : (a : List ℕ) → bytes_eq a a ≡ true
bytes_eq-self a = (bytes_eq-Decides a a).1 refl

pub bytes_eq-same : (a b : List ℕ) → bytes_eq a b ≡ true → a ≡ b
bytes_eq-same a b h = (bytes_eq-Decides a b).0 h

pub bytes_eq-apart : (a b : List ℕ) → bytes_eq a b ≡ false → a ≢ b
bytes_eq-apart a b h e = never (bytes_eq a b) h ((bytes_eq-Decides a b).1 e)
  where
    never : (t : Bool) → t ≡ false → t ≡ true → ⊥
    never true h k = cc
    never false h k = cc

pub bytes_eq-sym : (a b : List ℕ) → bytes_eq a b ≡ bytes_eq b a
bytes_eq-sym a b =
    let there = bytes_eq-Decides b a in
    same_from_decides (bytes_eq a b) (bytes_eq b a) (bytes_eq-Decides a b) ((λ yes. sym (there.0 yes)), (λ e. there.1 (sym e)))

pub bytes_eq-swap : (a b : List ℕ) → bytes_eq a b ≡ false → bytes_eq b a ≡ false
bytes_eq-swap a b apart = bytes_eq-sym b a ∙ apart
