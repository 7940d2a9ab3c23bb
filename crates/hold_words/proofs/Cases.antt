-- Two texts are one in upper case exactly where they are one in lower case.
use Rattle.std.proofs.Common.{◌≡◌, ℕ, Bool, List, [], ◌∷◌, map, refl, sym, ◌∙◌, ap, arith}
use Rattle.std.specs.Char.{to_ascii_uppercase, to_ascii_lowercase}
use Rattle.std.specs.Prelude.{◌↔◌, IsTrue, bytes_eq}
use Rattle.std.proofs.lemmas.Bool.Decides.{nat_tests, same_from_decides}
use Rattle.std.proofs.lemmas.Slice.Eq.{bytes_eq-Decides}
use Rattle.std.proofs.lemmas.Str.Ascii.{lowercase-uppercase}
use Rattle.hold_words.specs.Rows.{upper}

-- made lower case and then upper case is made upper case
pub uppercase-lowercase : (c : ℕ) → to_ascii_uppercase (to_ascii_lowercase c) ≡ to_ascii_uppercase c
uppercase-lowercase c = grind (arith, nat_tests)

upper-lower : (text : List ℕ) → upper (map to_ascii_lowercase text) ≡ upper text
upper-lower [] = refl
upper-lower (c ∷ text) = let head = uppercase-lowercase c in let tail = upper-lower text in cc

lower-upper : (text : List ℕ) → map to_ascii_lowercase (upper text) ≡ map to_ascii_lowercase text
lower-upper [] = refl
lower-upper (c ∷ text) = let head = lowercase-uppercase c in let tail = lower-upper text in cc

pub same_upper : (a b : List ℕ) (r : Bool) → (IsTrue r ↔ (map to_ascii_lowercase a ≡ map to_ascii_lowercase b)) → r ≡ bytes_eq (upper a) (upper b)
same_upper a b r same =
    let test = bytes_eq-Decides (upper a) (upper b) in
    same_from_decides r (bytes_eq (upper a) (upper b)) (
      (λ yes. sym (upper-lower a) ∙ ap upper (same.0 yes) ∙ upper-lower b),
      (λ e. same.1 (sym (lower-upper a) ∙ ap (map to_ascii_lowercase) e ∙ lower-upper b)),
    )
    test
