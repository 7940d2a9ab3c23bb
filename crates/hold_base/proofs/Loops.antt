-- Loops that put what they read behind a list: the list and what is left make the same whole after each turn.
use Rattle.std.proofs.Common.{◌≡◌, List, [], ◌∷◌, ◌++◌, ap, sym, ◌∙◌, append_assoc}

pub added-whole : {X : Type 0} (list more rest left here whole : List X) → more ≡ list ++ here → rest ≡ here ++ left → list ++ rest ≡ whole → more ++ left ≡ whole
added-whole list more rest left here whole put split so_far =
    ap (λ l. l ++ left) put ∙ append_assoc list here left ∙ ap (λ l. list ++ l) (sym split) ∙ so_far

pub pushed-whole : {X : Type 0} (list more rest left whole : List X) (x y : X) → more ≡ list ++ x ∷ [] → x ≡ y → rest ≡ y ∷ left → list ++ rest ≡ whole → more ++ left ≡ whole
pushed-whole list more rest left whole x y put same split so_far =
    added-whole list more rest left (y ∷ []) whole (put ∙ ap (λ z. list ++ z ∷ []) same) split so_far
