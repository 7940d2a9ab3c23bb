-- The text of names tells them: no two names have one text.
use Rattle.std.proofs.Common.{◌≡◌, ℕ, List, [], ◌∷◌, ◌++◌, refl, ap, sym, ◌∙◌, append_assoc}
use Rattle.hold_values.specs.inner.Keys.{ended, arc_text, check_text}

same_head : (a b : ℕ) (ms ns : List ℕ) → a ∷ ms ≡ b ∷ ns → a ≡ b
same_head a b ms ns e = cc

same_tail : (a b : ℕ) (ms ns : List ℕ) → a ∷ ms ≡ b ∷ ns → ms ≡ ns
same_tail a b ms ns e = cc

no_end : (b : ℕ) (ms ns : List ℕ) → 0 ∷ ms ≡ 1 ∷ b ∷ ns → ⊥
no_end b ms ns e = let h : 0 ≡ 1 = same_head 0 1 ms (b ∷ ns) e in absurd cc

pub ended-one : (a b r s : List ℕ) → ended a ++ r ≡ ended b ++ s → (a ≡ b) × (r ≡ s)
ended-one [] [] r s e = (refl, same_tail 0 0 r s e)
ended-one [] (y ∷ b) r s e = absurd (no_end y r (ended b ++ s) e)
ended-one (x ∷ a) [] r s e = absurd (no_end x s (ended a ++ r) (sym e))
ended-one (x ∷ a) (y ∷ b) r s e =
    let rest : x ∷ (ended a ++ r) ≡ y ∷ (ended b ++ s) = same_tail 1 1 (x ∷ (ended a ++ r)) (y ∷ (ended b ++ s)) e in
    let head : x ≡ y = same_head x y (ended a ++ r) (ended b ++ s) rest in
    let more = ended-one a b r s (same_tail x y (ended a ++ r) (ended b ++ s) rest) in
    (ap (λ (n : ℕ). n ∷ a) head ∙ ap (λ (l : List ℕ). y ∷ l) more.0, more.1)

pub ended-same : (a b : List ℕ) → ended a ≡ ended b → a ≡ b
ended-same [] [] e = refl
ended-same [] (y ∷ b) e = absurd (no_end y [] (ended b) e)
ended-same (x ∷ a) [] e = absurd (no_end x [] (ended a) (sym e))
ended-same (x ∷ a) (y ∷ b) e =
    let rest : x ∷ ended a ≡ y ∷ ended b = same_tail 1 1 (x ∷ ended a) (y ∷ ended b) e in
    let head : x ≡ y = same_head x y (ended a) (ended b) rest in
    ap (λ (n : ℕ). n ∷ a) head ∙ ap (λ (l : List ℕ). y ∷ l) (ended-same a b (same_tail x y (ended a) (ended b) rest))

pub check_text-one : (kind pin other name : List ℕ) → check_text kind pin ≡ check_text other name → (kind ≡ other) × (pin ≡ name)
check_text-one kind pin other name e =
    let first = ended-one kind other (ended pin) (ended name) e in
    (first.0, ended-same pin name first.1)

pub arc_text-one : (kind from to other begins ends : List ℕ) → arc_text kind from to ≡ arc_text other begins ends → (kind ≡ other) × (from ≡ begins) × (to ≡ ends)
arc_text-one kind from to other begins ends e =
    let first = ended-one kind other (ended from ++ ended to) (ended begins ++ ended ends)
    (sym (append_assoc (ended kind) (ended from) (ended to)) ∙ e ∙ append_assoc (ended other) (ended begins) (ended ends)) in
    let second = ended-one from begins (ended to) (ended ends) first.1 in
    (first.0, second.0, ended-same to ends second.1)
