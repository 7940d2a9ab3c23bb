-- The pins of a role and what is listed of them: the lists are as long as each other, and hold what each pin brings.
use Rattle.std.proofs.Common.{◌≡◌, ℕ, suc, ◌+◌, ◌<◌, ◌≤◌, List, [], ◌∷◌, length, cond, Bool, true, false, refl, ap, arith}
use Rattle.std.specs.Prelude.{All}
use Rattle.std.proofs.lemmas.List.Elements.{All-nil, All-cons, All-head, All-tail}
use Rattle.hold_base.specs.declared.number.PinNo.{PinNo}
use Rattle.hold_graph.specs.Graph.{AreBelow}
use Rattle.hold_plain.specs.declared.pin_use.PinUse.{PinUse}
use Rattle.hold_plain.specs.declared.pin_use.PinRole.{PinRole}
use Rattle.hold_plain.specs.Problem.{pins_from, uses_with}

below_cond : (pins : ℕ) (t : Bool) (place : ℕ) (rest : List PinNo) → place < pins → AreBelow pins rest →
    AreBelow pins (cond t (record { 0 = place } ∷ rest) rest)
below_cond pins true place rest lt below = All-cons (λ (pin : PinNo). pin.0 < pins) (record { 0 = place }) rest lt below
below_cond pins false place rest lt below = below

pub pins_from_below : (is : PinRole → Bool) (pins place : ℕ) (us : List PinUse) → place + length us ≤ pins → AreBelow pins (pins_from is place us)
pins_from_below is pins place [] most = All-nil (λ (pin : PinNo). pin.0 < pins)
pins_from_below is pins place (u ∷ us) most =
    below_cond pins (is u.role) place (pins_from is (place + 1) us) (omega arith) (pins_from_below is pins (place + 1) us (omega arith))

length-cond : {A B : Type 0} (t : Bool) (a : A) (b : B) (xs : List A) (ys : List B) → length xs ≡ length ys → length (cond t (a ∷ xs) xs) ≡ length (cond t (b ∷ ys) ys)
length-cond true a b xs ys e = ap (λ (n : ℕ). suc n) e
length-cond false a b xs ys e = e

pub length-uses_with : {A : Type 0} (is : PinRole → Bool) (f : PinUse → A) (place : ℕ) (us : List PinUse) →
    length (uses_with is f us) ≡ length (pins_from is place us)
length-uses_with is f place [] = refl
length-uses_with {A} is f place (u ∷ us) =
    let pin : PinNo = record { 0 = place } in
    length-cond (is u.role) (f u) pin (uses_with is f us) (pins_from is (place + 1) us) (length-uses_with is f (place + 1) us)

all_cond : {A : Type 0} (P : A → Type 0) (t : Bool) (a : A) (xs : List A) → P a → All P xs → All P (cond t (a ∷ xs) xs)
all_cond P true a xs here rest = All-cons P a xs here rest
all_cond P false a xs here rest = rest

pub uses_with_all : {A : Type 0} (P : A → Type 0) (is : PinRole → Bool) (f : PinUse → A) (us : List PinUse) → All (λ u. P (f u)) us → All P (uses_with is f us)
uses_with_all P is f [] each = All-nil P
uses_with_all P is f (u ∷ us) each =
    all_cond P (is u.role) (f u) (uses_with is f us) (All-head (λ (v : PinUse). P (f v)) u us each)
    (uses_with_all P is f us (All-tail (λ (v : PinUse). P (f v)) u us each))
