-- Lists of pins that go round (GoesRound): walks joined and cut (EachNext, last_pin), a list turned so that a later pin comes
-- first, and the stretch of a trail that comes back to a pin.
use Rattle.std.proofs.Common.{◌≡◌, ℕ, zero, suc, ◌-◌, ◌<◌, List, [], ◌∷◌, ◌++◌, length, refl, ap, sym, ◌∙◌, subst, arith, ◌⊎◌, inl, inr, append_assoc}
use Rattle.std.specs.Prelude.{Some, slice_get, reverse}
use Rattle.std.proofs.lemmas.List.{append-nil, reverse-append, length-reverse, get_or-reverse}
use Rattle.std.proofs.lemmas.Option.{slice_get_within, slice_get-get_or, get_or_from_slice_get}
use Rattle.hold_base.proofs.Lists.{slice_get-push}
use Rattle.hold_base.specs.declared.number.PinNo.{PinNo}
use Rattle.hold_graph.specs.declared.graph.Arc.{Arc}
use Rattle.hold_graph.proofs.Paths.{EachNext-append, EachNext-append_left, EachNext-append_right, last_pin-append}
use Rattle.hold_graph.specs.Path.{HasArc, EachNext, last_pin}
use Rattle.hold_graph.specs.Cycles.{AreDifferent, GoesRound}

-- a property that stays when the first item goes to the end stays however the list is turned
pub turned : {X : Type 0} (P : List X → Type 0) → ((x : X) (xs : List X) → P (x ∷ xs) → P (xs ++ x ∷ [])) → (xs ys : List X) → P (xs ++ ys) → P (ys ++ xs)
turned P step [] ys h = subst P (sym (append-nil ys)) h
turned P step (x ∷ xs) ys h =
    subst P (append_assoc ys (x ∷ []) xs) (turned P step xs (ys ++ x ∷ []) (subst P (append_assoc xs ys (x ∷ [])) (step x (xs ++ ys) h)))

GoesRound-turned_once : (arcs : List Arc) (a : PinNo) (rest : List PinNo) → GoesRound arcs (a ∷ rest) → GoesRound arcs (rest ++ a ∷ [])
GoesRound-turned_once arcs a [] round = round
GoesRound-turned_once arcs a (b ∷ rest) round = (
  EachNext-append arcs b rest (a ∷ []) round.0.1 (round.1, tt),
  let At : PinNo → Type 0 = λ last. HasArc arcs last b in subst At (sym (last_pin-append b rest (a ∷ []))) round.0.0,
)

pub GoesRound-turned : (arcs : List Arc) (xs ys : List PinNo) → GoesRound arcs (xs ++ ys) → GoesRound arcs (ys ++ xs)
GoesRound-turned arcs = turned (GoesRound arcs) (GoesRound-turned_once arcs)

AreDifferent-turned_once : (a : PinNo) (rest : List PinNo) → AreDifferent (a ∷ rest) → AreDifferent (rest ++ a ∷ [])
AreDifferent-turned_once a rest different = λ j k pin at_j at_k. by_cases j k pin (slice_get-push rest a j pin at_j) (slice_get-push rest a k pin at_k)
  where
    by_cases : (j k : ℕ) (pin : PinNo) → ((slice_get rest j ≡ Some pin) ⊎ ((j ≡ length rest) × (a ≡ pin))) → ((slice_get rest k ≡ Some pin) ⊎ ((k ≡ length rest) × (a ≡ pin))) → j ≡ k
    by_cases j k pin (inl at_j) (inl at_k) = let e = different (suc j) (suc k) pin at_j at_k in omega arith
    by_cases j k pin (inl at_j) (inr end_k) = let e = different (suc j) zero pin at_j (ap (λ (p : PinNo). Some p) end_k.1) in absurd (omega arith)
    by_cases j k pin (inr end_j) (inl at_k) = let e = different zero (suc k) pin (ap (λ (p : PinNo). Some p) end_j.1) at_k in absurd (omega arith)
    by_cases j k pin (inr end_j) (inr end_k) = end_j.0 ∙ sym end_k.0

pub AreDifferent-turned : (xs ys : List PinNo) → AreDifferent (xs ++ ys) → AreDifferent (ys ++ xs)
AreDifferent-turned = turned AreDifferent AreDifferent-turned_once

pub AreDifferent-append_right : (xs ys : List PinNo) → AreDifferent (xs ++ ys) → AreDifferent ys
AreDifferent-append_right [] ys different = different
AreDifferent-append_right (x ∷ xs) ys different =
    AreDifferent-append_right xs ys (λ j k pin at_j at_k. let e = different (suc j) (suc k) pin at_j at_k in omega arith)

slice_get-reverse : (xs : List PinNo) (j : ℕ) (pin : PinNo) → slice_get (reverse xs) j ≡ Some pin → (j < length xs) × (slice_get xs (length xs - 1 - j) ≡ Some pin)
slice_get-reverse xs j pin at =
    let within : j < length (reverse xs) = slice_get_within (reverse xs) j pin at in
    let len = length-reverse xs in
    let lt : j < length xs = omega arith in
    let lower : length xs - 1 - j < length xs = omega arith in (
      lt,
      slice_get-get_or xs (length xs - 1 - j) pin lower
          ∙ ap (λ (p : PinNo). Some p) (sym (get_or-reverse xs j pin lt) ∙ get_or_from_slice_get (reverse xs) j pin pin at),
    )

pub AreDifferent-reverse : (xs : List PinNo) → AreDifferent xs → AreDifferent (reverse xs)
AreDifferent-reverse xs different = λ j k pin at_j at_k.
    let a = slice_get-reverse xs j pin at_j in
    let b = slice_get-reverse xs k pin at_k in
    let e = different (length xs - 1 - j) (length xs - 1 - k) pin a.1 b.1 in
    omega arith

pub AreDifferent-push : (xs : List PinNo) (pin : PinNo) → AreDifferent xs → ((k : ℕ) → slice_get xs k ≡ Some pin → ⊥) → AreDifferent (xs ++ pin ∷ [])
AreDifferent-push xs a different new = λ j k pin at_j at_k. by_cases j k pin (slice_get-push xs a j pin at_j) (slice_get-push xs a k pin at_k)
  where
    by_cases : (j k : ℕ) (pin : PinNo) → ((slice_get xs j ≡ Some pin) ⊎ ((j ≡ length xs) × (a ≡ pin))) → ((slice_get xs k ≡ Some pin) ⊎ ((k ≡ length xs) × (a ≡ pin))) → j ≡ k
    by_cases j k pin (inl at_j) (inl at_k) = different j k pin at_j at_k
    by_cases j k pin (inl at_j) (inr end_k) = absurd (new j (at_j ∙ ap (λ (p : PinNo). Some p) (sym end_k.1)))
    by_cases j k pin (inr end_j) (inl at_k) = absurd (new k (at_k ∙ ap (λ (p : PinNo). Some p) (sym end_j.1)))
    by_cases j k pin (inr end_j) (inr end_k) = end_j.0 ∙ sym end_k.0

-- a trail walked back from a pin, which comes to a pin of the trail again: the stretch from that pin on goes round, read backwards
pub GoesRound-trail : (arcs : List Arc) (pin : PinNo) (before after : List PinNo) → EachNext arcs pin (reverse (before ++ pin ∷ after)) → GoesRound arcs (reverse (pin ∷ after))
GoesRound-trail arcs pin before after next =
    let last : reverse (pin ∷ after) ≡ reverse after ++ pin ∷ [] = reverse-append (pin ∷ []) after in
    let all : EachNext arcs pin (reverse (pin ∷ after) ++ reverse before) = subst (EachNext arcs pin) (reverse-append before (pin ∷ after)) next in
    let front : EachNext arcs pin (reverse after ++ pin ∷ []) = subst (EachNext arcs pin) last (EachNext-append_left arcs pin (reverse (pin ∷ after)) (reverse before) all) in
    subst (GoesRound arcs) (sym last) (GoesRound-turned_once arcs pin (reverse after)
    (EachNext-append_left arcs pin (reverse after) (pin ∷ []) front, (EachNext-append_right arcs pin (reverse after) (pin ∷ []) front).0))
