-- Walks: joined, cut, and as checked paths.
use Rattle.std.proofs.Common.{◌≡◌, List, [], ◌∷◌, ◌++◌, refl, ap, sym, ◌∙◌}
use Rattle.std.specs.Prelude.{Contains}
use Rattle.hold_base.specs.declared.number.PinNo.{PinNo}
use Rattle.hold_graph.specs.declared.graph.Arc.{Arc}
use Rattle.hold_graph.specs.declared.graph.Parts.{Parts}
use Rattle.hold_graph.specs.Path.{EachNext, last_pin, IsCheckedPath}
use Rattle.hold_graph.specs.inner.Graph.{IsWalkThrough}

pub EachNext-append : (arcs : List Arc) (a : PinNo) (xs ys : List PinNo) → EachNext arcs a xs → EachNext arcs (last_pin a xs) ys → EachNext arcs a (xs ++ ys)
EachNext-append arcs a [] ys h more = more
EachNext-append arcs a (x ∷ xs) ys h more = (h.0, EachNext-append arcs x xs ys h.1 more)

pub EachNext-append_left : (arcs : List Arc) (a : PinNo) (xs ys : List PinNo) → EachNext arcs a (xs ++ ys) → EachNext arcs a xs
EachNext-append_left arcs a [] ys h = tt
EachNext-append_left arcs a (x ∷ xs) ys h = (h.0, EachNext-append_left arcs x xs ys h.1)

pub EachNext-append_right : (arcs : List Arc) (a : PinNo) (xs ys : List PinNo) → EachNext arcs a (xs ++ ys) → EachNext arcs (last_pin a xs) ys
EachNext-append_right arcs a [] ys h = h
EachNext-append_right arcs a (x ∷ xs) ys h = EachNext-append_right arcs x xs ys h.1

pub last_pin-append : (a : PinNo) (xs ys : List PinNo) → last_pin a (xs ++ ys) ≡ last_pin (last_pin a xs) ys
last_pin-append a [] ys = refl
last_pin-append a (x ∷ xs) ys = last_pin-append x xs ys

-- a walk is what stands before its last pin, and that pin
pub split_last : (a : PinNo) (steps : List PinNo) → (before : List PinNo) × (a ∷ steps ≡ before ++ last_pin a steps ∷ [])
split_last a [] = ([], refl)
split_last a (b ∷ rest) = let there = split_last b rest in (a ∷ there.0, ap (λ xs. a ∷ xs) there.1)

pub checked-from : (parts : Parts) (a : PinNo) (rest : List PinNo) → (rest ≡ [] → ⊥) → Contains parts.launches a → Contains parts.captures (last_pin a rest) →
    EachNext parts.arcs a rest → IsCheckedPath parts (a ∷ rest)
checked-from parts a [] some begins ends next = absurd (some refl)
checked-from parts a (b ∷ rest) some begins ends next = (begins, ends, next)

pub walk-from_checked : (parts : Parts) (a : PinNo) (rest : List PinNo) → IsCheckedPath parts (a ∷ rest) → IsWalkThrough parts a rest
walk-from_checked parts a [] h = absurd h
walk-from_checked parts a (b ∷ rest) h = record { some = λ e. cc; begins = h.0; ends = h.1; next = h.2 }
