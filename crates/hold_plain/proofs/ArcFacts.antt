-- The arcs of a list of pins: at most one ends at each pin, in the order of pins.
use Rattle.std.proofs.Common.{◌≡◌, ℕ, zero, suc, ◌+◌, ◌<◌, ◌≤◌, List, [], ◌∷◌, ◌++◌, map, length, refl, ap, sym, ◌∙◌, subst, arith, ◌⊎◌, inl, inr, length-append}
use Rattle.std.specs.Prelude.{Option, Some, None, slice_get, All, true, false}
use Rattle.std.proofs.lemmas.List.{length-map}
use Rattle.std.proofs.lemmas.Option.{same_Some, slice_get_within, get_or_from_slice_get}
use Rattle.std.proofs.lemmas.List.Elements.{All-nil, All-cons, All-head, All-tail, All-append}
use Rattle.hold_base.specs.declared.number.PinNo.{PinNo}
use Rattle.hold_base.specs.declared.time.Interval.{Interval}
use Rattle.hold_graph.specs.declared.graph.Arc.{Arc}
use Rattle.hold_graph.specs.Graph.{EndsOnce}
use Rattle.hold_plain.specs.declared.pin_use.PinUse.{PinUse}
use Rattle.hold_plain.specs.declared.pin_use.PinRole.{PinRole}
use Rattle.hold_plain.specs.declared.pin_use.PinRole.TheVariants.{Input, Output, Clock, Data, Launch, InPort, OutPort, Stray}
use Rattle.hold_plain.specs.Keys.{net_of, place_of}
use Rattle.hold_plain.specs.Problem.{arc_if, driver_of, arcs_as, arcs_into, arcs_from, step_span, steps_from}
use Rattle.hold_plain.proofs.RankFacts.{IsReader}

-- an arc into the pin of a place
pub record IsArcInto (drives feeds : List (Option ℕ)) (place : ℕ) (u : PinUse) (arc : Arc) : Type 0 where
  pub to : arc.to.0 ≡ place
  pub from : (IsReader u.role × (driver_of drives (net_of u.source) ≡ Some arc.from.0)) ⊎ ((u.role ≡ Output) × (place_of u.inst feeds ≡ Some arc.from.0))

-- no arc, or one into the pin
abbrev pub IsNoneOrOne : List (Option ℕ) → List (Option ℕ) → ℕ → PinUse → List Arc → Type 0
IsNoneOrOne drives feeds place u arcs = (arcs ≡ []) ⊎ ((arc : Arc) × (arcs ≡ arc ∷ []) × IsArcInto drives feeds place u arc)

wire_cases : (drives feeds : List (Option ℕ)) (place : ℕ) (u : PinUse) (o : Option ℕ) → IsReader u.role → driver_of drives (net_of u.source) ≡ o →
    IsNoneOrOne drives feeds place u (arc_if true o place)
wire_cases drives feeds place u None reads is = inl refl
wire_cases drives feeds place u (Some from) reads is =
    inr (record { from = record { 0 = from }; to = record { 0 = place }; wire = true }, refl, record { to = refl; from = inl (reads, is) })

cell_cases : (drives feeds : List (Option ℕ)) (place : ℕ) (u : PinUse) (o : Option ℕ) → u.role ≡ Output → place_of u.inst feeds ≡ o →
    IsNoneOrOne drives feeds place u (arc_if false o place)
cell_cases drives feeds place u None role is = inl refl
cell_cases drives feeds place u (Some from) role is =
    inr (record { from = record { 0 = from }; to = record { 0 = place }; wire = false }, refl, record { to = refl; from = inr (role, is) })

role_cases : (drives feeds : List (Option ℕ)) (place : ℕ) (u : PinUse) (role : PinRole) → u.role ≡ role → (IsReader role → IsReader u.role) →
    IsNoneOrOne drives feeds place u (arcs_as role drives feeds place u)
role_cases drives feeds place u Input is reads = wire_cases drives feeds place u (driver_of drives (net_of u.source)) (reads tt) refl
role_cases drives feeds place u Output is reads = cell_cases drives feeds place u (place_of u.inst feeds) is refl
role_cases drives feeds place u Clock is reads = wire_cases drives feeds place u (driver_of drives (net_of u.source)) (reads tt) refl
role_cases drives feeds place u Data is reads = wire_cases drives feeds place u (driver_of drives (net_of u.source)) (reads tt) refl
role_cases drives feeds place u Launch is reads = inl refl
role_cases drives feeds place u InPort is reads = inl refl
role_cases drives feeds place u OutPort is reads = wire_cases drives feeds place u (driver_of drives (net_of u.source)) (reads tt) refl
role_cases drives feeds place u Stray is reads = inl refl

pub arcs_into_cases : (drives feeds : List (Option ℕ)) (place : ℕ) (u : PinUse) → IsNoneOrOne drives feeds place u (arcs_into drives feeds place u)
arcs_into_cases drives feeds place u = role_cases drives feeds place u u.role refl (λ h. h)

-- what holds of each arc into a pin of the list holds of all its arcs
pub all_arcs : (P : Arc → Type 0) (drives feeds : List (Option ℕ)) (place : ℕ) (us : List PinUse) →
    ((k : ℕ) (u : PinUse) (arc : Arc) → slice_get us k ≡ Some u → IsArcInto drives feeds (place + k) u arc → P arc) →
    All P (arcs_from drives feeds place us)
all_arcs P drives feeds place [] each = All-nil P
all_arcs P drives feeds place (u ∷ us) each =
    All-append P (arcs_into drives feeds place u) (arcs_from drives feeds (place + 1) us)
    (first (arcs_into drives feeds place u) (arcs_into_cases drives feeds place u))
    (all_arcs P drives feeds (place + 1) us
    (λ k v arc at is. each (suc k) v arc at (let e : (place + 1) + k ≡ place + suc k = omega arith in subst (λ (n : ℕ). IsArcInto drives feeds n v arc) e is)))
  where
    first : (arcs : List Arc) → IsNoneOrOne drives feeds place u arcs → All P arcs
    first arcs (inl e) = subst (All P) (sym e) (All-nil P)
    first arcs (inr one) = subst (All P) (sym one.1) (All-cons P one.0 []
        (each 0 u one.0 refl (let e : place ≡ place + 0 = omega arith in subst (λ (n : ℕ). IsArcInto drives feeds n u one.0) e one.2)) (All-nil P))

pub length-arcs_from : (drives feeds : List (Option ℕ)) (place : ℕ) (us : List PinUse) → length (arcs_from drives feeds place us) ≤ length us
length-arcs_from drives feeds place [] = omega arith
length-arcs_from drives feeds place (u ∷ us) =
    let rest = length-arcs_from drives feeds (place + 1) us in
    let sum = length-append (arcs_into drives feeds place u) (arcs_from drives feeds (place + 1) us) in
    let one = at_most_one (arcs_into drives feeds place u) (arcs_into_cases drives feeds place u) in
    omega arith
  where
    at_most_one : (arcs : List Arc) → IsNoneOrOne drives feeds place u arcs → length arcs ≤ 1
    at_most_one arcs (inl e) = let len : length arcs ≡ 0 = ap (λ (xs : List Arc). length xs) e in omega arith
    at_most_one arcs (inr one) = let len : length arcs ≡ 1 = ap (λ (xs : List Arc). length xs) one.1 in omega arith

pub length-steps_from : (drives feeds : List (Option ℕ)) (place : ℕ) (us : List PinUse) →
    length (steps_from drives feeds place us) ≡ length (arcs_from drives feeds place us)
length-steps_from drives feeds place [] = refl
length-steps_from drives feeds place (u ∷ us) =
    let rest = length-steps_from drives feeds (place + 1) us in
    let sum = length-append (map (λ (arc : Arc). step_span u) (arcs_into drives feeds place u)) (steps_from drives feeds (place + 1) us) in
    let sum_arcs = length-append (arcs_into drives feeds place u) (arcs_from drives feeds (place + 1) us) in
    let each = length-map (arcs_into drives feeds place u) (λ (arc : Arc). step_span u) in
    omega arith

-- what holds of each pin's step holds of all steps
pub all_steps : (P : Interval → Type 0) (drives feeds : List (Option ℕ)) (place : ℕ) (us : List PinUse) → All (λ u. P (step_span u)) us →
    All P (steps_from drives feeds place us)
all_steps P drives feeds place [] each = All-nil P
all_steps P drives feeds place (u ∷ us) each =
    All-append P (map (λ (arc : Arc). step_span u) (arcs_into drives feeds place u)) (steps_from drives feeds (place + 1) us)
    (copies (arcs_into drives feeds place u))
    (all_steps P drives feeds (place + 1) us (All-tail (λ (v : PinUse). P (step_span v)) u us each))
  where
    copies : (arcs : List Arc) → All P (map (λ (arc : Arc). step_span u) arcs)
    copies [] = All-nil P
    copies (arc ∷ arcs) = All-cons P (step_span u) (map (λ (a : Arc). step_span u) arcs) (All-head (λ (v : PinUse). P (step_span v)) u us each) (copies arcs)

-- each arc of the pins from a place on ends at that place or later
from_place : (drives feeds : List (Option ℕ)) (place : ℕ) (us : List PinUse) → All (λ (arc : Arc). place ≤ arc.to.0) (arcs_from drives feeds place us)
from_place drives feeds place us = all_arcs (λ (arc : Arc). place ≤ arc.to.0) drives feeds place us (λ k u arc at is. let e = is.to in omega arith)

at_or_after : (drives feeds : List (Option ℕ)) (place : ℕ) (us : List PinUse) (k : ℕ) (arc : Arc) → slice_get (arcs_from drives feeds place us) k ≡ Some arc → place ≤ arc.to.0
at_or_after drives feeds place us k arc at =
    subst (λ (a : Arc). place ≤ a.to.0) (get_or_from_slice_get (arcs_from drives feeds place us) k arc arc at)
    (from_place drives feeds place us k arc (slice_get_within (arcs_from drives feeds place us) k arc at))

-- one arc in front of arcs that end elsewhere
once_more : (first : Arc) (rest : List Arc) → ((k : ℕ) (arc : Arc) → slice_get rest k ≡ Some arc → first.to.0 < arc.to.0) → EndsOnce rest → EndsOnce (first ∷ rest)
once_more first rest after once zero zero a b at_i at_j same = refl
once_more first rest after once zero (suc j) a b at_i at_j same =
    let is : first ≡ a = same_Some first a at_i in
    let low : first.to.0 < b.to.0 = after j b at_j in
    let ends : first.to.0 ≡ b.to.0 = ap (λ (x : Arc). x.to.0) is ∙ ap (λ (p : PinNo). p.0) same in
    absurd (omega arith)
once_more first rest after once (suc i) zero a b at_i at_j same =
    let is : first ≡ b = same_Some first b at_j in
    let low : first.to.0 < a.to.0 = after i a at_i in
    let ends : first.to.0 ≡ a.to.0 = ap (λ (x : Arc). x.to.0) is ∙ ap (λ (p : PinNo). p.0) (sym same) in
    absurd (omega arith)
once_more first rest after once (suc i) (suc j) a b at_i at_j same = ap (λ (n : ℕ). suc n) (once i j a b at_i at_j same)

pub arcs_from_once : (drives feeds : List (Option ℕ)) (place : ℕ) (us : List PinUse) → EndsOnce (arcs_from drives feeds place us)
arcs_from_once drives feeds place [] = λ i j a b at_i at_j same. cc
arcs_from_once drives feeds place (u ∷ us) =
    by_case (arcs_into drives feeds place u) (arcs_into_cases drives feeds place u) (arcs_from_once drives feeds (place + 1) us)
  where
    by_case : (arcs : List Arc) → IsNoneOrOne drives feeds place u arcs → EndsOnce (arcs_from drives feeds (place + 1) us) →
        EndsOnce (arcs ++ arcs_from drives feeds (place + 1) us)
    by_case arcs (inl e) rest = subst (λ (xs : List Arc). EndsOnce (xs ++ arcs_from drives feeds (place + 1) us)) (sym e) rest
    by_case arcs (inr one) rest = subst (λ (xs : List Arc). EndsOnce (xs ++ arcs_from drives feeds (place + 1) us)) (sym one.1)
        (once_more one.0 (arcs_from drives feeds (place + 1) us)
        (λ k arc at. let low = at_or_after drives feeds (place + 1) us k arc at in let is = one.2.to in omega arith) rest)
