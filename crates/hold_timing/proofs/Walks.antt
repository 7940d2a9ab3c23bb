-- Walks with one pin more at their end, and their sums.
use Rattle.std.proofs.Common.{◌≡◌, ℕ, ◌≤◌, List, [], ◌∷◌, ◌++◌, length, refl, ap, sym, ◌∙◌, arith, ◌⊎◌, inl, inr, subst}
use Rattle.std.specs.Prelude.{Option, Some, None, ℤ, pos, ◌+ℤ◌, Contains}
use Rattle.std.proofs.lemmas.Int.{ints}
use Rattle.hold_base.specs.declared.number.PinNo.{PinNo}
use Rattle.hold_base.specs.declared.time.Side.{Side}
use Rattle.hold_base.specs.Interval.{hull_of}
use Rattle.hold_graph.specs.declared.graph.Arc.{Arc}
use Rattle.hold_graph.specs.declared.graph.Parts.{Parts}
use Rattle.hold_graph.specs.declared.problem.Spans.{Spans}
use Rattle.hold_graph.specs.Path.{HasArc, EachNext, last_pin}
use Rattle.hold_graph.specs.Sums.{Buffers, end_of, items_at, spans_between, added_from, steps_sum, path_sum}
use Rattle.hold_graph.proofs.Paths.{EachNext-append, EachNext-append_left, EachNext-append_right, last_pin-append}
use Rattle.hold_timing.specs.Worst.{IsWalkTo, IsPathTo}

-- what one step adds
abbrev pub step_of : Side → List Arc → Spans → Buffers → PinNo → PinNo → ℤ
step_of side arcs spans buffers a b =
    end_of side (hull_of (spans_between arcs spans.arcs a b)) +ℤ added_from side 0 spans.kinds (buffers b)

pub steps_sum-append : (side : Side) (arcs : List Arc) (spans : Spans) (buffers : Buffers) (a : PinNo) (xs ys : List PinNo) →
    steps_sum side arcs spans buffers a (xs ++ ys) ≡ steps_sum side arcs spans buffers a xs +ℤ steps_sum side arcs spans buffers (last_pin a xs) ys
steps_sum-append side arcs spans buffers a [] ys = omega (arith, ints)
steps_sum-append side arcs spans buffers a (x ∷ xs) ys =
    let rest = steps_sum-append side arcs spans buffers x xs ys in
    omega (arith, ints, rest)

-- one pin more
pub steps_sum-push : (side : Side) (arcs : List Arc) (spans : Spans) (buffers : Buffers) (a : PinNo) (xs : List PinNo) (p : PinNo) →
    steps_sum side arcs spans buffers a (xs ++ p ∷ []) ≡ steps_sum side arcs spans buffers a xs +ℤ step_of side arcs spans buffers (last_pin a xs) p
steps_sum-push side arcs spans buffers a xs p =
    let all = steps_sum-append side arcs spans buffers a xs (p ∷ []) in
    omega (arith, ints, all)

pub path_sum-push : (side : Side) (parts : Parts) (spans : Spans) (buffers : Buffers) (a : PinNo) (xs : List PinNo) (p : PinNo) →
    path_sum side parts spans buffers (a ∷ (xs ++ p ∷ []))
    ≡ path_sum side parts spans buffers (a ∷ xs) +ℤ step_of side parts.arcs spans buffers (last_pin a xs) p
path_sum-push side parts spans buffers a xs p =
    let more = steps_sum-push side parts.arcs spans buffers a xs p in
    omega (arith, ints, more)

-- a list has an end
pub record IsPushed (path : List PinNo) : Type 0 where
  pub front : List PinNo
  pub end : PinNo
  pub split : path ≡ front ++ end ∷ []

pushed_more : (a : PinNo) (path : List PinNo) → IsPushed path → IsPushed (a ∷ path)
pushed_more a path h = record { front = a ∷ h.front; end = h.end; split = ap (λ (p : List PinNo). a ∷ p) h.split }

pub pushed : (a : PinNo) (path : List PinNo) → IsPushed (a ∷ path)
pushed a [] = record { front = []; end = a; split = refl }
pushed a (b ∷ path) = pushed_more a (b ∷ path) (pushed b path)

-- a path to a pin: a walk to the pin before, and a step
pub record IsLed (parts : Parts) (pin : PinNo) (path : List PinNo) : Type 0 where
  pub first : PinNo
  pub front : List PinNo
  pub split : path ≡ first ∷ (front ++ pin ∷ [])
  pub walk : IsWalkTo parts (last_pin first front) (first ∷ front)
  pub arc : HasArc parts.arcs (last_pin first front) pin

pub led : (parts : Parts) (pin : PinNo) (path : List PinNo) → IsPathTo parts pin path → IsLed parts pin path
led parts pin [] h = absurd h.0
led parts pin (a ∷ []) h = let two = h.1 in absurd (omega arith)
led parts pin (a ∷ b ∷ rest) h =
    let cut : IsPushed (b ∷ rest) = pushed b rest in
    let end : cut.end ≡ pin = sym (last_pin-append a cut.front (cut.end ∷ [])) ∙ ap (λ (xs : List PinNo). last_pin a xs) (sym cut.split) ∙ h.0.2 in
    let next : EachNext parts.arcs a (cut.front ++ cut.end ∷ []) = subst (EachNext parts.arcs a) cut.split h.0.1 in
    let step = EachNext-append_right parts.arcs a cut.front (cut.end ∷ []) next in
    record {
      first = a;
      front = cut.front;
      split = ap (λ (xs : List PinNo). a ∷ xs) (cut.split ∙ ap (λ (p : PinNo). cut.front ++ p ∷ []) end);
      walk = (h.0.0, EachNext-append_left parts.arcs a cut.front (cut.end ∷ []) next, refl);
      arc = let To : PinNo → Type 0 = λ p. HasArc parts.arcs (last_pin a cut.front) p in subst To end step.0;
    }

-- a walk and a step more
pub walk_more : (parts : Parts) (q p : PinNo) (a : PinNo) (rest : List PinNo) → IsWalkTo parts q (a ∷ rest) → HasArc parts.arcs q p →
    IsPathTo parts p (a ∷ (rest ++ p ∷ []))
walk_more parts q p a rest walk arc =
    let From : PinNo → Type 0 = λ b. HasArc parts.arcs b p in (
      (walk.0, EachNext-append parts.arcs a rest (p ∷ []) walk.1 (subst From (sym walk.2) arc, tt), last_pin-append a rest (p ∷ [])),
      two rest,
    )
  where
    two : (rest : List PinNo) → 2 ≤ length (a ∷ (rest ++ p ∷ []))
    two [] = omega arith
    two (b ∷ rest) = let less = two rest in omega arith

-- a walk is a launch alone or a path
pub alone_or_path : (parts : Parts) (pin a : PinNo) (rest : List PinNo) → IsWalkTo parts pin (a ∷ rest) → (rest ≡ []) ⊎ IsPathTo parts pin (a ∷ rest)
alone_or_path parts pin a [] walk = inl refl
alone_or_path parts pin a (b ∷ rest) walk = inr (walk, omega arith)
