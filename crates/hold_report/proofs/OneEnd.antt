-- There is one worst end.
use Rattle.std.proofs.Common.{◌≡◌, List, refl, ap, sym, ◌∙◌, subst, arith}
use Rattle.std.specs.Prelude.{Option, Some, None, ℤ, ◌≤ℤ◌, ◌≤◌, ℕ}
use Rattle.std.proofs.lemmas.Int.{ints}
use Rattle.hold_base.specs.declared.number.PinNo.{PinNo}
use Rattle.hold_base.specs.declared.time.Side.{Side}
use Rattle.hold_graph.specs.declared.problem.Spans.{Spans}
use Rattle.hold_graph.specs.declared.problem.Problem.{Problem}
use Rattle.hold_graph.specs.Sums.{Buffers}
use Rattle.hold_timing.specs.declared.end.End.{End}
use Rattle.hold_timing.specs.Ends.{GoesBefore, IsBefore, IsWorstEnd}

end-from : (a b : End) → a.slack ≡ b.slack → a.capture.0 ≡ b.capture.0 → a ≡ b
end-from a b slack pin =
    ap (λ (n : ℕ). let e : End = record { capture = record { 0 = n }; slack = a.slack } in e) pin
    ∙ ap (λ (s : ℤ). let e : End = record { capture = b.capture; slack = s } in e) slack

before-both : (a b : End) → GoesBefore a b → GoesBefore b a → a ≡ b
before-both a b ab ba =
    let there = ab.0 in
    let back = ba.0 in
    let slack : a.slack ≡ b.slack = omega (arith, ints) in
    let low = ab.1 slack in
    let high = ba.1 (sym slack) in
    end-from a b slack (omega arith)

-- a worst end goes before each other one
worst-before : (side : Side) (problem : Problem) (spans : Spans) (buffers : Buffers) (found : Option End) (other : End) →
    IsWorstEnd side problem spans buffers found → IsWorstEnd side problem spans buffers (Some other) → IsBefore found other
worst-before side problem spans buffers found other worst is =
    let path = is.attained other refl in
    subst (IsBefore found) path.2 (worst.bound path.0 path.1)

pub IsWorstEnd-one : (side : Side) (problem : Problem) (spans : Spans) (buffers : Buffers) (a b : Option End) →
    IsWorstEnd side problem spans buffers a → IsWorstEnd side problem spans buffers b → a ≡ b
IsWorstEnd-one side problem spans buffers None None a b = refl
IsWorstEnd-one side problem spans buffers None (Some y) a b = absurd (worst-before side problem spans buffers None y a b)
IsWorstEnd-one side problem spans buffers (Some x) None a b = absurd (worst-before side problem spans buffers None x b a)
IsWorstEnd-one side problem spans buffers (Some x) (Some y) a b =
    ap (λ (e : End). Some e) (before-both x y (worst-before side problem spans buffers (Some x) y a b) (worst-before side problem spans buffers (Some y) x b a))
