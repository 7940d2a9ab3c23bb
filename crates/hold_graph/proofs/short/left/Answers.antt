use Rattle.std.proofs.Common.{◌≡◌, ap, arith, ◌+◌}
use Rattle.std.specs.Prelude.{Option, Some, ℤ}
use Rattle.std.proofs.lemmas.Int.{ints}
use Rattle.hold_graph.specs.Problem.{IsWithin}
use Rattle.hold_base.specs.Limits.{launch_limit, time_limit}
use Rattle.hold_graph.specs.inner.Arrival.{sum_limit, left}
use Rattle.hold_graph.proofs.short.left.Goals as goal

pub total-requires : goal.total-requires
total-requires c =
    let coming : IsWithin (sum_limit + launch_limit) c.in-Some-Some-Some.coming = c.requires.coming _ c.in-Some-Some-Some.is-0 in
    let end : IsWithin launch_limit c.in-Some-Some-Some.end = c.requires.end _ c.in-Some-Some-Some.is-1 in
    let check : IsWithin launch_limit c.in-Some-Some-Some.check = c.requires.check _ c.in-Some-Some-Some.is-2 in
    let base : IsWithin time_limit c.args.base = c.requires.base in
    record {
      coming = record { low = omega (arith, ints); high = omega (arith, ints) };
      end = record { low = omega (arith, ints); high = omega (arith, ints) };
      check = record { low = omega (arith, ints); high = omega (arith, ints) };
      base = record { low = omega (arith, ints); high = omega (arith, ints) };
    }

left_at : (a b e : Option ℤ) (s end check base : ℤ) (r : ℤ) → a ≡ Some s → b ≡ Some end → e ≡ Some check → Some r ≡ left (Some s) (Some end) (Some check) base → Some r ≡ left a b e base
left_at a b e s end check base r is_s is_end is_check h = rw (is_s, is_end, is_check) h

pub returns-in-Some-Some-Some : goal.returns-in-Some-Some-Some
returns-in-Some-Some-Some c =
    let coming : IsWithin (sum_limit + launch_limit) c.in-Some-Some-Some.coming = c.requires.coming _ c.in-Some-Some-Some.is-0 in
    let end : IsWithin launch_limit c.in-Some-Some-Some.end = c.requires.end _ c.in-Some-Some-Some.is-1 in
    let check : IsWithin launch_limit c.in-Some-Some-Some.check = c.requires.check _ c.in-Some-Some-Some.is-2 in
    let base : IsWithin time_limit c.args.base = c.requires.base in
    let e = c.total.ensures in
    left_at c.args.coming c.args.end c.args.check c.in-Some-Some-Some.coming c.in-Some-Some-Some.end c.in-Some-Some-Some.check c.args.base _
    c.in-Some-Some-Some.is-0 c.in-Some-Some-Some.is-1 c.in-Some-Some-Some.is-2 (ap (λ (z : ℤ). Some z) (omega (arith, ints, e)))
