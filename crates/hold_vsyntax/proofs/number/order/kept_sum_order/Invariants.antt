use Rattle.std.proofs.Common.{◌≡◌, ◌+◌, ◌<◌}
use Rattle.std.specs.Ordering.{nat_cmp}
use Rattle.hold_vsyntax.specs.inner.Number.{value_of}
use Rattle.hold_vsyntax.specs.inner.NumberOrder.{digits_of, last_sums, horner}
use Rattle.hold_vsyntax.proofs.number.order.kept_sum_order.Given as goal

-- the last places, behind what is left of the first ones, compare as the sums do
abbrev pub invariant-loop-behind : goal.invariant-loop-behind
invariant-loop-behind l = record {
  same : nat_cmp (horner l.left (last_sums l.behind (digits_of l.a) (digits_of l.b))) (horner l.right (last_sums l.behind (digits_of l.c) (digits_of l.d)))
      ≡ nat_cmp (value_of l.a + value_of l.b) (value_of l.c + value_of l.d);
  left : l.left < 8589934592;
  right : l.right < 8589934592;
}

abbrev pub decreases-loop-behind : goal.decreases-loop-behind
decreases-loop-behind l = l.behind
