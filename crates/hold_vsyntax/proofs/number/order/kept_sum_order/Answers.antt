use Rattle.std.proofs.Common.{ℕ, ◌+◌, ◌*◌, ◌-◌, ◌≤◌, ap, sym, ◌∙◌, arith, length}
use Rattle.std.specs.Ordering.{nat_cmp}
use Rattle.hold_vsyntax.specs.inner.Number.{value_of}
use Rattle.hold_vsyntax.specs.inner.NumberOrder.{digits_of, last_sums, horner}
use Rattle.hold_vsyntax.proofs.OrderLemmas.{value_of-sums, order_step, far_greater, far_less}
use Rattle.hold_vsyntax.proofs.number.order.kept_sum_order.Goals as goal

pub loop-behind-init : goal.loop-behind-init
loop-behind-init c =
    let a : length (digits_of c.args.a.now) ≤ c.max-behind.result = omega (arith, c.max-behind.ensures, c.most_places.ensures, c.most_places-2.ensures) in
    let b : length (digits_of c.args.b.now) ≤ c.max-behind.result = omega (arith, c.max-behind.ensures, c.most_places.ensures, c.most_places-2.ensures) in
    let x : length (digits_of c.args.c.now) ≤ c.max-behind.result = omega (arith, c.max-behind.ensures, c.most_places.ensures, c.most_places-2.ensures) in
    let y : length (digits_of c.args.d.now) ≤ c.max-behind.result = omega (arith, c.max-behind.ensures, c.most_places.ensures, c.most_places-2.ensures) in
    record {
      same = ap (λ (p : ℕ). nat_cmp p (horner 0 (last_sums c.max-behind.result (digits_of c.args.c.now) (digits_of c.args.d.now)))) (value_of-sums c.max-behind.result c.args.a.now c.args.b.now a b)
          ∙ ap (nat_cmp (value_of c.args.a.now + value_of c.args.b.now)) (value_of-sums c.max-behind.result c.args.c.now c.args.d.now x y);
      left = omega arith;
      right = omega arith;
    }

pub loop-behind-preserved : goal.loop-behind-preserved
loop-behind-preserved c =
    record {
      same = order_step (c.loop-behind.behind - 1) c.loop-behind.behind c.loop-behind.left c.loop-behind.right _ _ c.min-both.result
          (digits_of c.args.a.now) (digits_of c.args.b.now) (digits_of c.args.c.now) (digits_of c.args.d.now) _ (omega (arith, c.loop-behind-test.true))
          (omega (arith, c.digit_at.ensures.digit, c.digit_at-in-loop-behind.ensures.digit)) (omega (arith, c.digit_at-in-loop-behind-2.ensures.digit, c.digit_at-in-loop-behind-3.ensures.digit))
          (omega (arith, c.min-both.ensures)) (omega (arith, c.min-both.ensures)) c.loop-behind.invariant.same;
      left = omega (arith, c.if-left-ge-MOST.false);
      right = omega (arith, c.if-right-ge-MOST.false);
    }

pub returns-then-left-ge-MOST : goal.returns-then-left-ge-MOST
returns-then-left-ge-MOST c =
    let same = order_step (c.loop-behind.behind - 1) c.loop-behind.behind c.loop-behind.left c.loop-behind.right
    (c.loop-behind.left * 10 + c.digit_at.result + c.digit_at-in-loop-behind.result) (c.loop-behind.right * 10 + c.digit_at-in-loop-behind-2.result + c.digit_at-in-loop-behind-3.result) c.min-both.result
    (digits_of c.args.a.now) (digits_of c.args.b.now) (digits_of c.args.c.now) (digits_of c.args.d.now) _ (omega (arith, c.loop-behind-test.true))
    (omega (arith, c.digit_at.ensures.digit, c.digit_at-in-loop-behind.ensures.digit)) (omega (arith, c.digit_at-in-loop-behind-2.ensures.digit, c.digit_at-in-loop-behind-3.ensures.digit))
    (omega (arith, c.min-both.ensures)) (omega (arith, c.min-both.ensures)) c.loop-behind.invariant.same in
    sym (far_greater (c.loop-behind.behind - 1) (c.loop-behind.left * 10 + c.digit_at.result + c.digit_at-in-loop-behind.result - c.min-both.result)
    (c.loop-behind.right * 10 + c.digit_at-in-loop-behind-2.result + c.digit_at-in-loop-behind-3.result - c.min-both.result)
    (digits_of c.args.a.now) (digits_of c.args.b.now) (digits_of c.args.c.now) (digits_of c.args.d.now) c.know_small-3.ensures c.know_small-4.ensures
    (omega (arith, c.min-both.ensures, c.if-left-ge-MOST.true))) ∙ same

pub returns-then-right-ge-MOST : goal.returns-then-right-ge-MOST
returns-then-right-ge-MOST c =
    let same = order_step (c.loop-behind.behind - 1) c.loop-behind.behind c.loop-behind.left c.loop-behind.right
    (c.loop-behind.left * 10 + c.digit_at.result + c.digit_at-in-loop-behind.result) (c.loop-behind.right * 10 + c.digit_at-in-loop-behind-2.result + c.digit_at-in-loop-behind-3.result) c.min-both.result
    (digits_of c.args.a.now) (digits_of c.args.b.now) (digits_of c.args.c.now) (digits_of c.args.d.now) _ (omega (arith, c.loop-behind-test.true))
    (omega (arith, c.digit_at.ensures.digit, c.digit_at-in-loop-behind.ensures.digit)) (omega (arith, c.digit_at-in-loop-behind-2.ensures.digit, c.digit_at-in-loop-behind-3.ensures.digit))
    (omega (arith, c.min-both.ensures)) (omega (arith, c.min-both.ensures)) c.loop-behind.invariant.same in
    sym (far_less (c.loop-behind.behind - 1) (c.loop-behind.left * 10 + c.digit_at.result + c.digit_at-in-loop-behind.result - c.min-both.result)
    (c.loop-behind.right * 10 + c.digit_at-in-loop-behind-2.result + c.digit_at-in-loop-behind-3.result - c.min-both.result)
    (digits_of c.args.a.now) (digits_of c.args.b.now) (digits_of c.args.c.now) (digits_of c.args.d.now) c.know_small.ensures c.know_small-2.ensures
    (omega (arith, c.min-both.ensures, c.if-right-ge-MOST.true))) ∙ same
