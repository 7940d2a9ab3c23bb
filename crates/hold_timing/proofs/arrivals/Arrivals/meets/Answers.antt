use Rattle.std.proofs.Common.{◌≡◌, ◌<◌, ◌≤◌, ap, arith, rules, length, refl}
use Rattle.std.specs.Prelude.{List}
use Rattle.hold_base.specs.declared.time.Side.TheVariants.{Early, Late}
use Rattle.hold_graph.specs.declared.problem.Spans.{Spans}
use Rattle.hold_timing.proofs.AtCorners.{missed-some, missed-unmet, met-all, not_true}
use Rattle.hold_timing.proofs.arrivals.Arrivals.meets.Goals as goal

pub returns-then-not-meets_at-clause-met : goal.returns-then-not-meets_at-clause-met
returns-then-not-meets_at-clause-met c = λ sites are.
    let below : c.loop-at.at < length c.args.problem.now.corners = (let lt = c.loop-at-test.true in let len = ap (λ (xs : List Spans). length xs) c.as_slice-corners.ensures in omega (arith, lt, len)) in (
      λ t. absurd (not_true t),
      λ met. absurd (missed-unmet c.args.problem.now _
          (missed-some c.args.problem.now c.args.self.now.counts _ Early sites are below (c.meets_at.ensures.missed c.if-not-meets_at.true)) met),
    )

pub returns-then-not-meets_at-clause-missed : goal.returns-then-not-meets_at-clause-missed
returns-then-not-meets_at-clause-missed c = λ sites are e.
    let below : c.loop-at.at < length c.args.problem.now.corners = (let lt = c.loop-at-test.true in let len = ap (λ (xs : List Spans). length xs) c.as_slice-corners.ensures in omega (arith, lt, len)) in
    missed-some c.args.problem.now c.args.self.now.counts _ Early sites are below (c.meets_at.ensures.missed c.if-not-meets_at.true)

pub returns-then-not-meets_at-2-clause-met : goal.returns-then-not-meets_at-2-clause-met
returns-then-not-meets_at-2-clause-met c = λ sites are.
    let below : c.loop-at.at < length c.args.problem.now.corners = (let lt = c.loop-at-test.true in let len = ap (λ (xs : List Spans). length xs) c.as_slice-corners.ensures in omega (arith, lt, len)) in (
      λ t. absurd (not_true t),
      λ met. absurd (missed-unmet c.args.problem.now _
          (missed-some c.args.problem.now c.args.self.now.counts _ Late sites are below (c.meets_at-in-loop-at.ensures.missed c.if-not-meets_at-2.true)) met),
    )

pub returns-then-not-meets_at-2-clause-missed : goal.returns-then-not-meets_at-2-clause-missed
returns-then-not-meets_at-2-clause-missed c = λ sites are e.
    let below : c.loop-at.at < length c.args.problem.now.corners = (let lt = c.loop-at-test.true in let len = ap (λ (xs : List Spans). length xs) c.as_slice-corners.ensures in omega (arith, lt, len)) in
    missed-some c.args.problem.now c.args.self.now.counts _ Late sites are below (c.meets_at-in-loop-at.ensures.missed c.if-not-meets_at-2.true)

pub returns-clause-met : goal.returns-clause-met
returns-clause-met c = λ sites are.
    let all : length c.args.problem.now.corners ≤ c.loop-at.at = (let end = c.loop-at-test.false in let len = ap (λ (xs : List Spans). length xs) c.as_slice-corners.ensures in omega (arith, end, len)) in
    (λ t. met-all c.args.problem.now c.args.self.now.counts c.loop-at.at sites are all c.loop-at.invariant, λ met. refl)
