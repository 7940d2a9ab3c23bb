use Rattle.std.proofs.Common.{◌≡◌, ◌∙◌, ap, sym, subst, arith, get_or, w64}
use Rattle.std.specs.Prelude.{List, ℤ, FitsSigned}
use Rattle.std.proofs.lemmas.Int.{ints, to_z-of_z}
use Rattle.hold_base.specs.Limits.{time_limit}
use Rattle.hold_base.specs.declared.number.PinNo.{PinNo}
use Rattle.hold_graph.specs.declared.graph.Parts.{Parts}
use Rattle.hold_graph.specs.Problem.{IsWithin}
use Rattle.hold_timing.specs.Worst.{required_at}
use Rattle.hold_timing.specs.inner.Pass.{required_limit, AreWithin}
use Rattle.hold_timing.specs.inner.Required.{asked}
use Rattle.hold_timing.proofs.Asked.{asked_there, required_more, within_push}
use Rattle.hold_timing.proofs.required.required_times.Goals as goal

pub time_at-clock-requires-clause-within : goal.time_at-clock-requires-clause-within
time_at-clock-requires-clause-within c = subst (AreWithin time_limit) (sym c.as_slice.ensures.value) c.in_ok-clocks.ensures.within

pub time_at-check-requires-clause-within : goal.time_at-check-requires-clause-within
time_at-check-requires-clause-within c = subst (AreWithin time_limit) (sym c.as_slice-in-loop-capture.ensures.value) c.in_ok-checks.ensures.within

pub loop-capture-preserved : goal.loop-capture-preserved
loop-capture-preserved c =
    let is = c.as_slice-captures.ensures ∙ ap (λ (parts : Parts). parts.captures) c.parts.ensures.same in
    let near_clock : IsWithin time_limit c.time_at-clock.result = c.time_at-clock.ensures.within in
    let near_check : IsWithin time_limit c.time_at-check.result = c.time_at-check.ensures.within in
    let near : IsWithin required_limit c.asked.result = c.asked.ensures.within in
    let least = c.requires.valid.period_least in
    let most = c.requires.valid.period_most in
    let period_fits : FitsSigned w64 c.args.problem.now.period = omega (arith, ints) in
    let clock_fits : FitsSigned w64 c.time_at-clock.result = omega (arith, ints) in
    let check_fits : FitsSigned w64 c.time_at-check.result = omega (arith, ints) in
    let fits : FitsSigned w64 c.asked.result = omega (arith, ints) in
    let value : c.asked.result ≡ asked c.args.side c.args.problem.now.period c.time_at-clock.result c.time_at-check.result =
    rw (to_z-of_z w64 c.args.problem.now.period period_fits, to_z-of_z w64 c.time_at-clock.result clock_fits, to_z-of_z w64 c.time_at-check.result check_fits) at c.asked.ensures.value in
    record {
      each = required_more (required_at c.args.side c.args.problem.now c.args.spans.now) c.as_slice-captures.result.now c.loop-capture.capture-index (record { 0 = 0 }) c.loop-capture.required.items
          c.push.new.self.items _ c.loop-capture-test.true c.loop-capture.invariant.each c.in_ok-push.ensures.items
          (to_z-of_z w64 c.asked.result fits ∙ value
          ∙ asked_there c.args.side c.args.problem.now c.args.spans.now c.as_slice-captures.result.now c.loop-capture.capture-index (record { 0 = 0 }) c.in_ok-clocks.clocks.items c.in_ok-checks.checks.items
          c.as_slice.result.now c.as_slice-in-loop-capture.result.now c.time_at-clock.result c.time_at-check.result is c.loop-capture-test.true c.as_slice.ensures.value c.as_slice-in-loop-capture.ensures.value
          c.in_ok-clocks.ensures.each c.in_ok-checks.ensures.each c.time_at-clock.ensures.value c.time_at-check.ensures.value);
      within = within_push required_limit c.loop-capture.required.items c.push.new.self.items _ c.loop-capture.invariant.within c.in_ok-push.ensures.items
          (subst (IsWithin required_limit) (sym (to_z-of_z w64 c.asked.result fits)) near);
    }
