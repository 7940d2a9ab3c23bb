use Rattle.std.proofs.Common.{◌<◌, ◌≡◌, List, length, get_or, ap, arith, below_more, refl, subst, ◌∙◌}
use Rattle.hold_job.specs.declared.inst_times.Clock.{Clock}
use Rattle.hold_build.specs.Faults.{IsRegisterNamed, IsUnknownClock}
use Rattle.hold_build.proofs.EntryLemmas.{clock-known, clocks-past}
use Rattle.hold_build.proofs.entries.test_clocks.Goals as goal

pub loop-place-preserved : goal.loop-place-preserved
loop-place-preserved c =
    let within : c.loop-place.place < length c.args.job.now.clocks = omega (arith, ap (λ (l : List Clock). length l) c.as_slice-clock-items.ensures, c.loop-place-test.true) in
    let here : c.clock-item.result ≡ get_or c.args.job.now.clocks c.loop-place.place c.clock-item.result =
    c.clock-item.is ∙ ap (λ (l : List Clock). get_or l c.loop-place.place c.clock-item.result) c.as_slice-clock-items.ensures in
    below_more (λ k. IsUnknownClock c.args.bound.now c.args.job.now k → ⊥) c.loop-place.place c.loop-place.invariant
    (clock-known c.args.bound.now c.args.job.now c.loop-place.place c.clock-item.result within here
    (subst (IsRegisterNamed c.args.bound.now) c.bytes.ensures (c.if-not-is_register_named.ensures.0 refl)))

pub returns-clause-known : goal.returns-clause-known
returns-clause-known c = λ k h. c.loop-place.invariant k
    (clocks-past c.args.bound.now c.args.job.now c.loop-place.place k (omega (arith, ap (λ (l : List Clock). length l) c.as_slice-clock-items.ensures, c.loop-place-test.false)) h) h
