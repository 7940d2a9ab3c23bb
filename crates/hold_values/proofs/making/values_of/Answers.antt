use Rattle.std.proofs.Common.{List, ap, ◌∙◌, subst}
use Rattle.std.specs.Prelude.{Option}
use Rattle.std.specs.List.{AllZip}
use Rattle.hold_base.specs.declared.number.PinNo.{PinNo}
use Rattle.hold_base.specs.declared.time.Interval.{Interval}
use Rattle.hold_graph.specs.declared.graph.Parts.{Parts}
use Rattle.hold_values.specs.Given.{IfAny, IsGivenClock}
use Rattle.hold_values.specs.Values.{AreValuesOf}
use Rattle.hold_values.proofs.AnswerLemmas.{nothing-of_err}
use Rattle.hold_values.proofs.making.values_of.Goals as goal

pub returns-in_err-holds : goal.returns-in_err-holds
returns-in_err-holds c entries are = nothing-of_err c.from_residual-in_err-holds.result (AreValuesOf c.args.bound.now c.args.job.now c.args.graph.now c.args.corner.0 entries) c.from_residual-in_err-holds.ensures.0

pub returns : goal.returns
returns c entries are =
    let At : List PinNo → List (Option Interval) → Type 0 = AllZip (λ (p : PinNo) (span : Option Interval). IfAny (IsGivenClock c.args.bound.now c.args.job.now c.args.corner.0 p) span) in
    record {
      spans = c.in_ok-spans.ensures entries are;
      delays = c.in_ok-delays.ensures entries are;
      launch_clocks = subst (λ (l : List PinNo). At l c.in_ok-clocks.field-0.items) (c.as_slice-launches.ensures ∙ ap (λ (p : Parts). p.launches) c.parts.ensures.same) c.in_ok-clocks.ensures;
      capture_clocks = subst (λ (l : List PinNo). At l c.in_ok-clocks-2.field-0.items) (c.as_slice-captures.ensures ∙ ap (λ (p : Parts). p.captures) c.parts-2.ensures.same) c.in_ok-clocks-2.ensures;
      setups = c.in_ok-setups.ensures entries are;
      holds = c.in_ok-holds.ensures entries are;
    }
