-- AreValuesOf b job graph corner entries values: there is a value for each arc, launch and capture of the graph, in their order: the span,
--   delay, setup, hold or clock arrival that is given in that corner, none where none is. All times are within the limits.
use Rattle.std.specs.Prelude.{ℕ, List, All, IfSome}
use Rattle.std.specs.List.{AllZip}
use Rattle.hold_base.specs.Limits.{time_limit}
use Rattle.hold_graph.specs.declared.graph.Parts.{Parts}
use Rattle.hold_graph.specs.Problem.{IsSpan, IsWithin}
use Rattle.hold_job.specs.declared.job.Job.{Job}
use Rattle.hold_roles.specs.Binding.{Binding}
use Rattle.hold_sdf.specs.declared.entry.Entry.{Entry}
use Rattle.hold_values.specs.Given.{IfAny, IsGivenSpan, IsGivenDelay, IsGivenSetup, IsGivenHold, IsGivenClock}
use Rattle.hold_values.specs.declared.value.Values.{Values}

pub record AreValuesOf (b : Binding) (job : Job) (graph : Parts) (corner : ℕ) (entries : List Entry) (values : Values) : Type 0 where
  pub spans : AllZip (λ arc span. IfAny (IsGivenSpan b job corner entries arc) span) graph.arcs values.spans.items
  pub delays : AllZip (λ p span. IfAny (IsGivenDelay b job corner entries p) span) graph.launches values.delays.items
  pub launch_clocks : AllZip (λ p span. IfAny (IsGivenClock b job corner p) span) graph.launches values.launch_clocks.items
  pub capture_clocks : AllZip (λ p span. IfAny (IsGivenClock b job corner p) span) graph.captures values.capture_clocks.items
  pub setups : AllZip (λ p time. IfAny (IsGivenSetup b job corner entries p) time) graph.captures values.setups.items
  pub holds : AllZip (λ p time. IfAny (IsGivenHold b job corner entries p) time) graph.captures values.holds.items

pub record AreInRange (values : Values) : Type 0 where
  pub spans : All (λ span. IfSome span (IsSpan time_limit)) values.spans.items
  pub delays : All (λ span. IfSome span (IsSpan time_limit)) values.delays.items
  pub launch_clocks : All (λ span. IfSome span (IsSpan time_limit)) values.launch_clocks.items
  pub capture_clocks : All (λ span. IfSome span (IsSpan time_limit)) values.capture_clocks.items
  pub setups : All (λ time. IfSome time (IsWithin time_limit)) values.setups.items
  pub holds : All (λ time. IfSome time (IsWithin time_limit)) values.holds.items
