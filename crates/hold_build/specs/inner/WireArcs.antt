-- IsSinkArc b sinks n arc: the arc is along a wire, to one of the first n of these sinks, from the root of its net bit.
-- HasDifferentPins sinks: no pin stands at two places.
-- AreOnNets bits sinks: each is on one of so many net bits.
use Rattle.std.specs.Prelude.{◌≡◌, ℕ, ◌<◌, List, Some, true, slice_get, All}
use Rattle.hold_graph.specs.declared.graph.Arc.{Arc}
use Rattle.hold_roles.specs.declared.roots.Root.TheVariants.{Pin}
use Rattle.hold_roles.specs.Binding.{Binding}
use Rattle.hold_roles.specs.Drivers.{drivers}
use Rattle.hold_roles.specs.Roots.{IsRoot}
use Rattle.hold_build.specs.declared.sinks.Sink.{Sink}

pub record IsSinkArc (b : Binding) (sinks : List Sink) (n : ℕ) (arc : Arc) : Type 0 where
  pub place : ℕ
  pub before : place < n
  pub sink : Sink
  pub at : slice_get sinks place ≡ Some sink
  pub to : sink.pin ≡ arc.to
  pub root : IsRoot (drivers b.types b.netlist) sink.net.0 (Pin arc.from)
  pub wire : arc.wire ≡ true

pub record HasDifferentPins (sinks : List Sink) : Type 0 where
  pub each : (j k : ℕ) (s u : Sink) → slice_get sinks j ≡ Some s → slice_get sinks k ≡ Some u → s.pin ≡ u.pin → j ≡ k

abbrev pub AreOnNets : ℕ → List Sink → Type 0
AreOnNets bits sinks = All (λ s. s.net.0 < bits) sinks
