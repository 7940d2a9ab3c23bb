-- The values of a corner that its SDF text or the job gives: what entries say goes before what the job says. A corner without a text
-- has no entries.
--
-- IsToldSpan b entries arc span, IsToldDelay b entries p span: the hull of all spans that the entries say of the arc, of the delay from
--   the clock to pin p. IsToldSetup b entries p time, IsToldHold b entries p time: the greatest setup, and hold, that they say of pin p.
-- IsGivenSpan b job corner entries arc span: the span of an arc: as told, else the default of the cell's type. Of a wire without an entry
--   none is given.
-- IsGivenDelay b job corner entries p span: the delay from the clock to output p of a register, alike. IsGivenSetup, IsGivenHold b job
--   corner entries p time: setup and hold of data pin p, alike.
-- IsGivenClock b job corner p span: when the clock arrives at the register of pin p, by the job.
-- IfAny P o: P holds of what the option has; of nothing, where it has nothing.
use Rattle.std.specs.Prelude.{ℕ, ℤ, List, Option, Some, None}
use Rattle.hold_base.specs.declared.number.PinNo.{PinNo}
use Rattle.hold_base.specs.declared.time.Interval.{Interval}
use Rattle.hold_graph.specs.declared.graph.Arc.{Arc}
use Rattle.hold_job.specs.declared.job.Job.{Job}
use Rattle.hold_netlist.specs.declared.inst.Pin.{Pin}
use Rattle.hold_roles.specs.declared.role.CellType.{CellType}
use Rattle.hold_roles.specs.Binding.{Binding}
use Rattle.hold_build.specs.Pins.{IsPinOf}
use Rattle.hold_sdf.specs.declared.entry.Entry.{Entry}
use Rattle.hold_told.specs.Else.{HoldsOfNothing, OrElse}
use Rattle.hold_told.specs.Entries.{Says, IsOfArc, IsOfDelay, IsOfCheck, span_of, setup_of, hold_of}
use Rattle.hold_told.specs.Values.{IsHullOf, IsGreatestOf}
use Rattle.hold_values.specs.Defaults.{IsDefaultSpan, IsDefaultDelay, IsDefaultTime, IsArrival}

abbrev pub IfAny : {X : Type 0} → (X → Type 0) → Option X → Type 0
IfAny P None = HoldsOfNothing P
IfAny P (Some x) = P x

abbrev pub IsToldSpan : Binding → List Entry → Arc → Interval → Type 0
IsToldSpan b entries arc = IsHullOf (Says (λ e. IsOfArc b e arc) span_of entries)

abbrev pub IsToldDelay : Binding → List Entry → PinNo → Interval → Type 0
IsToldDelay b entries p = IsHullOf (Says (λ e. IsOfDelay b e p) span_of entries)

abbrev pub IsToldSetup : Binding → List Entry → PinNo → ℤ → Type 0
IsToldSetup b entries p = IsGreatestOf (Says (λ e. IsOfCheck b e p) setup_of entries)

abbrev pub IsToldHold : Binding → List Entry → PinNo → ℤ → Type 0
IsToldHold b entries p = IsGreatestOf (Says (λ e. IsOfCheck b e p) hold_of entries)

abbrev pub IsGivenSpan : Binding → Job → ℕ → List Entry → Arc → Interval → Type 0
IsGivenSpan b job corner entries arc = OrElse (IsToldSpan b entries arc) (IsDefaultSpan b job corner arc)

abbrev pub IsGivenDelay : Binding → Job → ℕ → List Entry → PinNo → Interval → Type 0
IsGivenDelay b job corner entries p = OrElse (IsToldDelay b entries p) (IsDefaultDelay b job corner p)

abbrev pub IsGivenSetup : Binding → Job → ℕ → List Entry → PinNo → ℤ → Type 0
IsGivenSetup b job corner entries p = OrElse (IsToldSetup b entries p) (IsDefaultTime (λ check. check.setup) b job corner p)

abbrev pub IsGivenHold : Binding → Job → ℕ → List Entry → PinNo → ℤ → Type 0
IsGivenHold b job corner entries p = OrElse (IsToldHold b entries p) (IsDefaultTime (λ check. check.hold) b job corner p)

pub record IsGivenClock (b : Binding) (job : Job) (corner : ℕ) (p : PinNo) (span : Interval) : Type 0 where
  pub inst : ℕ
  pub t : CellType
  pub pin : Pin
  pub pin_of : IsPinOf b p inst t pin
  pub arrives : IsArrival job corner pin_of.i.name span
