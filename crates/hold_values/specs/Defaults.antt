-- What a job says of times where no entry does, in a corner that is told by its number from 0.
--
-- IsSpanOfType job corner kind from to span: the type of that name has this delay between these pins.
-- IsDefaultSpan b job corner arc span: the arc leads through a cell, whose type has this delay between its pins. Wires have none.
-- IsDefaultDelay b job corner p span: pin p is an output of a register, whose type has this delay to it from its clock.
-- IsDefaultTime times b job corner p time: pin p is a pin of a register whose type has a check of it with this time, a setup or a
--   hold.
-- IsOwnArrival job corner inst span: the job says when the clock arrives at that instance. IsSharedArrival job corner span: it says when
--   it arrives where it doesn't say so of the instance.
-- IsArrival job corner inst span: when the clock arrives at the instance, by these.
use Rattle.std.specs.Prelude.{◌≡◌, ℕ, ℤ, List, false, Some, slice_get, Contains}
use Rattle.hold_base.specs.declared.number.PinNo.{PinNo}
use Rattle.hold_base.specs.declared.time.Interval.{Interval}
use Rattle.hold_graph.specs.declared.graph.Arc.{Arc}
use Rattle.hold_job.specs.declared.cell_times.TypeArc.{TypeArc}
use Rattle.hold_job.specs.declared.cell_times.TypeCheck.{TypeCheck}
use Rattle.hold_job.specs.declared.inst_times.Clock.{Clock}
use Rattle.hold_job.specs.declared.job.Job.{Job}
use Rattle.hold_job.specs.Rules.{arc_key, check_key}
use Rattle.hold_netlist.specs.declared.inst.Pin.{Pin}
use Rattle.hold_roles.specs.declared.role.CellType.{CellType}
use Rattle.hold_roles.specs.Binding.{Binding}
use Rattle.hold_build.specs.Pins.{IsPinOf}
use Rattle.hold_told.specs.Else.{OrElse}

pub record IsSpanOfType (job : Job) (corner : ℕ) (kind from to : List ℕ) (span : Interval) : Type 0 where
  pub arc : TypeArc
  pub listed : Contains job.arcs arc
  pub key : arc_key arc ≡ (kind, from, to)
  pub at : slice_get arc.spans corner ≡ Some span

pub record IsDefaultSpan (b : Binding) (job : Job) (corner : ℕ) (arc : Arc) (span : Interval) : Type 0 where
  pub through : arc.wire ≡ false
  pub inst : ℕ
  pub t : CellType
  pub input : Pin
  pub begins : IsPinOf b arc.from inst t input
  pub output : Pin
  pub ends : IsPinOf b arc.to inst t output
  pub of_type : IsSpanOfType job corner t.name input.name output.name span

pub record IsDefaultDelay (b : Binding) (job : Job) (corner : ℕ) (p : PinNo) (span : Interval) : Type 0 where
  pub inst : ℕ
  pub t : CellType
  pub output : Pin
  pub pin_of : IsPinOf b p inst t output
  pub clock : List ℕ
  pub clocked : t.clock ≡ Some clock
  pub of_type : IsSpanOfType job corner t.name clock output.name span

pub record IsDefaultTime (times : TypeCheck → List ℤ) (b : Binding) (job : Job) (corner : ℕ) (p : PinNo) (time : ℤ) : Type 0 where
  pub inst : ℕ
  pub t : CellType
  pub pin : Pin
  pub pin_of : IsPinOf b p inst t pin
  pub check : TypeCheck
  pub listed : Contains job.checks check
  pub key : check_key check ≡ (t.name, pin.name)
  pub at : slice_get (times check) corner ≡ Some time

pub record IsOwnArrival (job : Job) (corner : ℕ) (inst : List ℕ) (span : Interval) : Type 0 where
  pub clock : Clock
  pub listed : Contains job.clocks clock
  pub of_inst : clock.inst ≡ inst
  pub at : slice_get clock.arrivals corner ≡ Some span

pub record IsSharedArrival (job : Job) (corner : ℕ) (span : Interval) : Type 0 where
  pub spans : List Interval
  pub given : job.arrival ≡ Some spans
  pub at : slice_get spans corner ≡ Some span

abbrev pub IsArrival : Job → ℕ → List ℕ → Interval → Type 0
IsArrival job corner inst = OrElse (IsOwnArrival job corner inst) (IsSharedArrival job corner)
