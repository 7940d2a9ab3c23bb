-- What finds what a job says.
--
-- AreDefaults job defaults: the tables tell the places of the job's arcs, checks and clock entries by their texts.
-- IsPinFound insts p inst pin: pin p is the connection `pin` of instance `inst`.
-- IsCheckAt b job p place: the job's check at that place is that of pin p, by the type of its instance.
use Rattle.std.specs.Prelude.{◌≡◌, ℕ, List, Some, slice_get}
use Rattle.hold_base.specs.declared.number.PinNo.{PinNo}
use Rattle.hold_job.specs.declared.job.Job.{Job}
use Rattle.hold_netlist.specs.declared.inst.Inst.{Inst}
use Rattle.hold_netlist.specs.declared.inst.Pin.{Pin}
use Rattle.hold_netlist.specs.Pins.{IsConnection}
use Rattle.hold_build.specs.Pins.{IsPinOf}
use Rattle.hold_job.specs.declared.cell_times.TypeCheck.{TypeCheck}
use Rattle.hold_job.specs.Rules.{check_key}
use Rattle.hold_roles.specs.declared.role.CellType.{CellType}
use Rattle.hold_roles.specs.Binding.{Binding}
use Rattle.hold_roles.specs.inner.NamePlaces.{TellsPlaces}
use Rattle.hold_values.specs.declared.defaults.Defaults.{Defaults}
use Rattle.hold_values.specs.inner.Keys.{arc_texts, check_texts, clock_names}

pub record AreDefaults (job : Job) (defaults : Defaults) : Type 0 where
  pub arcs : TellsPlaces (arc_texts job.arcs) defaults.arcs
  pub checks : TellsPlaces (check_texts job.checks) defaults.checks
  pub clocks : TellsPlaces (clock_names job.clocks) defaults.clocks

pub record IsPinFound (insts : List Inst) (p : PinNo) (inst : ℕ) (pin : Pin) : Type 0 where
  pub place : ℕ
  pub numbered : IsConnection insts p.0 inst place
  pub i : Inst
  pub is_inst : slice_get insts inst ≡ Some i
  pub is_pin : slice_get i.pins place ≡ Some pin

pub record IsCheckAt (b : Binding) (job : Job) (p : PinNo) (place : ℕ) : Type 0 where
  pub inst : ℕ
  pub t : CellType
  pub pin : Pin
  pub pin_of : IsPinOf b p inst t pin
  pub check : TypeCheck
  pub at : slice_get job.checks place ≡ Some check
  pub key : check_key check ≡ (t.name, pin.name)
