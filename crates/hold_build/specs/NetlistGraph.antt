-- The timing graph of a bound netlist and a job.
--
-- IsLaunch b p, IsCapture b p, IsClockPin b p: pin p is an output, a data pin, or the clock pin of a register, one that is written empty
--   too.
-- IsNamedInst insts inst name: instance `inst`, counted from 0, has that name.
-- IsKeptBy insts keep p: pin p is the connection that the entry names by its instance and its pin.
-- IsKept b job p: some `keep` entry of the job names pin p.
-- IsGraphOf b job parts: the parts have as many pins as the netlist, and list its arcs, launches, captures and clock pins, and the kept
--   pins, each once and in any order.
use Rattle.std.specs.Prelude.{◌≡◌, ℕ, List, Some, slice_get, Contains}
use Rattle.hold_base.specs.declared.number.PinNo.{PinNo}
use Rattle.hold_graph.specs.declared.graph.Parts.{Parts}
use Rattle.hold_job.specs.declared.inst_times.Keep.{Keep}
use Rattle.hold_job.specs.declared.job.Job.{Job}
use Rattle.hold_netlist.specs.declared.inst.Inst.{Inst}
use Rattle.hold_netlist.specs.declared.inst.Pin.{Pin}
use Rattle.hold_netlist.specs.Pins.{pins_of, IsConnection}
use Rattle.hold_roles.specs.Binding.{Binding}
use Rattle.hold_roles.specs.TypePins.{is_output_pin}
use Rattle.hold_build.specs.Listing.{ListsEach}
use Rattle.hold_build.specs.Pins.{is_clock_pin, is_data_pin, IsRegisterPin}
use Rattle.hold_build.specs.Arcs.{IsArc}

abbrev pub IsLaunch : Binding → PinNo → Type 0
IsLaunch b p = IsRegisterPin b is_output_pin p

abbrev pub IsCapture : Binding → PinNo → Type 0
IsCapture b p = IsRegisterPin b is_data_pin p

abbrev pub IsClockPin : Binding → PinNo → Type 0
IsClockPin b p = IsRegisterPin b is_clock_pin p

pub record IsNamedInst (insts : List Inst) (inst : ℕ) (name : List ℕ) : Type 0 where
  pub i : Inst
  pub at : slice_get insts inst ≡ Some i
  pub named : i.name ≡ name

pub record IsKeptBy (insts : List Inst) (keep : Keep) (p : PinNo) : Type 0 where
  pub inst : ℕ
  pub i : Inst
  pub is_inst : slice_get insts inst ≡ Some i
  pub named : i.name ≡ keep.inst
  pub place : ℕ
  pub pin : Pin
  pub is_pin : slice_get i.pins place ≡ Some pin
  pub pin_named : pin.name ≡ keep.pin
  pub numbered : IsConnection insts p.0 inst place

pub record IsKept (b : Binding) (job : Job) (p : PinNo) : Type 0 where
  pub keep : Keep
  pub listed : Contains job.keeps keep
  pub by : IsKeptBy b.netlist.insts keep p

pub record IsGraphOf (b : Binding) (job : Job) (parts : Parts) : Type 0 where
  pub pins : parts.pins ≡ pins_of b.netlist
  pub arcs : ListsEach (IsArc b) parts.arcs
  pub launches : ListsEach (IsLaunch b) parts.launches
  pub captures : ListsEach (IsCapture b) parts.captures
  pub clocks : ListsEach (IsClockPin b) parts.clocks
  pub keeps : ListsEach (IsKept b job) parts.keeps
