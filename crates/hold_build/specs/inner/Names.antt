-- inst_names insts: the names of instances, in order.
-- IsTableOf i tables n: table n tells the places of the pins of the instance.
-- AreTables insts tables: each table that an instance has is of its pins.
-- AreNames insts names: the instances' names tell their places, the numbers are those of the first connections, and the tables are
--   right.
-- IsEntryFault P key fault: the fault names the first entry of the list of that key of which P holds.
-- IsKeptBefore b job n p: one of the first n `keep` entries names pin p.
-- AreFlags pins flags: the flag of a pin tells whether it is among these.
-- IsMarked old new pin: the list has one pin more, if the pin wasn't there.
use Rattle.std.specs.Prelude.{◌≡◌, ◌↔◌, ◌⊎◌, ℕ, ◌<◌, List, [], ◌∷◌, ◌++◌, length, map, Some, Bool, true, false, slice_get, slice_index_or, Contains}
use Rattle.hold_base.specs.declared.number.PinNo.{PinNo}
use Rattle.hold_job.specs.declared.inst_times.Keep.{Keep}
use Rattle.hold_job.specs.declared.job.Job.{Job}
use Rattle.hold_netlist.specs.declared.inst.Inst.{Inst}
use Rattle.hold_netlist.specs.Names.{pin_names}
use Rattle.hold_netlist.specs.Pins.{pin_count}
use Rattle.hold_netlist.specs.inner.Numbering.{firsts_from}
use Rattle.hold_roles.specs.Binding.{Binding}
use Rattle.hold_roles.specs.Faults.{IsFirst}
use Rattle.hold_roles.specs.inner.NamePlaces.{TellsPlaces}
use Rattle.hold_build.specs.declared.fault.BuildFault.{BuildFault}
use Rattle.hold_build.specs.declared.fault.BuildFault.TheVariants.{Unknown}
use Rattle.hold_build.specs.declared.names.Names.{Names}
use Rattle.hold_build.specs.declared.pin_tables.PinTables.{PinTables}
use Rattle.hold_build.specs.Faults.{entry_path}
use Rattle.hold_build.specs.NetlistGraph.{IsKeptBy}

abbrev pub inst_names : List Inst → List (List ℕ)
inst_names insts = map (λ i. i.name) insts

pub record IsTableOf (i : Inst) (tables : List (List (List ℕ × ℕ))) (n : ℕ) : Type 0 where
  pub table : List (List ℕ × ℕ)
  pub at : slice_get tables n ≡ Some table
  pub tells : TellsPlaces (pin_names i.pins) table

pub record AreTables (insts : List Inst) (tables : PinTables) : Type 0 where
  pub each : length tables.of_inst.items ≡ length insts
  pub tells : (k n : ℕ) (i : Inst) → slice_get insts k ≡ Some i → slice_get tables.of_inst.items k ≡ Some (Some n) → IsTableOf i tables.tables.items n

pub record AreNames (insts : List Inst) (names : Names) : Type 0 where
  pub tells : TellsPlaces (inst_names insts) names.insts
  pub firsts : names.first_pins.items ≡ firsts_from 0 pin_count insts
  pub pins : AreTables insts names.pins

pub record IsEntryFault (P : ℕ → Type 0) (key : List ℕ) (fault : BuildFault) : Type 0 where
  pub path : List ℕ
  pub is : fault ≡ Unknown path
  pub entry : ℕ
  pub first : IsFirst P entry
  pub said : path ≡ entry_path key entry

pub record IsKeptBefore (b : Binding) (job : Job) (n : ℕ) (p : PinNo) : Type 0 where
  pub place : ℕ
  pub before : place < n
  pub keep : Keep
  pub at : slice_get job.keeps place ≡ Some keep
  pub by : IsKeptBy b.netlist.insts keep p

pub record AreFlags (pins : List PinNo) (flags : List Bool) : Type 0 where
  pub tells : (p : PinNo) → (slice_index_or flags p.0 false ≡ true) ↔ Contains pins p

abbrev pub IsMarked : List PinNo → List PinNo → PinNo → Type 0
IsMarked old new pin = (Contains old pin × (new ≡ old)) ⊎ ((Contains old pin → ⊥) × (new ≡ old ++ pin ∷ []))
