-- Why a bound netlist and a job have no graph. Entries of the job's lists are counted from 0.
--
-- IsRegisterNamed b name: some instance of that name is a register.
-- IsUnknownClock b job k: entry k of `clock` names no register. IsUnknownKeep b job k: entry k of `keep` names no connection.
-- entry_path key k: the path of entry k of the list of that key: the key, a point and k.
-- IsFirstUnknownClock b job path: the first such entry of `clock` has that path. IsFirstUnknownKeep b job path: there is none, and
--   the first such entry of `keep` has that path.
-- IsFirstUnknown b job path: one of the two.
-- HasKnownEntries b job: there is no such entry at all.
-- HasTooManyArcs b: a list of the netlist's arcs, each once, is longer than the limit of 2^22.
-- HasCycle b found: that cycle is one of the netlist's arcs.
-- CanBeListed b job: no entry is unknown, and there aren't too many arcs. So there are lists for a graph.
-- IsLimitFault b job what: no entry is unknown, and there are too many arcs, which is what it says.
-- IsCycleFault b job cycle: there are lists, and the arcs have that cycle. Of several cycles it may be any.
-- IsListFault b job fault: why there are no lists: the first unknown entry, else the limit. A cycle is no such fault.
-- IsFault b job fault: why there is no graph: such a fault, else a cycle.
-- HasNoFault b job: none of these.
-- IsOnCycle fault: the fault says a cycle.
use Rattle.std.specs.Prelude.{◌≡◌, ℕ, ◌<◌, List, ◌++◌, length, Some, slice_get, ◌⊎◌, codes, decimal}
use Rattle.hold_base.specs.declared.number.PinNo.{PinNo}
use Rattle.hold_base.specs.declared.stop.What.{What}
use Rattle.hold_base.specs.declared.stop.What.TheVariants.{Arcs}
use Rattle.hold_base.specs.Limits.{arcs_limit}
use Rattle.hold_graph.specs.declared.graph.Arc.{Arc}
use Rattle.hold_graph.specs.declared.cycle.Cycle.{Cycle}
use Rattle.hold_graph.specs.Cycles.{IsCycle}
use Rattle.hold_job.specs.declared.inst_times.Clock.{Clock}
use Rattle.hold_job.specs.declared.inst_times.Keep.{Keep}
use Rattle.hold_job.specs.declared.job.Job.{Job}
use Rattle.hold_roles.specs.declared.role.Role.TheVariants.{Register}
use Rattle.hold_roles.specs.Binding.{Binding}
use Rattle.hold_roles.specs.Faults.{HasNone, IsFirst}
use Rattle.hold_roles.specs.Types.{IsRoleOf}
use Rattle.hold_build.specs.declared.fault.BuildFault.{BuildFault}
use Rattle.hold_build.specs.declared.fault.BuildFault.TheVariants.{Unknown, Limit, Cycle as OnCycle}
use Rattle.hold_build.specs.Listing.{ListsEach}
use Rattle.hold_build.specs.Arcs.{IsArc}
use Rattle.hold_build.specs.NetlistGraph.{IsKeptBy, IsNamedInst}

pub record IsRegisterNamed (b : Binding) (name : List ℕ) : Type 0 where
  pub inst : ℕ
  pub named : IsNamedInst b.netlist.insts inst name
  pub register : IsRoleOf b.types b.netlist.insts inst Register

pub record IsUnknownClock (b : Binding) (job : Job) (k : ℕ) : Type 0 where
  pub entry : Clock
  pub at : slice_get job.clocks k ≡ Some entry
  pub unknown : IsRegisterNamed b entry.inst → ⊥

pub record IsUnknownKeep (b : Binding) (job : Job) (k : ℕ) : Type 0 where
  pub entry : Keep
  pub at : slice_get job.keeps k ≡ Some entry
  pub unknown : (p : PinNo) → IsKeptBy b.netlist.insts entry p → ⊥

abbrev pub entry_path : List ℕ → ℕ → List ℕ
entry_path key k = key ++ codes "." ++ decimal k

pub record IsFirstUnknownClock (b : Binding) (job : Job) (path : List ℕ) : Type 0 where
  pub entry : ℕ
  pub first : IsFirst (IsUnknownClock b job) entry
  pub said : path ≡ entry_path (codes "clock") entry

pub record IsFirstUnknownKeep (b : Binding) (job : Job) (path : List ℕ) : Type 0 where
  pub clocks : HasNone (IsUnknownClock b job)
  pub entry : ℕ
  pub first : IsFirst (IsUnknownKeep b job) entry
  pub said : path ≡ entry_path (codes "keep") entry

abbrev pub IsFirstUnknown : Binding → Job → List ℕ → Type 0
IsFirstUnknown b job path = IsFirstUnknownClock b job path ⊎ IsFirstUnknownKeep b job path

pub record HasKnownEntries (b : Binding) (job : Job) : Type 0 where
  pub clocks : HasNone (IsUnknownClock b job)
  pub keeps : HasNone (IsUnknownKeep b job)

pub record HasTooManyArcs (b : Binding) : Type 0 where
  pub arcs : List Arc
  pub all : ListsEach (IsArc b) arcs
  pub many : arcs_limit < length arcs

pub record HasCycle (b : Binding) (found : Cycle) : Type 0 where
  pub arcs : List Arc
  pub all : ListsEach (IsArc b) arcs
  pub cycle : IsCycle arcs found.pins

pub record CanBeListed (b : Binding) (job : Job) : Type 0 where
  pub known : HasKnownEntries b job
  pub few : HasTooManyArcs b → ⊥

pub record IsLimitFault (b : Binding) (job : Job) (what : What) : Type 0 where
  pub known : HasKnownEntries b job
  pub many : HasTooManyArcs b
  pub of : what ≡ Arcs

pub record IsCycleFault (b : Binding) (job : Job) (cycle : Cycle) : Type 0 where
  pub listed : CanBeListed b job
  pub has : HasCycle b cycle

abbrev pub IsListFault : Binding → Job → BuildFault → Type 0
IsListFault b job (Unknown path) = IsFirstUnknown b job path
IsListFault b job (Limit what) = IsLimitFault b job what
IsListFault b job (OnCycle cycle) = ⊥

abbrev pub IsFault : Binding → Job → BuildFault → Type 0
IsFault b job (Unknown path) = IsFirstUnknown b job path
IsFault b job (Limit what) = IsLimitFault b job what
IsFault b job (OnCycle cycle) = IsCycleFault b job cycle

pub record HasNoFault (b : Binding) (job : Job) : Type 0 where
  pub listed : CanBeListed b job
  pub acyclic : (cycle : Cycle) → HasCycle b cycle → ⊥

abbrev pub IsOnCycle : BuildFault → Type 0
IsOnCycle (Unknown path) = ⊥
IsOnCycle (Limit what) = ⊥
IsOnCycle (OnCycle cycle) = Unit {0}
