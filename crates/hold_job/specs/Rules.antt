-- The rules that a job keeps, as each one does that a text gives.
--
-- IsInRange least most n: n is from least to most.
-- AreSpans corners spans: one span for each of so many corners. AreValues corners times: one time for each. All are within 10^10 fs.
-- StandOnce xs: no item stands at two places.
-- pins_of t: the names of all pins of a type.
-- HasPinsOfRole role t: a type of that role names no pins that are another role's, and a register its clock.
-- KeepsTypeRules t: the type does so, and no pin's name stands at two places of it.
-- IsArcSource role t pin: an arc of a type of that role may lead from the pin: an input or a register's clock. No arc of an opaque one does.
-- IsArcIn types arc: it is an arc of the type that it names, from such a pin to an output.
-- IsCheckIn types check: it is a check of the register type that it names, at a data pin.
-- IsKindIn types kind: it is a combinational type with one input and one output, the kind's.
-- KeepsNumbers job: its numbers are in their ranges. KeepsLengths job: it has 1 to 8 corners and at most 8 kinds of buffers.
-- KeepsTimes job: it has a time or a span for each corner wherever it speaks of times, and no kind's delay is below 0.
-- KeepsNames job: each type keeps the rules of types, and arcs, checks and kinds name what is there.
-- arc_key arc, check_key check: what tells an arc or a check from others: its type and its pins.
-- KeepsOnce job: nothing stands in it a second time: no type's name, no kind's type, no clock's instance, no arc and no check.
-- KeepsRules job: it keeps all of these.
-- KeepsTypesOf job types: the types begin with the job's, and each of them keeps the rules of types.
use Rattle.std.specs.Prelude.{◌≡◌, ◌≤◌, ℕ, ℤ, pos, ◌≤ℤ◌, List, [], ◌∷◌, ◌++◌, length, map, slice_get, option_to_list, All, Contains, Some, None, IsSome, IfSome}
use Rattle.hold_base.specs.Limits.{time_limit, chain_limit, corners_limit, kinds_limit, cost_limit}
use Rattle.hold_base.specs.declared.time.Interval.{Interval}
use Rattle.hold_graph.specs.Problem.{IsWithin, IsSpan}
use Rattle.hold_netlist.specs.declared.kind.Kind.{Kind}
use Rattle.hold_roles.specs.declared.role.Role.{Role}
use Rattle.hold_roles.specs.declared.role.Role.TheVariants.{Comb, Register, Opaque}
use Rattle.hold_roles.specs.declared.role.CellType.{CellType}
use Rattle.hold_roles.specs.Types.{type_names, type_named}
use Rattle.hold_job.specs.declared.cell_times.TypeArc.{TypeArc}
use Rattle.hold_job.specs.declared.cell_times.TypeCheck.{TypeCheck}
use Rattle.hold_job.specs.declared.job.Job.{Job}
use Rattle.hold_job.specs.Limits.{nodes_limit, searchers_limit, order_limit}

pub record IsInRange (least most n : ℕ) : Type 0 where
  pub low : least ≤ n
  pub high : n ≤ most

pub record AreSpans (corners : ℕ) (spans : List Interval) : Type 0 where
  pub one_each : length spans ≡ corners
  pub all : All (IsSpan time_limit) spans

pub record AreValues (corners : ℕ) (times : List ℤ) : Type 0 where
  pub one_each : length times ≡ corners
  pub all : All (IsWithin time_limit) times

abbrev pub StandOnce : {A : Type 0} → List A → Type 0
StandOnce {A} xs = (j k : ℕ) (x : A) → slice_get xs j ≡ Some x → slice_get xs k ≡ Some x → j ≡ k

abbrev pub pins_of : CellType → List (List ℕ)
pins_of t = option_to_list t.clock ++ (t.inputs ++ (t.quiet ++ t.outputs))

abbrev pub HasPinsOfRole : Role → CellType → Type 0
HasPinsOfRole Comb t = (t.clock ≡ None) × (t.quiet ≡ [])
HasPinsOfRole Register t = IsSome t.clock
HasPinsOfRole Opaque t = (t.clock ≡ None) × (t.quiet ≡ [])

pub record KeepsTypeRules (t : CellType) : Type 0 where
  pub role : HasPinsOfRole t.role t
  pub pins : StandOnce (pins_of t)

abbrev pub IsArcSource : Role → CellType → List ℕ → Type 0
IsArcSource Comb t pin = Contains t.inputs pin
IsArcSource Register t pin = t.clock ≡ Some pin
IsArcSource Opaque t pin = ⊥

pub record IsArcIn (types : List CellType) (arc : TypeArc) : Type 0 where
  pub cell : CellType
  pub named : type_named arc.kind types ≡ Some cell
  pub from : IsArcSource cell.role cell arc.from
  pub to : Contains cell.outputs arc.to

pub record IsCheckIn (types : List CellType) (check : TypeCheck) : Type 0 where
  pub cell : CellType
  pub named : type_named check.kind types ≡ Some cell
  pub role : cell.role ≡ Register
  pub pin : Contains cell.inputs check.pin

pub record IsKindIn (types : List CellType) (kind : Kind) : Type 0 where
  pub cell : CellType
  pub named : type_named kind.cell types ≡ Some cell
  pub role : cell.role ≡ Comb
  pub input : cell.inputs ≡ kind.input ∷ []
  pub output : cell.outputs ≡ kind.output ∷ []

pub record KeepsNumbers (job : Job) : Type 0 where
  pub period_least : pos 1 ≤ℤ job.period
  pub period_most : job.period ≤ℤ pos time_limit
  pub max_chain : job.max_chain ≤ chain_limit
  pub nodes : IsInRange 1 nodes_limit job.nodes
  pub searchers : IsInRange 1 searchers_limit job.searchers
  pub order : job.order ≤ order_limit
  pub costs : All (λ kind. IsInRange 1 cost_limit kind.cost) job.kinds

pub record KeepsLengths (job : Job) : Type 0 where
  pub corners : IsInRange 1 corners_limit (length job.corners)
  pub kinds : length job.kinds ≤ kinds_limit

pub record KeepsTimes (job : Job) : Type 0 where
  pub arcs : All (λ arc. AreSpans (length job.corners) arc.spans) job.arcs
  pub setups : All (λ check. AreValues (length job.corners) check.setup) job.checks
  pub holds : All (λ check. AreValues (length job.corners) check.hold) job.checks
  pub kinds : All (λ kind. AreSpans (length job.corners) kind.spans) job.kinds
  pub kinds_least : All (λ kind. All (λ span. pos 0 ≤ℤ span.least) kind.spans) job.kinds
  pub arrival : IfSome job.arrival (λ spans. AreSpans (length job.corners) spans)
  pub clocks : All (λ clock. AreSpans (length job.corners) clock.arrivals) job.clocks

pub record KeepsNames (job : Job) : Type 0 where
  pub types : All KeepsTypeRules job.library
  pub arcs : All (IsArcIn job.library) job.arcs
  pub checks : All (IsCheckIn job.library) job.checks
  pub kinds : All (IsKindIn job.library) job.kinds

abbrev pub arc_key : TypeArc → List ℕ × List ℕ × List ℕ
arc_key arc = (arc.kind, arc.from, arc.to)

abbrev pub check_key : TypeCheck → List ℕ × List ℕ
check_key check = (check.kind, check.pin)

pub record KeepsOnce (job : Job) : Type 0 where
  pub types : StandOnce (type_names job.library)
  pub kinds : StandOnce (map (λ kind. kind.cell) job.kinds)
  pub clocks : StandOnce (map (λ clock. clock.inst) job.clocks)
  pub arcs : StandOnce (map arc_key job.arcs)
  pub checks : StandOnce (map check_key job.checks)

pub record KeepsRules (job : Job) : Type 0 where
  pub numbers : KeepsNumbers job
  pub lengths : KeepsLengths job
  pub times : KeepsTimes job
  pub names : KeepsNames job
  pub once : KeepsOnce job

pub record KeepsTypesOf (job : Job) (types : List CellType) : Type 0 where
  pub more : List CellType
  pub begin : types ≡ job.library ++ more
  pub each : All KeepsTypeRules types
