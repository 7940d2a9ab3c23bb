-- What an entry joins to what the entries before it have told.
--
-- widened so_far span, later so_far time: the hull of what was told so far and the span; the later of the two times.
-- IsAdded join Hit said old new: what is said is joined to the old, where it hits; else the new is the old.
-- NamesPin named p: what a name was found to name is pin p. IsJoined from to wire arc: the arc leads from the one to the other.
-- IsFound Has Names named: a name names nothing; or what it names isn't written; or it is that pin and no other.
-- IsNothing named: what a name was found to name is nothing.
-- JoinsAt place arc, DelaysAt place p, ChecksAt place p: what is said there is said of the arc, of the delay from the clock to pin p, of the
--   check of pin p. span_at, setup_at, hold_at place: what is said there, if anything.
-- HasClock b inst name: the clock pin of the type of the instance of that name has that name.
-- target place: the pin that what is said there ends at.
-- IsPlaceOf b e place: what is said there, and of what, is what the entry says, and of what.
-- AreJoined graph place old new: what is said at the place is joined to what was told.
-- IsUntold graph told: there is a place for each arc, and for each pin, and nothing is told.
use Rattle.std.specs.Prelude.{◌≡◌, ◌⊎◌, ◌↔◌, ℕ, ◌<◌, ℤ, List, Bool, IsTrue, Option, Some, None, slice_get, slice_index_or}
use Rattle.std.specs.Int.{int_max}
use Rattle.hold_base.specs.Interval.{hull}
use Rattle.hold_base.specs.declared.number.PinNo.{PinNo}
use Rattle.hold_base.specs.declared.time.Interval.{Interval}
use Rattle.hold_graph.specs.declared.graph.Arc.{Arc}
use Rattle.hold_graph.specs.declared.graph.Parts.{Parts}
use Rattle.hold_build.specs.NetlistGraph.{IsNamedInst}
use Rattle.hold_netlist.specs.Pins.{pins_of}
use Rattle.hold_roles.specs.declared.role.CellType.{CellType}
use Rattle.hold_roles.specs.Binding.{Binding}
use Rattle.hold_roles.specs.Types.{IsTypeOf}
use Rattle.hold_sdf.specs.declared.entry.Entry.{Entry}
use Rattle.hold_told.specs.Else.{HoldsOfNothing}
use Rattle.hold_told.specs.Entries.{IsOfArc, IsOfDelay, IsOfCheck, span_of, setup_of, hold_of}
use Rattle.hold_told.specs.Told.{HasRoom}
use Rattle.hold_told.specs.declared.named.Named.{Named}
use Rattle.hold_told.specs.declared.named.Named.TheVariants.{Nothing, Unwritten, Pin}
use Rattle.hold_told.specs.declared.place.Place.{Place}
use Rattle.hold_told.specs.declared.place.Place.TheVariants.{Arc as AtArc, Check as AtCheck}
use Rattle.hold_told.specs.declared.told.Told.{Told}

abbrev pub widened : Option Interval → Interval → Interval
widened None span = span
widened (Some so_far) span = hull so_far span

abbrev pub later : Option ℤ → ℤ → ℤ
later None time = time
later (Some so_far) time = int_max so_far time

abbrev pub IsAdded : {X : Type 0} → (Option X → X → X) → Type 0 → Option X → Option X → Option X → Type 0
IsAdded join Hit None old new = new ≡ old
IsAdded join Hit (Some x) old new = (Hit × (new ≡ Some (join old x))) ⊎ ((Hit → ⊥) × (new ≡ old))

abbrev pub NamesPin : Named → PinNo → Type 0
NamesPin Nothing p = ⊥
NamesPin Unwritten p = ⊥
NamesPin (Pin q) p = q ≡ p

pub record IsJoined (from to : Named) (wire : Bool) (arc : Arc) : Type 0 where
  pub along : arc.wire ≡ wire
  pub begins : NamesPin from arc.from
  pub ends : NamesPin to arc.to

abbrev pub IsFound : Type 0 → (PinNo → Type 0) → Named → Type 0
IsFound Has Names Nothing = Has → ⊥
IsFound Has Names Unwritten = Has × HoldsOfNothing Names
IsFound Has Names (Pin p) = Has × ((q : PinNo) → Names q ↔ (p ≡ q))

abbrev pub IsNothing : Named → Type 0
IsNothing Nothing = Unit {0}
IsNothing Unwritten = ⊥
IsNothing (Pin p) = ⊥

abbrev pub JoinsAt : Place → Arc → Type 0
JoinsAt (AtArc from to wire clocked span) arc = IsJoined from to wire arc
JoinsAt (AtCheck pin setup hold) arc = ⊥

abbrev pub DelaysAt : Place → PinNo → Type 0
DelaysAt (AtArc from to wire clocked span) p = IsTrue clocked × NamesPin to p
DelaysAt (AtCheck pin setup hold) p = ⊥

abbrev pub ChecksAt : Place → PinNo → Type 0
ChecksAt (AtArc from to wire clocked span) p = ⊥
ChecksAt (AtCheck pin setup hold) p = NamesPin pin p

abbrev pub span_at : Place → Option Interval
span_at (AtArc from to wire clocked span) = span
span_at (AtCheck pin setup hold) = None

abbrev pub setup_at : Place → Option ℤ
setup_at (AtArc from to wire clocked span) = None
setup_at (AtCheck pin setup hold) = setup

abbrev pub hold_at : Place → Option ℤ
hold_at (AtArc from to wire clocked span) = None
hold_at (AtCheck pin setup hold) = hold

pub record HasClock (b : Binding) (inst name : List ℕ) : Type 0 where
  pub number : ℕ
  pub named : IsNamedInst b.netlist.insts number inst
  pub t : CellType
  pub typed : IsTypeOf b.types b.netlist.insts number t
  pub clocked : t.clock ≡ Some name

abbrev pub target : Place → Named
target (AtArc from to wire clocked span) = to
target (AtCheck pin setup hold) = pin

pub record IsPlaceOf (b : Binding) (e : Entry) (place : Place) : Type 0 where
  pub joins : (arc : Arc) → JoinsAt place arc ↔ IsOfArc b e arc
  pub delays : (p : PinNo) → DelaysAt place p ↔ IsOfDelay b e p
  pub checks : (p : PinNo) → ChecksAt place p ↔ IsOfCheck b e p
  pub span : span_at place ≡ span_of e
  pub setup : setup_at place ≡ setup_of e
  pub hold : hold_at place ≡ hold_of e
  pub within : (p : PinNo) → NamesPin (target place) p → p.0 < pins_of b.netlist

pub record IsUntold (graph : Parts) (told : Told) : Type 0 where
  pub room : HasRoom graph told
  pub spans : (k : ℕ) → slice_index_or told.spans.items k None ≡ None
  pub delays : (k : ℕ) → slice_index_or told.delays.items k None ≡ None
  pub setups : (k : ℕ) → slice_index_or told.setups.items k None ≡ None
  pub holds : (k : ℕ) → slice_index_or told.holds.items k None ≡ None

pub record AreJoined (graph : Parts) (place : Place) (old new : Told) : Type 0 where
  pub room : HasRoom graph new
  pub spans : (k : ℕ) (arc : Arc) → slice_get graph.arcs k ≡ Some arc → IsAdded widened (JoinsAt place arc) (span_at place) (slice_index_or old.spans.items k None) (slice_index_or new.spans.items k None)
  pub delays : (p : PinNo) → p.0 < graph.pins → IsAdded widened (DelaysAt place p) (span_at place) (slice_index_or old.delays.items p.0 None) (slice_index_or new.delays.items p.0 None)
  pub setups : (p : PinNo) → p.0 < graph.pins → IsAdded later (ChecksAt place p) (setup_at place) (slice_index_or old.setups.items p.0 None) (slice_index_or new.setups.items p.0 None)
  pub holds : (p : PinNo) → p.0 < graph.pins → IsAdded later (ChecksAt place p) (hold_at place) (slice_index_or old.holds.items p.0 None) (slice_index_or new.holds.items p.0 None)
