-- What the entries of an SDF text say of a bound netlist.
--
-- place_of e: where the entry stands in its text.
-- span_of e, setup_of e, hold_of e: the span, the setup and the hold that the entry says, if it has a number for it.
-- IsPlaced b e: the entry stands in the right cell, and each of its names is that of something: an arc or a check in the cell of an
--   instance, whose type has both pins; a wire in the cell of the design, both ends of which are pins or bits of ports.
-- IsStray b e: it doesn't.
-- IsOfArc b e arc: the entry belongs to the arc: its instance and both pins are named, or both ends of the wire.
-- IsOfDelay b e p: it belongs to the delay from the clock to pin p: it names that register, its clock pin and the pin.
-- IsOfCheck b e p: it belongs to the check of pin p, whichever clock pin it names.
-- Says Belongs said entries x: some entry that belongs says x. An entry without a number says nothing.
use Rattle.std.specs.Prelude.{◌≡◌, ℕ, ℤ, List, Bool, true, false, Option, Some, None, Contains}
use Rattle.hold_base.specs.declared.number.PinNo.{PinNo}
use Rattle.hold_base.specs.declared.time.Interval.{Interval}
use Rattle.hold_graph.specs.declared.graph.Arc.{Arc}
use Rattle.hold_netlist.specs.declared.inst.Pin.{Pin}
use Rattle.hold_roles.specs.declared.role.CellType.{CellType}
use Rattle.hold_roles.specs.Binding.{Binding}
use Rattle.hold_build.specs.Pins.{IsPinOf}
use Rattle.hold_sdf.specs.declared.entry.Entry.{Entry}
use Rattle.hold_sdf.specs.declared.entry.Entry.TheVariants.{Cell, Wire, Check}
use Rattle.hold_told.specs.Places.{IsNamedPin, IsPathTo, HasPin, HasPath}

abbrev pub place_of : Entry → ℕ
place_of (Cell at inst from to span) = at
place_of (Wire at inst from to span) = at
place_of (Check at inst pin clock setup hold) = at

abbrev pub span_of : Entry → Option Interval
span_of (Cell at inst from to span) = span
span_of (Wire at inst from to span) = span
span_of (Check at inst pin clock setup hold) = None

abbrev pub setup_of : Entry → Option ℤ
setup_of (Cell at inst from to span) = None
setup_of (Wire at inst from to span) = None
setup_of (Check at inst pin clock setup hold) = setup

abbrev pub hold_of : Entry → Option ℤ
hold_of (Cell at inst from to span) = None
hold_of (Wire at inst from to span) = None
hold_of (Check at inst pin clock setup hold) = hold

abbrev pub IsPlaced : Binding → Entry → Type 0
IsPlaced b (Cell at None from to span) = ⊥
IsPlaced b (Cell at (Some inst) from to span) = HasPin b inst from × HasPin b inst to
IsPlaced b (Wire at None from to span) = HasPath b from × HasPath b to
IsPlaced b (Wire at (Some inst) from to span) = ⊥
IsPlaced b (Check at None pin clock setup hold) = ⊥
IsPlaced b (Check at (Some inst) pin clock setup hold) = HasPin b inst pin × HasPin b inst clock

abbrev pub IsStray : Binding → Entry → Type 0
IsStray b e = IsPlaced b e → ⊥

pub record Joins (Begins Ends : PinNo → Type 0) (wire : Bool) (arc : Arc) : Type 0 where
  pub along : arc.wire ≡ wire
  pub begins : Begins arc.from
  pub ends : Ends arc.to

abbrev pub IsOfArc : Binding → Entry → Arc → Type 0
IsOfArc b (Cell at None from to span) arc = ⊥
IsOfArc b (Cell at (Some inst) from to span) arc = Joins (IsNamedPin b.netlist.insts inst from) (IsNamedPin b.netlist.insts inst to) false arc
IsOfArc b (Wire at inst from to span) arc = Joins (IsPathTo b.netlist from) (IsPathTo b.netlist to) true arc
IsOfArc b (Check at inst pin clock setup hold) arc = ⊥

pub record IsDelayTo (b : Binding) (inst from to : List ℕ) (p : PinNo) : Type 0 where
  pub number : ℕ
  pub t : CellType
  pub output : Pin
  pub pin_of : IsPinOf b p number t output
  pub inst_named : pin_of.i.name ≡ inst
  pub clock_named : t.clock ≡ Some from
  pub output_named : output.name ≡ to

abbrev pub IsOfDelay : Binding → Entry → PinNo → Type 0
IsOfDelay b (Cell at None from to span) p = ⊥
IsOfDelay b (Cell at (Some inst) from to span) p = IsDelayTo b inst from to p
IsOfDelay b (Wire at inst from to span) p = ⊥
IsOfDelay b (Check at inst pin clock setup hold) p = ⊥

abbrev pub IsOfCheck : Binding → Entry → PinNo → Type 0
IsOfCheck b (Cell at inst from to span) p = ⊥
IsOfCheck b (Wire at inst from to span) p = ⊥
IsOfCheck b (Check at None pin clock setup hold) p = ⊥
IsOfCheck b (Check at (Some inst) pin clock setup hold) p = IsNamedPin b.netlist.insts inst pin p

pub record Says {X : Type 0} (Belongs : Entry → Type 0) (said : Entry → Option X) (entries : List Entry) (x : X) : Type 0 where
  pub entry : Entry
  pub listed : Contains entries entry
  pub belongs : Belongs entry
  pub says : said entry ≡ Some x
