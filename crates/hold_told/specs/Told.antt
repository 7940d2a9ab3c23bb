-- What the entries of a corner's SDF text tell of the arcs and pins of a netlist's graph.
--
-- HasRoom graph told: there is a place for each arc, and for each pin.
-- AreTold b graph entries told: each arc's place has the hull of all spans that the entries say of it; each pin's places have the hull of
--   all delays from the clock to it, the greatest setup of it and the greatest hold. A place of which nothing is said is empty.
-- IsFirstStray b entries at: the first entry that is stray stands at this place in bytes of the text.
use Rattle.std.specs.Prelude.{◌≡◌, ℕ, ◌<◌, List, length, take, Some, None, slice_get, slice_index_or}
use Rattle.std.specs.List.{AllByRecursion}
use Rattle.hold_base.specs.declared.number.PinNo.{PinNo}
use Rattle.hold_graph.specs.declared.graph.Arc.{Arc}
use Rattle.hold_graph.specs.declared.graph.Parts.{Parts}
use Rattle.hold_roles.specs.Binding.{Binding}
use Rattle.hold_sdf.specs.declared.entry.Entry.{Entry}
use Rattle.hold_told.specs.Entries.{Says, IsOfArc, IsOfDelay, IsOfCheck, IsPlaced, IsStray, place_of, span_of, setup_of, hold_of}
use Rattle.hold_told.specs.Values.{HullIfAny, GreatestIfAny}
use Rattle.hold_told.specs.declared.told.Told.{Told}

pub record HasRoom (graph : Parts) (told : Told) : Type 0 where
  pub spans : length told.spans.items ≡ length graph.arcs
  pub delays : length told.delays.items ≡ graph.pins
  pub setups : length told.setups.items ≡ graph.pins
  pub holds : length told.holds.items ≡ graph.pins

pub record AreTold (b : Binding) (graph : Parts) (entries : List Entry) (told : Told) : Type 0 where
  pub room : HasRoom graph told
  pub spans : (k : ℕ) (arc : Arc) → slice_get graph.arcs k ≡ Some arc → HullIfAny (Says (λ e. IsOfArc b e arc) span_of entries) (slice_index_or told.spans.items k None)
  pub delays : (p : PinNo) → p.0 < graph.pins → HullIfAny (Says (λ e. IsOfDelay b e p) span_of entries) (slice_index_or told.delays.items p.0 None)
  pub setups : (p : PinNo) → p.0 < graph.pins → GreatestIfAny (Says (λ e. IsOfCheck b e p) setup_of entries) (slice_index_or told.setups.items p.0 None)
  pub holds : (p : PinNo) → p.0 < graph.pins → GreatestIfAny (Says (λ e. IsOfCheck b e p) hold_of entries) (slice_index_or told.holds.items p.0 None)

pub record IsFirstStray (b : Binding) (entries : List Entry) (at : ℕ) : Type 0 where
  pub number : ℕ
  pub entry : Entry
  pub is_entry : slice_get entries number ≡ Some entry
  pub stray : IsStray b entry
  pub before : AllByRecursion (IsPlaced b) (take number entries)
  pub stands : place_of entry ≡ at
