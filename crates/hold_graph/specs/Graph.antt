-- AreBelow pins listed: each listed pin is below `pins`.
-- NamesItsPins parts: every pin that a list of the parts names is below `pins`. Empty lists name none.
-- EndsOnce arcs: no two arcs, at different places, end at one pin. So no two arcs join the same two pins.
-- Rises arcs ranks: each arc runs from a pin of lower rank to one of higher rank. A pin past the ranks has rank 0.
use Rattle.std.specs.Prelude.{◌≡◌, ℕ, ◌<◌, List, Some, slice_get, slice_index, All}
use Rattle.hold_base.specs.declared.number.PinNo.{PinNo}
use Rattle.hold_graph.specs.declared.graph.Arc.{Arc}
use Rattle.hold_graph.specs.declared.graph.Parts.{Parts}

-- each of these pins is there
abbrev pub AreBelow : ℕ → List PinNo → Type 0
AreBelow pins = All (λ pin. pin.0 < pins)

pub record NamesItsPins (parts : Parts) : Type 0 where
  pub from : All (λ arc. arc.from.0 < parts.pins) parts.arcs
  pub to : All (λ arc. arc.to.0 < parts.pins) parts.arcs
  pub launches : AreBelow parts.pins parts.launches
  pub captures : AreBelow parts.pins parts.captures
  pub clocks : AreBelow parts.pins parts.clocks
  pub keeps : AreBelow parts.pins parts.keeps

abbrev pub EndsOnce : List Arc → Type 0
EndsOnce arcs = (i j : ℕ) (a b : Arc) → slice_get arcs i ≡ Some a → slice_get arcs j ≡ Some b → a.to ≡ b.to → i ≡ j

abbrev pub Rises : List Arc → List ℕ → Type 0
Rises arcs ranks = All (λ arc. slice_index ranks arc.from.0 < slice_index ranks arc.to.0) arcs
