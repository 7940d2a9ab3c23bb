-- HasArc arcs a b: some arc leads from a to b.
-- EachNext arcs a pins: from a on, each of these pins is next by an arc to the pin before it. True of no pins.
-- last_pin a pins: the last of these pins, and a itself where there are none.
-- end_pin path: the last pin of a path, and pin 0 of the empty list, which is no path.
-- IsCheckedPath parts path: the path begins with a launch and ends with a capture, each pin next by an arc to the
--   one before it, and it has at least two pins. So the empty list is none, and neither is a pin alone, be it launch
--   and capture both. A launch or a capture may also stand inside a path.
use Rattle.std.specs.Prelude.{◌≡◌, List, [], ◌∷◌, Contains}
use Rattle.hold_base.specs.declared.number.PinNo.{PinNo}
use Rattle.hold_graph.specs.declared.graph.Arc.{Arc}
use Rattle.hold_graph.specs.declared.graph.Parts.{Parts}

pub record HasArc (arcs : List Arc) (a b : PinNo) : Type 0 where
  pub arc : Arc
  pub listed : Contains arcs arc
  pub from : arc.from ≡ a
  pub to : arc.to ≡ b

abbrev pub EachNext : List Arc → PinNo → List PinNo → Type 0
EachNext arcs a [] = Unit {0}
EachNext arcs a (b ∷ rest) = HasArc arcs a b × EachNext arcs b rest

abbrev pub last_pin : PinNo → List PinNo → PinNo
last_pin a [] = a
last_pin a (b ∷ rest) = last_pin b rest

abbrev pub end_pin : List PinNo → PinNo
end_pin [] = record { 0 = 0 }
end_pin (a ∷ rest) = last_pin a rest

abbrev pub IsCheckedPath : Parts → List PinNo → Type 0
IsCheckedPath parts [] = ⊥
IsCheckedPath parts (a ∷ []) = ⊥
IsCheckedPath parts (a ∷ b ∷ rest) =
    Contains parts.launches a × Contains parts.captures (last_pin b rest) × EachNext parts.arcs a (b ∷ rest)
