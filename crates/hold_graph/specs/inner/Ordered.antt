-- IsInOrder line: the ranks, the order and the arcs into each pin belong to the line's arcs, whose pins are all there.
-- IsOrderedOf parts line: the same, and pins and arcs are those of the parts.
use Rattle.std.specs.Prelude.{◌≡◌, ◌<◌, length, All}
use Rattle.hold_graph.specs.declared.graph.Parts.{Parts}
use Rattle.hold_graph.specs.declared.line.Ordered.{Ordered}
use Rattle.hold_graph.specs.Graph.{Rises}
use Rattle.hold_graph.specs.inner.Order.{IsInto, IsOrder}

pub record IsInOrder (line : Ordered) : Type 0 where
  pub from : All (λ arc. arc.from.0 < line.pins) line.arcs.now
  pub to : All (λ arc. arc.to.0 < line.pins) line.arcs.now
  pub rank_each : length line.ranks.now ≡ line.pins
  pub rising : Rises line.arcs.now line.ranks.now
  pub in_order : IsOrder line.pins line.ranks.now line.order.now
  pub into_each : length line.into.now ≡ line.pins
  pub places : IsInto line.arcs.now line.into.now

pub record IsOrderedOf (parts : Parts) (line : Ordered) : Type 0 where
  pub pins : line.pins ≡ parts.pins
  pub arcs : line.arcs.now ≡ parts.arcs
  pub lined : IsInOrder line
