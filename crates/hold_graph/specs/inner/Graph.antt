-- IsWalkThrough parts a rest: some pins follow a, each next by an arc to the one before it, and they lead from a launch to a capture.
-- IsBuilt: what a graph keeps beside its parts belongs to them: the places of the arcs by their ends, an order in which each arc
--   runs forward, the sites with the table of their places, and which pins are launches and captures.
use Rattle.std.specs.Prelude.{◌≡◌, ℕ, ◌≤◌, Bool, List, [], length, Option, Contains}
use Rattle.hold_base.specs.Limits.{arcs_limit}
use Rattle.hold_base.specs.declared.number.PinNo.{PinNo}
use Rattle.hold_base.specs.declared.number.SiteNo.{SiteNo}
use Rattle.hold_graph.specs.declared.graph.Parts.{Parts}
use Rattle.hold_graph.specs.Graph.{NamesItsPins}
use Rattle.hold_graph.specs.Path.{EachNext, last_pin}
use Rattle.hold_graph.specs.Adjacency.{places_into, places_from}
use Rattle.hold_graph.specs.Cycles.{IsTopological}
use Rattle.hold_graph.specs.SitePins.{AreSites}
use Rattle.hold_graph.specs.inner.Adjacency.{AreRows}
use Rattle.hold_graph.specs.inner.Marks.{AreFlags}
use Rattle.hold_graph.specs.inner.Sites.{IsSiteTable}

pub record IsWalkThrough (parts : Parts) (a : PinNo) (rest : List PinNo) : Type 0 where
  pub some : rest ≡ [] → ⊥
  pub begins : Contains parts.launches a
  pub ends : Contains parts.captures (last_pin a rest)
  pub next : EachNext parts.arcs a rest

pub record IsBuilt (parts : Parts) (incoming outgoing : List (List ℕ)) (order sites : List PinNo) (site_by_pin : List (Option SiteNo)) (launches captures : List Bool) : Type 0 where
  pub numbers : NamesItsPins parts
  pub few : length parts.arcs ≤ arcs_limit
  pub into : AreRows parts.pins (places_into parts.arcs) incoming
  pub from : AreRows parts.pins (places_from parts.arcs) outgoing
  pub in_order : IsTopological parts.pins parts.arcs order
  pub are_sites : AreSites parts sites
  pub table_each : length site_by_pin ≡ parts.pins
  pub table : IsSiteTable sites site_by_pin
  pub begins : AreFlags parts.pins parts.launches launches
  pub ends : AreFlags parts.pins parts.captures captures
