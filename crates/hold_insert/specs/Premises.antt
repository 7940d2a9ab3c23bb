-- What padding is asked under.
--
-- IsTimingGraphOf b graph: the graph has as many pins as the bound netlist, and its arcs, launches, captures and clock pins, each once and
--   in any order. Nothing is asked of the kept pins.
-- IsBufferKind types kind: the kind is a combinational type of these with one input and one output, which are two pins, and its names are
--   names.
-- AreChainCounts graph kinds counts: for so many kinds, there is one count for each site and kind, and no site has more than 16 buffers.
use Rattle.std.specs.Prelude.{◌≡◌, ◌≢◌, ℕ, ◌*◌, ◌<◌, ◌≤◌, List, length}
use Rattle.hold_base.specs.Limits.{chain_limit}
use Rattle.hold_base.specs.NameBytes.{IsName}
use Rattle.hold_base.specs.declared.number.PinNo.{PinNo}
use Rattle.hold_build.specs.Arcs.{IsArc}
use Rattle.hold_build.specs.Listing.{ListsEach}
use Rattle.hold_build.specs.NetlistGraph.{IsLaunch, IsCapture, IsClockPin}
use Rattle.hold_graph.specs.declared.graph.Parts.{Parts}
use Rattle.hold_graph.specs.Sites.{chain_sum}
use Rattle.hold_graph.specs.SitePins.{AreSites}
use Rattle.hold_job.specs.Rules.{IsKindIn}
use Rattle.hold_netlist.specs.declared.kind.Kind.{Kind}
use Rattle.hold_netlist.specs.Pins.{pins_of}
use Rattle.hold_roles.specs.declared.role.CellType.{CellType}
use Rattle.hold_roles.specs.Binding.{Binding}

pub record IsTimingGraphOf (b : Binding) (graph : Parts) : Type 0 where
  pub pins : graph.pins ≡ pins_of b.netlist
  pub arcs : ListsEach (IsArc b) graph.arcs
  pub launches : ListsEach (IsLaunch b) graph.launches
  pub captures : ListsEach (IsCapture b) graph.captures
  pub clocks : ListsEach (IsClockPin b) graph.clocks

pub record IsBufferKind (types : List CellType) (kind : Kind) : Type 0 where
  pub is_kind : IsKindIn types kind
  pub cell : IsName kind.cell
  pub input : IsName kind.input
  pub output : IsName kind.output
  pub differ : kind.input ≢ kind.output

pub record AreChainCounts (graph : Parts) (kinds : ℕ) (counts : List ℕ) : Type 0 where
  pub each : (sites : List PinNo) → AreSites graph sites → length counts ≡ length sites * kinds
  pub chains : (sites : List PinNo) → AreSites graph sites → (site : ℕ) → site < length sites → chain_sum kinds counts site ≤ chain_limit
