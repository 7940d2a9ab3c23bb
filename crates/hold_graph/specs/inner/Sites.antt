-- AreSiteMarks parts marks: the marks tell of each pin whether a launch leads to it, whether it leads to a capture or to a clock
--   pin, and whether it is kept.
-- is_open marks pin: whether the pin leads to a capture and to no clock pin, and is not kept.
-- is_led_wire launched arc: whether the arc is a wire that begins at a marked pin.
-- any_led_wire launched arcs places: whether some arc at one of the places is.
-- IsSiteCount parts n: the parts have so many sites.
-- AreSitesBelow parts n sites: the sites among the first n pins, in pin order, each once.
-- IsSiteTable sites table: by pin, its place among the sites, none of a pin that is no site.
use Rattle.std.specs.Prelude.{◌≡◌, ℕ, ◌<◌, Bool, false, ◌&&◌, not, List, length, Option, Some, None, slice_get, slice_index_or, Contains, All}
use Rattle.std.specs.List.{list_any}
use Rattle.hold_base.specs.declared.number.PinNo.{PinNo}
use Rattle.hold_base.specs.declared.number.SiteNo.{SiteNo}
use Rattle.hold_graph.specs.declared.graph.Arc.{Arc}
use Rattle.hold_graph.specs.declared.graph.Parts.{Parts}
use Rattle.hold_graph.specs.declared.site.SiteMarks.{SiteMarks}
use Rattle.hold_graph.specs.SitePins.{IsSite, AreSites}
use Rattle.hold_graph.specs.inner.Marks.{AreExact, AreFlags, LeadsTo, IsLedTo}

pub record AreSiteMarks (parts : Parts) (marks : SiteMarks) : Type 0 where
  pub launched : AreExact parts.pins (IsLedTo parts.arcs parts.launches) marks.launched.items
  pub captured : AreExact parts.pins (LeadsTo parts.arcs parts.captures) marks.captured.items
  pub clocked : AreExact parts.pins (LeadsTo parts.arcs parts.clocks) marks.clocked.items
  pub kept : AreFlags parts.pins parts.keeps marks.kept.items

abbrev pub is_open : SiteMarks → PinNo → Bool
is_open marks pin =
    slice_index_or marks.captured.items pin.0 false
    && (not (slice_index_or marks.clocked.items pin.0 false) && not (slice_index_or marks.kept.items pin.0 false))

abbrev pub is_led_wire : List Bool → Option Arc → Bool
is_led_wire launched None = false
is_led_wire launched (Some arc) = arc.wire && slice_index_or launched arc.from.0 false

abbrev pub any_led_wire : List Bool → List Arc → List ℕ → Bool
any_led_wire launched arcs places = list_any (λ place. is_led_wire launched (slice_get arcs place)) places

pub record IsSiteCount (parts : Parts) (n : ℕ) : Type 0 where
  pub sites : List PinNo
  pub are : AreSites parts sites
  pub count : n ≡ length sites

pub record AreSitesBelow (parts : Parts) (n : ℕ) (sites : List PinNo) : Type 0 where
  pub sound : All (IsSite parts) sites
  pub below : All (λ pin. pin.0 < n) sites
  pub whole : (pin : PinNo) → IsSite parts pin → pin.0 < n → Contains sites pin
  pub rising : (j k : ℕ) (a b : PinNo) → j < k → slice_get sites j ≡ Some a → slice_get sites k ≡ Some b → a.0 < b.0

pub record IsSiteTable (sites : List PinNo) (table : List (Option SiteNo)) : Type 0 where
  pub tells : (pin : ℕ) (site : SiteNo) → slice_index_or table pin None ≡ Some site → slice_get sites site.0 ≡ Some (record { 0 = pin })
  pub each : (k : ℕ) (pin : PinNo) → slice_get sites k ≡ Some pin → slice_index_or table pin.0 None ≡ Some (record { 0 = k })
