-- AreSized line tables: there is a number for each arc, and one or none for each pin, and all but the starts are in
--   their limits.
-- AreTablesOf side parts spans line tables: what the tables of one side of a corner hold: the weight of each arc, and
--   what `AreTables` says of the rest.
use Rattle.std.specs.Prelude.{◌≡◌, length, map, All}
use Rattle.hold_base.specs.declared.time.Side.{Side}
use Rattle.hold_graph.specs.declared.graph.Parts.{Parts}
use Rattle.hold_graph.specs.declared.line.Ordered.{Ordered}
use Rattle.hold_graph.specs.declared.problem.Spans.{Spans}
use Rattle.hold_graph.specs.declared.tables.Tables.{Tables}
use Rattle.hold_graph.specs.Problem.{IsWithin}
use Rattle.hold_base.specs.Limits.{launch_limit}
use Rattle.hold_graph.specs.inner.Arrival.{weight, sum_limit, AreWithin, AreTables}

pub record AreSized (line : Ordered) (tables : Tables) : Type 0 where
  pub steps_each : length tables.steps.items ≡ length line.arcs.now
  pub starts_each : length tables.starts.items ≡ line.pins
  pub best_each : length tables.best.items ≡ line.pins
  pub ends_each : length tables.ends.items ≡ line.pins
  pub checks_each : length tables.checks.items ≡ line.pins
  pub steps : All (IsWithin launch_limit) tables.steps.items
  pub best : AreWithin sum_limit tables.best.items
  pub ends : AreWithin launch_limit tables.ends.items
  pub checks : AreWithin launch_limit tables.checks.items

pub record AreTablesOf (side : Side) (parts : Parts) (spans : Spans) (line : Ordered) (tables : Tables) : Type 0 where
  pub steps : tables.steps.items ≡ map (weight side) spans.arcs
  pub each : AreTables side parts spans line.into.now tables.starts.items tables.best.items tables.ends.items tables.checks.items
