-- IfKnown P a: what a holds, if anything, has the property.
-- IsCheckInLimit check: setup and hold are within the limit of 10 us.
-- KeepsCellLimits cell: the same of each arc and each check of a cell.
-- KeepsLimits timing: the same of all that is known of time; the period is from 1 fs to 10 us.
use Rattle.std.specs.Prelude.{All, Option, Some, None, pos, ◌≤ℤ◌}
use Rattle.hold_graph.specs.Problem.{IsSpan, IsWithin}
use Rattle.hold_base.specs.Limits.{time_limit}
use Rattle.hold_plain.specs.declared.cell.Cell.{Cell}
use Rattle.hold_plain.specs.declared.cell.Check.{Check}
use Rattle.hold_plain.specs.declared.timing.Timing.{Timing}

pub record IsCheckInLimit (check : Check) : Type 0 where
  pub setup : IsWithin time_limit check.setup
  pub hold : IsWithin time_limit check.hold

abbrev pub IfKnown : {A : Type 0} → (A → Type 0) → Option A → Type 0
IfKnown P None = Unit {0}
IfKnown P (Some a) = P a

pub record KeepsCellLimits (cell : Cell) : Type 0 where
  pub arcs : All (λ arc. IsSpan time_limit arc.span) cell.arcs
  pub checks : All (λ entry. IsCheckInLimit entry.check) cell.checks

pub record KeepsLimits (timing : Timing) : Type 0 where
  pub period_least : pos 1 ≤ℤ timing.period
  pub period_greatest : timing.period ≤ℤ pos time_limit
  pub arrival : IfKnown (IsSpan time_limit) timing.arrival
  pub cells : All KeepsCellLimits timing.cells
  pub clocks : All (λ clock. IsSpan time_limit clock.arrival) timing.clocks
