-- Words of the times that checks ask for. Nothing here is part of what a required time means.
--
-- opposite side: the other side.
-- or_zero time: a time, 0 where there is none.
-- check_at side parts spans pin: what the side's check takes at a capture: hold at the early side, setup at the late one.
-- asked side period clock check: the time that the check asks for, of when the clock comes and of what the check takes.
use Rattle.std.specs.Prelude.{Option, Some, None, ℤ, pos, ◌+ℤ◌, ◌-ℤ◌}
use Rattle.hold_base.specs.declared.number.PinNo.{PinNo}
use Rattle.hold_base.specs.declared.time.Side.{Side}
use Rattle.hold_base.specs.declared.time.Side.TheVariants.{Early, Late}
use Rattle.hold_graph.specs.declared.graph.Parts.{Parts}
use Rattle.hold_graph.specs.declared.problem.Spans.{Spans}
use Rattle.hold_graph.specs.Met.{setup_at, hold_at}

abbrev pub opposite : Side → Side
opposite Early = Late
opposite Late = Early

abbrev pub or_zero : Option ℤ → ℤ
or_zero None = pos 0
or_zero (Some time) = time

abbrev pub check_at : Side → Parts → Spans → PinNo → ℤ
check_at Early = hold_at
check_at Late = setup_at

abbrev pub asked : Side → ℤ → ℤ → ℤ → ℤ
asked Early period clock check = clock +ℤ check
asked Late period clock check = (period +ℤ clock) -ℤ check
