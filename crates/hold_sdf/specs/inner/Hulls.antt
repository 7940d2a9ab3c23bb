-- Times as they are read one by one.
--
-- number_at power w: the time of an atom; the fault where it has none. time_or time at: the time, or the fault at this place.
-- widened so_far found: the hull of so_far and of the times found.
-- hulled power so_far numbers: the hull of so_far and of these atoms' times; the fault at the first that has none.
use Rattle.std.specs.Prelude.{ℕ, List, Option, Some, None, Result, Ok, Err, fold}
use Rattle.hold_base.specs.declared.time.Interval.{Interval}
use Rattle.hold_base.specs.Interval.{hull}
use Rattle.hold_sdflex.specs.Items.{Word}
use Rattle.hold_sdf.specs.declared.fault.SdfFault.{SdfFault}
use Rattle.hold_sdf.specs.declared.fault.SdfFault.TheVariants.{Number}
use Rattle.hold_sdf.specs.Times.{time_of}
use Rattle.hold_sdf.specs.Entries.{and_then, times, span_of}

abbrev pub time_or : Option Interval → ℕ → Result Interval SdfFault
time_or None at = Err (Number at)
time_or (Some time) at = Ok time

abbrev pub number_at : ℕ → Word → Result Interval SdfFault
number_at power w = time_or (time_of power w.bytes) w.at

abbrev pub widened : Option Interval → List Interval → Option Interval
widened None found = span_of found
widened (Some span) found = Some (fold hull span found)

abbrev pub hulled : ℕ → Option Interval → List Word → Result (Option Interval) SdfFault
hulled power so_far numbers = and_then (times power numbers) (λ found. Ok (widened so_far found))
