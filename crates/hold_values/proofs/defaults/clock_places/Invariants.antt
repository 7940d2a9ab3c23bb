use Rattle.std.proofs.Common.{drop}
use Rattle.hold_build.proofs.NameLemmas.{IsNamedUpTo}
use Rattle.hold_values.specs.inner.Keys.{clock_names}
use Rattle.hold_values.proofs.defaults.clock_places.Given as goal

-- the table and what is left tell the places of all
abbrev pub invariant-loop-place : goal.invariant-loop-place
invariant-loop-place l = IsNamedUpTo (clock_names l.clocks) (clock_names (drop l.place l.clocks)) l.place l.places
