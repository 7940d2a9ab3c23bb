use Rattle.std.proofs.Common.{drop}
use Rattle.hold_build.proofs.NameLemmas.{IsNamedUpTo}
use Rattle.hold_values.specs.inner.Keys.{check_texts}
use Rattle.hold_values.proofs.defaults.check_places.Given as goal

-- the table and what is left tell the places of all
abbrev pub invariant-loop-place : goal.invariant-loop-place
invariant-loop-place l = IsNamedUpTo (check_texts l.checks) (check_texts (drop l.place l.checks)) l.place l.places
