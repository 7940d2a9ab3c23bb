use Rattle.std.proofs.Common.{drop}
use Rattle.hold_build.proofs.NameLemmas.{IsNamedUpTo}
use Rattle.hold_values.specs.inner.Keys.{arc_texts}
use Rattle.hold_values.proofs.defaults.arc_places.Given as goal

-- the table and what is left tell the places of all
abbrev pub invariant-loop-place : goal.invariant-loop-place
invariant-loop-place l = IsNamedUpTo (arc_texts l.arcs) (arc_texts (drop l.place l.arcs)) l.place l.places
