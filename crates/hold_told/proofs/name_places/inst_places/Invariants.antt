use Rattle.std.proofs.Common.{drop}
use Rattle.hold_told.specs.inner.Names.{inst_names}
use Rattle.hold_build.proofs.NameLemmas.{IsNamedUpTo}
use Rattle.hold_told.proofs.name_places.inst_places.Given as goal

-- the table and what is left tell the places of all
abbrev pub invariant-loop-place : goal.invariant-loop-place
invariant-loop-place l = IsNamedUpTo (inst_names l.insts) (inst_names (drop l.place l.insts)) l.place l.places
