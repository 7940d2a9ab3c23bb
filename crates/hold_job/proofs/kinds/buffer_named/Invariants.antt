use Rattle.std.proofs.Common.{◌≡◌, drop}
use Rattle.hold_job.specs.Entries.{buffer_named}
use Rattle.hold_job.specs.inner.Listed.{cells_in}
use Rattle.hold_job.proofs.kinds.buffer_named.Given as goal

-- what is left has the first buffer of that name of all
abbrev pub invariant-loop-listed : goal.invariant-loop-listed
invariant-loop-listed l = buffer_named (cells_in (drop l.listed-index l.types)) l.name ≡ buffer_named (cells_in l.types) l.name
