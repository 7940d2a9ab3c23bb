use Rattle.std.proofs.Common.{◌≡◌, ℕ, List, ◌||◌, drop}
use Rattle.hold_netlist.specs.Names.{is_among}
use Rattle.hold_job.proofs.name_set.set_of.Given as goal

-- each name is in the set or left
abbrev pub invariant-loop-name : goal.invariant-loop-name
invariant-loop-name l = (n : List ℕ) → (is_among n l.set || is_among n (drop l.name-index l.names)) ≡ is_among n l.names
