use Rattle.std.proofs.Common.{◌≡◌, ℕ, List}
use Rattle.hold_files.specs.Memory.{entry_of}
use Rattle.hold_files.specs.inner.Entries.{entry_with_outputs}
use Rattle.hold_files.proofs.memory.entries.add_outputs.Given as goal

abbrev pub invariant-loop-name : goal.invariant-loop-name
invariant-loop-name l = (q : List ℕ) → entry_with_outputs q l.name-iterator.rest.items l.room (entry_of l.entries q) ≡ entry_with_outputs q l.fn.outputs.items l.room (entry_of l.fn.entries q)
