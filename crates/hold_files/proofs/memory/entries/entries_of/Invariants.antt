use Rattle.std.proofs.Common.{◌≡◌, ℕ, List}
use Rattle.std.specs.Option.{option_or}
use Rattle.hold_files.specs.Memory.{entry_of}
use Rattle.hold_files.specs.inner.Entries.{entry_in_texts}
use Rattle.hold_files.proofs.memory.entries.entries_of.Given as goal

abbrev pub invariant-loop-name : goal.invariant-loop-name
invariant-loop-name l = (q : List ℕ) → option_or (entry_of l.entries q) (entry_in_texts q l.name-iterator.rest.items) ≡ entry_in_texts q l.fn.texts.items
