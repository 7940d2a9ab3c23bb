-- status_of: the exit status of an outcome. 0 says that the work was done, 3 that an input is refused, 4 that a file can't be
-- read, 5 that a file or the line can't be written, 6 want of memory, 7 that the words are no command, and 9 that a path needs padding.
-- complaint_of: what standard error is told of an outcome that says no line: a file that can't be read or written, or want of memory. Nothing
--   of any other.
-- GivesUp: the outcome is one that may come in the place of a command's other answers: a file that fails, or want of memory.
use Rattle.std.specs.Prelude.{ℕ, List, Option, Some, None, codes}
use Rattle.hold_cli.specs.declared.outcome.Outcome.{Outcome}
use Rattle.hold_cli.specs.declared.outcome.Outcome.TheVariants.{Repaired, NeedsPadding, Input, ReadFault, WriteFault, Memory, Words}

-- the exit status
abbrev pub status_of : Outcome → ℕ
status_of (Repaired cost) = 0
status_of (Input fault) = 3
status_of (ReadFault file) = 4
status_of WriteFault = 5
status_of Memory = 6
status_of Words = 7
status_of (NeedsPadding path short) = 9

-- what standard error is told
abbrev pub complaint_of : Outcome → Option (List ℕ)
complaint_of (ReadFault file) = Some (codes "read fault")
complaint_of WriteFault = Some (codes "write fault")
complaint_of Memory = Some (codes "want of memory")
complaint_of (Repaired cost) = None
complaint_of (NeedsPadding path short) = None
complaint_of (Input fault) = None
complaint_of Words = None

-- a file or the output failed, or memory ran out
abbrev pub GivesUp : Outcome → Type 0
GivesUp (ReadFault file) = Unit {0}
GivesUp WriteFault = Unit {0}
GivesUp Memory = Unit {0}
GivesUp (Repaired cost) = ⊥
GivesUp (NeedsPadding path short) = ⊥
GivesUp (Input fault) = ⊥
GivesUp Words = ⊥
