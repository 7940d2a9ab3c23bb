use Rattle.std.proofs.Common.{◌≡◌, length}
use Rattle.hold_vsyntax.specs.inner.Reading.{with_front, connection_at, more_of}
use Rattle.hold_vsyntax.specs.Symbols.{symbols}
use Rattle.hold_vsyntax.proofs.instances.more_connections.Given as goal

-- what is read in all is what was read, and then what is read on
abbrev pub invariant-loop-alloc : goal.invariant-loop-alloc
invariant-loop-alloc l = with_front l.list.items (more_of connection_at (symbols l.reader)) ≡ with_front l.fn.list.items (more_of connection_at (symbols l.fn.reader))

abbrev pub decreases-loop-alloc : goal.decreases-loop-alloc
decreases-loop-alloc l = length (symbols l.reader)
