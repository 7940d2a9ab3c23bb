use Rattle.std.proofs.Common.{◌≡◌, ◌++◌, drop}
use Rattle.hold_values.specs.inner.Keys.{ended}
use Rattle.hold_values.proofs.keys.put_ended.Given as goal

abbrev pub invariant-loop-byte : goal.invariant-loop-byte
invariant-loop-byte l = l.key.items ++ ended (drop l.byte-index l.name) ≡ l.fn.key.items ++ ended l.name
