use Rattle.std.proofs.Common.{◌≡◌, ◌++◌, drop}
use Rattle.hold_sdflex.specs.Backslashes.{plain_behind, plain}
use Rattle.hold_sdflex.proofs.backslash.plain_bytes.Given as goal

abbrev pub invariant-loop-byte : goal.invariant-loop-byte
invariant-loop-byte l = l.text.items ++ plain_behind l.taken (drop l.byte-index l.bytes) ≡ plain l.bytes
