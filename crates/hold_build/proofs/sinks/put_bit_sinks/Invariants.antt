use Rattle.std.proofs.Common.{◌≡◌, ◌+◌, ◌-◌, ◌++◌, map}
use Rattle.std.specs.List.{range_with_len}
use Rattle.hold_build.specs.inner.Sinks.{bit_sink}
use Rattle.hold_build.proofs.sinks.put_bit_sinks.Given as goal

-- what is left makes the list of all
abbrev pub invariant-loop-n : goal.invariant-loop-n
invariant-loop-n l = l.out.items ++ map (bit_sink l.fn.first) (range_with_len (l.fn.from + l.n) (l.fn.width - l.n)) ≡ l.fn.out.items ++ map (bit_sink l.fn.first) (range_with_len l.fn.from l.fn.width)
