use Rattle.std.proofs.Common.{◌≡◌, ◌+◌, ◌++◌, drop}
use Rattle.std.specs.Prelude.{slice_index}
use Rattle.hold_insert.specs.Chains.{chain_from, in_front_of}
use Rattle.hold_insert.specs.inner.Grown.{insertions_of}
use Rattle.hold_insert.proofs.puts.put_chain.Given as goal

-- what is left makes the whole chain
abbrev pub invariant-loop-k : goal.invariant-loop-k
invariant-loop-k l =
    insertions_of l.puts.items ++ in_front_of l.pin (chain_from l.k (drop l.k l.kinds) (λ kind. slice_index l.counts (l.first + kind)))
    ≡ insertions_of l.initial.puts.items ++ in_front_of l.pin (chain_from 0 l.kinds (λ kind. slice_index l.counts (l.first + kind)))
