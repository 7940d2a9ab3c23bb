use Rattle.std.proofs.Common.{◌≡◌, ◌+◌, ◌*◌, drop}
use Rattle.std.specs.Prelude.{slice_index, ◌+ℤ◌}
use Rattle.hold_base.specs.Limits.{chain_limit, time_limit}
use Rattle.hold_graph.specs.Problem.{IsWithin}
use Rattle.hold_graph.specs.Sums.{added_from}
use Rattle.hold_timing.proofs.added.added_from.Given as goal

abbrev pub invariant-loop-kind : goal.invariant-loop-kind
invariant-loop-kind l = record {
  value : l.sum +ℤ added_from l.side l.kind (drop l.kind l.kinds) (λ kind. slice_index l.counts (l.first + kind))
      ≡ added_from l.side 0 l.kinds (λ kind. slice_index l.counts (l.first + kind));
  within : IsWithin (l.kind * (chain_limit * time_limit)) l.sum;
}
