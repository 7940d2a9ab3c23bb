use Rattle.std.proofs.Common.{◌≡◌, ◌++◌, map, drop}
use Rattle.std.specs.Prelude.{All}
use Rattle.hold_graph.specs.Problem.{IsWithin}
use Rattle.hold_timing.specs.Worst.{required_at}
use Rattle.hold_timing.specs.inner.Pass.{required_limit}
use Rattle.hold_timing.proofs.required.required_times.Given as goal

abbrev pub invariant-loop-capture : goal.invariant-loop-capture
invariant-loop-capture l = record {
  each : l.required.items ++ map (required_at l.side l.problem l.spans) (drop l.capture-index l.captures)
      ≡ map (required_at l.side l.problem l.spans) l.captures;
  within : All (IsWithin required_limit) l.required.items;
}
