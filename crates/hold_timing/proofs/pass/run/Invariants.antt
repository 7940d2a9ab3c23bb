use Rattle.std.proofs.Common.{◌≡◌, ℕ, ◌+◌, ◌*◌, List, length}
use Rattle.hold_base.specs.declared.number.PinNo.{PinNo}
use Rattle.hold_graph.specs.SitePins.{AreSites}
use Rattle.hold_graph.specs.Sites.{buffers_of}
use Rattle.hold_timing.specs.inner.Pass.{step_limit, AreWithin}
use Rattle.hold_timing.proofs.Passed.{IsPassed}
use Rattle.hold_timing.proofs.pass.run.Given as goal

abbrev pub invariant-loop-pin : goal.invariant-loop-pin
invariant-loop-pin l = record {
  len : length l.arrivals.items ≡ l.problem.graph.pins;
  within : AreWithin (step_limit * (l.pin-index + 1)) l.arrivals.items;
  passed : (sites : List PinNo) → AreSites l.problem.graph sites →
      IsPassed l.side l.problem.graph l.spans (buffers_of (length l.problem.costs) sites l.counts) l.order l.pin-index l.arrivals.items;
}
