use Rattle.std.proofs.Common.{◌≡◌, ℕ, ◌+◌, ◌<◌, length, take, get_or}
use Rattle.hold_graph.specs.inner.Waiting.{ends_among, IsReady, GoesOn}
use Rattle.hold_graph.proofs.topological.work_off.Given as goal

abbrev pub invariant-loop-place : goal.invariant-loop-place
invariant-loop-place l = record {
  each : length l.counts.items ≡ length l.fn.counts.items;
  taken : (pin : ℕ) → pin < length l.fn.counts.items →
      get_or l.counts.items pin 0 + ends_among l.arcs (take l.place-index l.leaving) pin ≡ get_or l.fn.counts.items pin 0;
  ready : IsReady l.counts.items l.order.items;
  behind : GoesOn l.fn.order.items l.order.items;
}
