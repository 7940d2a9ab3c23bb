use Rattle.std.proofs.Common.{◌≡◌, ◌<◌, length, drop, get_or}
use Rattle.std.specs.Prelude.{None}
use Rattle.hold_base.specs.declared.number.PinNo.{PinNo}
use Rattle.hold_graph.specs.Sums.{items_at}
use Rattle.hold_graph.specs.inner.Arrival.{least_from, least_at}
use Rattle.hold_graph.proofs.table.least_by_pin.Given as goal

abbrev pub invariant-loop-place : goal.invariant-loop-place
invariant-loop-place l = record {
  len : length l.table.items ≡ l.pins;
  rest : (pin : PinNo) → pin.0 < l.pins →
      least_from (get_or l.table.items pin.0 None) (items_at (drop l.place l.listed) (drop l.place l.numbers) pin) ≡ least_at l.listed l.numbers pin;
}
