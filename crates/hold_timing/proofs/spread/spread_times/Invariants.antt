use Rattle.std.proofs.Common.{◌≡◌, ◌<◌, length, drop, get_or}
use Rattle.std.specs.Prelude.{None}
use Rattle.hold_base.specs.declared.number.PinNo.{PinNo}
use Rattle.hold_graph.specs.Sums.{end_of}
use Rattle.hold_timing.specs.inner.Pass.{spread}
use Rattle.hold_timing.proofs.spread.spread_times.Given as goal

abbrev pub invariant-loop-place : goal.invariant-loop-place
invariant-loop-place l = record {
  len : length l.table.items ≡ length l.fn.table.items;
  rest : (pin : PinNo) → pin.0 < length l.fn.table.items →
      spread l.side (λ time. time) (get_or l.table.items pin.0 None) (drop l.place l.listed) (drop l.place l.times) pin
      ≡ spread l.side (λ time. time) (get_or l.fn.table.items pin.0 None) l.listed l.times pin;
}
