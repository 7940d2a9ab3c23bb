use Rattle.std.proofs.Common.{◌≡◌, drop}
use Rattle.std.specs.List.{list_any}
use Rattle.hold_vparse.specs.inner.Flat.{net_wires}
use Rattle.hold_vparse.specs.NameFaults.{has_large_bound}
use Rattle.hold_vparse.proofs.wire_list.has_large_bounds.Given as goal

abbrev pub invariant-loop-wire : goal.invariant-loop-wire
invariant-loop-wire l = list_any has_large_bound (net_wires (drop l.wire-index l.wires)) ≡ list_any has_large_bound (net_wires l.wires)
