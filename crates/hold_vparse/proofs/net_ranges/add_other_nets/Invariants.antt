use Rattle.std.proofs.Common.{◌≡◌, drop}
use Rattle.hold_vparse.specs.inner.Flat.{seen_wires}
use Rattle.hold_vparse.specs.Nets.{names}
use Rattle.hold_vparse.specs.inner.Ranges.{with_nets, other_ranges}
use Rattle.hold_vparse.proofs.net_ranges.add_other_nets.Given as goal

abbrev pub invariant-loop-number : goal.invariant-loop-number
invariant-loop-number l = with_nets l.ranges (other_ranges (names l.header) (seen_wires (drop l.number l.lines))) ≡ with_nets l.fn.ranges (other_ranges (names l.header) (seen_wires l.lines))
