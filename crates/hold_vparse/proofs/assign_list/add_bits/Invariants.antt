use Rattle.std.proofs.Common.{◌≡◌, ◌++◌, ◌+◌, ◌-◌, map}
use Rattle.std.specs.List.{range_with_len}
use Rattle.hold_vparse.specs.Declares.{tied_bits, net_bit}
use Rattle.hold_vparse.proofs.assign_list.add_bits.Given as goal

abbrev pub invariant-loop-bit : goal.invariant-loop-bit
invariant-loop-bit l = l.list.items ++ tied_bits (range_with_len (l.left.first + l.bit) (l.left.count - l.bit)) (map net_bit (range_with_len (l.right.first + l.bit) (l.left.count - l.bit)))
    ≡ l.fn.list.items ++ tied_bits (range_with_len l.left.first l.left.count) (map net_bit (range_with_len l.right.first l.right.count))
