-- What finds the bits of ports by their texts.
--
-- IsPortNamed d name k: wire k is a port's, and has that name.
-- IsIndexOf left right bit index: the range has the index, and the bit of it is so far from the left bound.
-- IsRangedBit d text net: the text is the name of a port that is a vector and the index of its bit, which the net bit is.
use Rattle.std.specs.Prelude.{◌≡◌, ℕ, ◌+◌, ◌-◌, ◌<◌, List, ◌++◌, length, Some, slice_get, nat_lt, if◌then◌else◌}
use Rattle.hold_netlist.specs.declared.wire.Wire.{Wire}
use Rattle.hold_netlist.specs.Bits.{width_of, width_of_range}
use Rattle.hold_netlist.specs.Design.{Design}
use Rattle.hold_netlist.specs.Numbering.{first_of}
use Rattle.hold_told.specs.inner.Indexed.{index}

pub record IsPortNamed (d : Design) (name : List ℕ) (k : ℕ) : Type 0 where
  pub wire : Wire
  pub of_port : k < length d.ports
  pub at : slice_get d.wires k ≡ Some wire
  pub named : wire.name ≡ name

pub record IsIndexOf (left right bit number : ℕ) : Type 0 where
  pub within : bit < width_of_range (Some (left, right))
  pub is : number ≡ (if nat_lt left right then left + bit else left - bit)

pub record IsRangedBit (d : Design) (text : List ℕ) (net : ℕ) : Type 0 where
  pub name : List ℕ
  pub place : ℕ
  pub port : IsPortNamed d name place
  pub range : ℕ × ℕ
  pub ranged : port.wire.range ≡ Some range
  pub bit : ℕ
  pub number : ℕ
  pub is_index : IsIndexOf range.0 range.1 bit number
  pub said : text ≡ name ++ index number
  pub is_bit : net ≡ first_of width_of d.wires place + bit
