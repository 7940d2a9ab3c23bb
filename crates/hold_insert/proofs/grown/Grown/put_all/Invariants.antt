use Rattle.std.proofs.Common.{◌≡◌, ◌+◌, drop, length}
use Rattle.hold_netlist.specs.Bits.{bits_of}
use Rattle.hold_netlist.specs.Design.{Design}
use Rattle.hold_netlist.specs.Pins.{connection_count}
use Rattle.hold_insert.specs.Padded.{inserted}
use Rattle.hold_insert.specs.inner.Grown.{grown_design, insertions_of}
use Rattle.hold_insert.proofs.grown.Grown.put_all.Given as goal

-- what is left makes the netlist with all of them
abbrev pub invariant-loop-place : goal.invariant-loop-place
invariant-loop-place l = record {
  whole : (d : Design) → connection_count d.insts ≡ length l.initial.self.sources.items
      → inserted l.number l.place (insertions_of (drop l.place l.puts)) (grown_design d l.self) ≡ inserted l.number 0 (insertions_of l.puts) (grown_design d l.initial.self);
  sources : length l.self.sources.items ≡ length l.initial.self.sources.items;
  bits : bits_of l.self.wires.items ≡ l.bits + l.place;
}
