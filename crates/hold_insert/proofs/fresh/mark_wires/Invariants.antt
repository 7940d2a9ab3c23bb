use Rattle.std.proofs.Common.{◌≡◌, ℕ, List, ◌++◌, length, take}
use Rattle.hold_netlist.specs.Names.{wire_names}
use Rattle.hold_insert.specs.inner.Used.{AreUsed}
use Rattle.hold_insert.proofs.fresh.mark_wires.Given as goal

abbrev pub invariant-loop-wire : goal.invariant-loop-wire
invariant-loop-wire l = record {
  used : (names : List (List ℕ)) → AreUsed names l.fn.used.items → AreUsed (names ++ wire_names (take l.wire-index l.wires)) l.used.items;
  len : length l.used.items ≡ length l.fn.used.items;
}
