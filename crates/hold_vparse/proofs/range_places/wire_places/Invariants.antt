use Rattle.std.proofs.Common.{◌≡◌, ◌++◌, ℕ, List, drop, map}
use Rattle.hold_vparse.specs.inner.Bounds.{Grows}
use Rattle.hold_vparse.specs.inner.Index.{at_place}
use Rattle.hold_vparse.specs.Lines.{wire_lines}
use Rattle.hold_vparse.specs.inner.Ranges.{wire_ranges}
use Rattle.hold_vparse.proofs.range_places.wire_places.Given as goal

abbrev pub invariant-loop-item : goal.invariant-loop-item
invariant-loop-item l = record {
  grown : Grows l.fn.table l.table;
  places : (more : List (ℕ × ℕ)) → map (at_place (l.table ++ more)) l.list.items ++ wire_ranges (wire_lines (drop l.item-index l.items)) ≡ wire_ranges (wire_lines l.items);
}
