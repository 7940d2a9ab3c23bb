use Rattle.std.proofs.Common.{◌≡◌, ◌++◌, ℕ, List, drop, map}
use Rattle.hold_vparse.specs.inner.Bounds.{Grows}
use Rattle.hold_vparse.specs.inner.Index.{at_place}
use Rattle.hold_vparse.specs.Lines.{body_lines}
use Rattle.hold_vparse.specs.inner.Ranges.{port_ranges}
use Rattle.hold_vparse.proofs.range_places.add_body_places.Given as goal

abbrev pub invariant-loop-item : goal.invariant-loop-item
invariant-loop-item l = record {
  grown : Grows l.fn.table l.table;
  places : (more : List (ℕ × ℕ)) → map (at_place (l.table ++ more)) l.list.items ++ port_ranges (body_lines (drop l.item-index l.items)) ≡ map (at_place (l.table ++ more)) l.fn.list.items ++ port_ranges (body_lines l.items);
}
