use Rattle.std.proofs.Common.{◌≡◌, ◌++◌, ◌∷◌, ℕ, List, drop, map}
use Rattle.hold_vparse.specs.inner.Index.{at_place}
use Rattle.hold_vparse.specs.Lines.{bounds_of, header_line, next_lines}
use Rattle.hold_vparse.specs.inner.Ranges.{port_ranges}
use Rattle.hold_vparse.proofs.range_places.declared_places.Given as goal

abbrev pub invariant-loop-port : goal.invariant-loop-port
invariant-loop-port l = (more : List (ℕ × ℕ)) → map (at_place (l.table ++ more)) l.list.items ++ port_ranges (next_lines l.first.direction (at_place (l.table ++ more) l.place) (drop l.port-index l.rest))
    ≡ port_ranges (header_line l.first ∷ next_lines l.first.direction (bounds_of l.first.range) l.rest)
