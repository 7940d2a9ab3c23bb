use Rattle.std.proofs.Common.{◌≡◌, ◌++◌, map, flat_map}
use Rattle.hold_job.proofs.reader.types_apart.Given as goal

-- what was taken apart and what is left is all
abbrev pub invariant-loop-listed : goal.invariant-loop-listed
invariant-loop-listed l = record {
  cells : l.cells.items ++ map (λ t. t.cell) l.listed-iterator.rest.items ≡ map (λ t. t.cell) l.fn.types;
  arcs : l.arcs.items ++ flat_map (λ t. t.arcs) l.listed-iterator.rest.items ≡ flat_map (λ t. t.arcs) l.fn.types;
  checks : l.checks.items ++ flat_map (λ t. t.checks) l.listed-iterator.rest.items ≡ flat_map (λ t. t.checks) l.fn.types;
}
