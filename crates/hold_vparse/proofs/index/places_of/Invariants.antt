use Rattle.std.proofs.Common.{◌≡◌, take}
use Rattle.hold_vparse.specs.inner.Flat.{targets}
use Rattle.hold_vparse.specs.inner.Index.{IsIndex}
use Rattle.hold_vparse.specs.Nets.{names}
use Rattle.hold_vparse.proofs.index.places_of.Given as goal

-- the table tells of those so far, and the next place is their count
abbrev pub invariant-loop-ident : goal.invariant-loop-ident
invariant-loop-ident l = record {
  index : IsIndex l.table (names (targets (take l.ident-index l.idents)));
  count : l.place ≡ l.ident-index;
}
