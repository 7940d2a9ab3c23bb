use Rattle.std.proofs.Common.{◌++◌, [], refl}
use Rattle.hold_vparse.specs.Lines.{wire_lines, wires_of_item}
use Rattle.hold_vparse.specs.inner.Ranges.{wire_ranges}
use Rattle.hold_vparse.proofs.PlaceLemmas.{Grows-both, places_step, places_end, wire_ranges-cons}
use Rattle.hold_vparse.proofs.range_places.wire_places.Goals as goal

pub loop-item-preserved : goal.loop-item-preserved
loop-item-preserved c = record {
  grown = Grows-both c.args.table.now c.loop-item.table c.add_wire_places.new.table c.loop-item.invariant.grown c.in_ok-add_wire_places.ensures.grown;
  places = places_step (λ is. wire_ranges (wire_lines is)) (λ i. wire_ranges (wires_of_item i)) refl wire_ranges-cons c.loop-item.table c.add_wire_places.new.table
      [] c.loop-item.list.items c.add_wire_places.new.list.items c.args.items.now c.loop-item.item-index c.item-item.result _ c.loop-item-test.true c.item-item.is
      c.in_ok-add_wire_places.ensures.grown c.in_ok-add_wire_places.ensures.places c.loop-item.invariant.places;
}

pub returns-clause-places : goal.returns-clause-places
returns-clause-places c = record {
  behind = λ more.
      places_end (λ is. wire_ranges (wire_lines is)) (λ i. wire_ranges (wires_of_item i)) refl wire_ranges-cons (c.loop-item.table ++ more) c.loop-item.list.items c.args.items.now c.loop-item.item-index _
      c.loop-item-test.false (c.loop-item.invariant.places more);
}
