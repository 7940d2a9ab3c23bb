use Rattle.hold_vparse.proofs.PlaceLemmas.{wires_placed}
use Rattle.hold_vparse.proofs.range_places.add_wire_places.Goals as goal

pub returns-in_ok-add_for_each-clause-places : goal.returns-in_ok-add_for_each-clause-places
returns-in_ok-add_for_each-clause-places c =
    wires_placed c.note.new.self c.args.list.now.items c.add_for_each.new.list.items c.in_ok-place.place c.as_ref.result c.in-Wires.wires c.args.item.now
    c.in_ok-place.ensures.place c.as_ref.ensures.value c.in_ok-add_for_each.ensures c.in-Wires.is
