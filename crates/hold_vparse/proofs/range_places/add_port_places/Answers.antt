use Rattle.hold_vparse.proofs.PlaceLemmas.{ports_placed}
use Rattle.hold_vparse.proofs.range_places.add_port_places.Goals as goal

pub returns-in_ok-add_for_each-clause-places : goal.returns-in_ok-add_for_each-clause-places
returns-in_ok-add_for_each-clause-places c =
    ports_placed c.note.new.self c.args.list.now.items c.add_for_each.new.list.items c.in_ok-place.place c.as_ref.result c.in-Ports.ports c.args.item.now
    c.in_ok-place.ensures.place c.as_ref.ensures.value c.in_ok-add_for_each.ensures c.in-Ports.is
