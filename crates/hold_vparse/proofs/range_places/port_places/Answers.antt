use Rattle.hold_vparse.proofs.PlaceLemmas.{ports_whole}
use Rattle.hold_vparse.proofs.range_places.port_places.Goals as goal

pub returns : goal.returns
returns c =
    ports_whole c.args.header.now c.args.items.now c.header_places.new.table c.add_body_places.new.table c.in_ok-list.list.items c.add_body_places.new.list.items
    c.in_ok-list.ensures c.in_ok-add_body_places.ensures.grown c.in_ok-add_body_places.ensures.places
