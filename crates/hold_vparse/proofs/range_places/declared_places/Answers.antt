use Rattle.std.proofs.Common.{◌∷◌, ◌++◌, [], ap, ◌∙◌}
use Rattle.hold_vparse.proofs.PlaceLemmas.{header_start, header_step, header_end}
use Rattle.hold_vparse.proofs.range_places.declared_places.Goals as goal

pub loop-port-init : goal.loop-port-init
loop-port-init c = header_start c.note.new.self c.in_ok-place.place c.as_ref.result c.args.first.now c.push.new.self.items c.args.rest.now c.in_ok-place.ensures.place c.as_ref.ensures.value
    (c.in_ok-push.ensures.items ∙ ap (λ l. l ++ c.in_ok-place.place ∷ []) c.new-list.ensures.items)

pub loop-port-preserved : goal.loop-port-preserved
loop-port-preserved c =
    header_step c.loop-port.table c.next_place.new.table c.loop-port.list.items c.push-in-loop-port.new.self.items c.loop-port.place c.in_ok-place-2.place c.args.first.now.direction c.args.rest.now c.loop-port.port-index c.port-item.result _
    c.loop-port-test.true c.port-item.is c.in_ok-place-2.ensures.grown c.in_ok-place-2.ensures.place c.in_ok-push-2.ensures.items c.loop-port.invariant

pub returns : goal.returns
returns c = header_end c.loop-port.table c.loop-port.list.items c.loop-port.place c.args.first.now.direction c.args.rest.now c.loop-port.port-index _ c.loop-port-test.false c.loop-port.invariant
