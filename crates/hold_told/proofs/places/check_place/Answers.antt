use Rattle.hold_told.specs.Places.{HasPin, IsNamedPin}
use Rattle.hold_told.proofs.EntryLemmas.{check-place, found-names, off}
use Rattle.hold_told.proofs.places.check_place.Goals as goal

pub returns-clause-some : goal.returns-clause-some
returns-clause-some c =
    let b = c.args.bound.now in
    let inst = c.args.inst.now in
    check-place b 0 inst c.args.pin.now c.args.clock.now c.args.setup c.args.hold c.pin-pin.result
    (found-names (HasPin b inst c.args.pin.now) (IsNamedPin b.netlist.insts inst c.args.pin.now) c.pin-pin.result c.pin-pin.ensures.found (λ none. off (c.if-is_nothing.ensures.1 none)))
    c.pin-pin.ensures.within
