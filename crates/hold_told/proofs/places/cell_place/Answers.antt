use Rattle.std.proofs.Common.{◌≡◌, subst}
use Rattle.std.specs.Prelude.{None}
use Rattle.hold_netlist.specs.Design.{Design}
use Rattle.hold_netlist.specs.Doubles.{first_double_name}
use Rattle.hold_told.specs.Places.{HasPin, IsNamedPin}
use Rattle.hold_told.proofs.EntryLemmas.{cell-place, found-names, off}
use Rattle.hold_told.proofs.places.cell_place.Goals as goal

pub returns-clause-some : goal.returns-clause-some
returns-clause-some c =
    let b = c.args.bound.now in
    let inst = c.args.inst.now in
    let names = subst (λ (d : Design). first_double_name d ≡ None) c.netlist.ensures c.know_valid.ensures.names in
    cell-place b names 0 inst c.args.from.now c.args.to.now c.args.span c.pin-from.result c.pin-to.result c.has_clock-clocked.result
    (found-names (HasPin b inst c.args.from.now) (IsNamedPin b.netlist.insts inst c.args.from.now) c.pin-from.result c.pin-from.ensures.found (λ none. off (c.if-is_nothing.ensures.1 none)))
    (found-names (HasPin b inst c.args.to.now) (IsNamedPin b.netlist.insts inst c.args.to.now) c.pin-to.result c.pin-to.ensures.found (λ none. off (c.if-is_nothing-2.ensures.1 none)))
    c.has_clock-clocked.ensures c.pin-to.ensures.within
