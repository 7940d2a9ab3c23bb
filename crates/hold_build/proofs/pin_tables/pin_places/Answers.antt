use Rattle.std.proofs.Common.{◌∷◌, ◌+◌, ◌∙◌, ap, drop, subst, sym}
use Rattle.hold_base.proofs.Lists.{drop-here}
use Rattle.hold_netlist.specs.Names.{pin_names}
use Rattle.hold_build.proofs.NameLemmas.{IsNamedUpTo, named-next, named-none}
use Rattle.hold_build.proofs.pin_tables.pin_places.Goals as goal

pub loop-place-init : goal.loop-place-init
loop-place-init c = subst (IsNamedUpTo (pin_names c.args.pins.now) (pin_names c.args.pins.now) 0) (sym c.new-places.ensures) (named-none (pin_names c.args.pins.now))

pub loop-place-preserved : goal.loop-place-preserved
loop-place-preserved c =
    named-next (pin_names c.args.pins.now) (pin_names (drop c.loop-place.place c.args.pins.now)) (pin_names (drop (c.loop-place.place + 1) c.args.pins.now))
    c.bytes.result.now c.loop-place.place c.loop-place.places c.add.new.self c.in_ok-_is_new._is_new
    (ap pin_names (drop-here c.args.pins.now c.loop-place.place c.index-pins-place.result c.loop-place-test.true c.index-pins-place.is)
    ∙ ap (λ n. n ∷ pin_names (drop (c.loop-place.place + 1) c.args.pins.now)) (sym c.bytes.ensures))
    c.in_ok-_is_new.ensures.new c.in_ok-_is_new.ensures.added c.loop-place.invariant
