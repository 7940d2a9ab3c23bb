use Rattle.std.proofs.Common.{◌∷◌, ◌+◌, ◌∙◌, ap, drop, subst, sym}
use Rattle.hold_base.proofs.Lists.{drop-here}
use Rattle.hold_netlist.specs.Names.{port_names}
use Rattle.hold_build.proofs.NameLemmas.{IsNamedUpTo, named-next, named-none}
use Rattle.hold_told.proofs.name_places.port_places.Goals as goal

pub loop-place-init : goal.loop-place-init
loop-place-init c = subst (IsNamedUpTo (port_names c.args.ports.now) (port_names c.args.ports.now) 0) (sym c.new-places.ensures) (named-none (port_names c.args.ports.now))

pub loop-place-preserved : goal.loop-place-preserved
loop-place-preserved c =
    named-next (port_names c.args.ports.now) (port_names (drop c.loop-place.place c.args.ports.now)) (port_names (drop (c.loop-place.place + 1) c.args.ports.now))
    c.bytes.result.now c.loop-place.place c.loop-place.places c.add.new.self c.in_ok-_is_new._is_new
    (ap port_names (drop-here c.args.ports.now c.loop-place.place c.index-ports-place.result c.loop-place-test.true c.index-ports-place.is)
    ∙ ap (λ n. n ∷ port_names (drop (c.loop-place.place + 1) c.args.ports.now)) (sym c.bytes.ensures))
    c.in_ok-_is_new.ensures.new c.in_ok-_is_new.ensures.added c.loop-place.invariant
