use Rattle.std.proofs.Common.{◌∷◌, ◌+◌, ◌∙◌, ap, drop, subst, sym}
use Rattle.hold_base.proofs.Lists.{drop-here}
use Rattle.hold_told.specs.inner.Names.{inst_names}
use Rattle.hold_build.proofs.NameLemmas.{IsNamedUpTo, named-next, named-none}
use Rattle.hold_told.proofs.name_places.inst_places.Goals as goal

pub loop-place-init : goal.loop-place-init
loop-place-init c = subst (IsNamedUpTo (inst_names c.args.insts.now) (inst_names c.args.insts.now) 0) (sym c.new-places.ensures) (named-none (inst_names c.args.insts.now))

pub loop-place-preserved : goal.loop-place-preserved
loop-place-preserved c =
    named-next (inst_names c.args.insts.now) (inst_names (drop c.loop-place.place c.args.insts.now)) (inst_names (drop (c.loop-place.place + 1) c.args.insts.now))
    c.bytes.result.now c.loop-place.place c.loop-place.places c.add.new.self c.in_ok-_is_new._is_new
    (ap inst_names (drop-here c.args.insts.now c.loop-place.place c.index-insts-place.result c.loop-place-test.true c.index-insts-place.is)
    ∙ ap (λ n. n ∷ inst_names (drop (c.loop-place.place + 1) c.args.insts.now)) (sym c.bytes.ensures))
    c.in_ok-_is_new.ensures.new c.in_ok-_is_new.ensures.added c.loop-place.invariant
