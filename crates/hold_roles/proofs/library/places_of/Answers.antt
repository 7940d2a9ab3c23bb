use Rattle.std.proofs.Common.{Some, ap, sym, ◌∙◌, subst}
use Rattle.hold_roles.specs.Types.{double_fault}
use Rattle.hold_roles.proofs.AnswerLemmas.{passed_on}
use Rattle.hold_roles.proofs.NamePlaceLemmas.{IsPlacedUpTo, pairs-tell, place-added, place-repeats, placed-all, placed-none}
use Rattle.hold_roles.proofs.library.places_of.Goals as goal

pub returns-in_err-add-clause-fault : goal.returns-in_err-add-clause-fault
returns-in_err-add-clause-fault c = passed_on c.from_residual.result c.in_err-add.field-0.0 _ _ c.from_residual.ensures.1 c.in_err-add.ensures.fault
    (λ fault is. ap double_fault (place-repeats c.args.types.now c.loop-place.place c.loop-place.places c.index-types-place.result c.loop-place-test.true c.index-types-place.is is.1 c.loop-place.invariant)
    ∙ ap Some (sym is.0))

pub loop-place-init : goal.loop-place-init
loop-place-init c = subst (IsPlacedUpTo c.args.types.now 0) (sym c.new-places.ensures) (placed-none c.args.types.now)

pub loop-place-preserved : goal.loop-place-preserved
loop-place-preserved c =
    place-added c.args.types.now c.loop-place.place c.loop-place.places c.add.new.places c.index-types-place.result c.loop-place-test.true c.index-types-place.is
    c.in_ok-add.ensures.new c.in_ok-add.ensures.added c.loop-place.invariant

pub returns-clause-sound : goal.returns-clause-sound
returns-clause-sound c = placed-all c.args.types.now c.loop-place.place c.loop-place.places c.loop-place-test.false c.loop-place.invariant

pub returns-clause-places : goal.returns-clause-places
returns-clause-places c = pairs-tell c.args.types.now c.loop-place.place c.loop-place.places c.loop-place-test.false c.loop-place.invariant
