use Rattle.std.proofs.Common.{sym, ◌∙◌}
use Rattle.std.proofs.lemmas.Bool.{false≢true}
use Rattle.hold_plain.proofs.ServedLemmas.{served-from_tests, order-from_served}
use Rattle.hold_plain.proofs.served.served_places.Goals as goal

pub returns-then-not-is_in_order-clause-none : goal.returns-then-not-is_in_order-clause-none
returns-then-not-is_in_order-clause-none c = λ served.
    let places = rw c.in-Some.is at c.in_ok-places.ensures.places in
    let passes = c.is_in_order.ensures.1 (order-from_served c.args.nets c.args.insts c.args.uses.now _ _ places served) in
    false≢true (sym c.if-not-is_in_order.true ∙ passes)

pub returns-clause-served : goal.returns-clause-served
returns-clause-served c =
    let places = rw c.in-Some.is at c.in_ok-places.ensures.places in
    let drivers = rw c.in-Some.is at c.in_ok-places.ensures.drivers in
    let one_input = rw c.in-Some.is at c.in_ok-places.ensures.one_input in
    served-from_tests c.args.nets c.args.insts c.args.uses.now _ _ places drivers one_input (c.is_sound.ensures.0 c.if-not-is_sound.false) (c.is_in_order.ensures.0 c.if-not-is_in_order.false)
