use Rattle.std.proofs.Common.{◌≡◌, ◌+◌, ◌-◌, ◌∷◌, subst, sym, ◌∙◌, arith, drop, get_or}
use Rattle.hold_sdflex.specs.Nesting.{form_of, mark_in}
use Rattle.hold_sdflex.specs.inner.Waiting.{AreWaiting}
use Rattle.hold_sdflex.proofs.Pairing.{ArePairedFrom, seen, paired_one, none_paired, nowhere}
use Rattle.hold_sdflex.proofs.pair.pair.Goals as goal

-- the piece has no partner
pub returns-in_default : goal.returns-in_default
returns-in_default c =
    let i = c.loop-place.place - 1 in
    let next : c.loop-place.place ≡ i + 1 = omega arith in
    let from = subst (ArePairedFrom c.args.pieces.now c.loop-place.pieces c.loop-place.closings.items) next c.loop-place.invariant in
    let form : c.in_ok-form.field-0 ≡ form_of (mark_in (get_or c.loop-place.pieces i nowhere).form) i (seen (drop (i + 1) c.args.pieces.now)) =
    c.in_ok-form.ensures.form (seen (drop (i + 1) c.args.pieces.now)) from.waiting in
    none_paired c.args.pieces.now c.loop-place.pieces c.loop-place.closings.items i nowhere from (sym c.in_default.is ∙ form)

-- the piece is paired
pub loop-place-preserved : goal.loop-place-preserved
loop-place-preserved c =
    let i = c.loop-place.place - 1 in
    let next : c.loop-place.place ≡ i + 1 = omega arith in
    let from = subst (ArePairedFrom c.args.pieces.now c.loop-place.pieces c.loop-place.closings.items) next c.loop-place.invariant in
    let form : c.in_ok-form.field-0 ≡ form_of (mark_in (get_or c.loop-place.pieces i nowhere).form) i (seen (drop (i + 1) c.args.pieces.now)) =
    c.in_ok-form.ensures.form (seen (drop (i + 1) c.args.pieces.now)) from.waiting in
    let waits : AreWaiting c.paired_form.new.closings.items (mark_in (get_or c.loop-place.pieces i nowhere).form ∷ seen (drop (i + 1) c.args.pieces.now)) i =
    rw c.in-Some.is at (c.in_ok-form.ensures.waiting (seen (drop (i + 1) c.args.pieces.now)) from.waiting) in
    paired_one c.args.pieces.now c.loop-place.pieces c.loop-place.closings.items i nowhere from c.in-Some.form c.paired_form.new.closings.items (sym c.in-Some.is ∙ form) waits
