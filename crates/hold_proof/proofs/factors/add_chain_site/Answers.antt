use Rattle.std.proofs.Common.{◌≡◌, ◌+◌, ◌≤◌, rules, arith, ap, ◌∙◌, FitsSigned}
use Rattle.std.specs.Prelude.{unsigned_abs}
use Rattle.std.proofs.lemmas.Int.{to_z-of_z}
use Rattle.std.proofs.Math.Nat.{mul-le-mul_right}
use mir.Syntax.{w128}
use Rattle.hold_proof.specs.inner.Forms.{raised}
use Rattle.hold_proof.proofs.ChangeLemmas.{chain_site-more, length-raised}
use Rattle.hold_proof.proofs.factors.add_chain_site.Goals as goal

pub raise-requires : goal.raise-requires
raise-requires c =
    let fits : FitsSigned w128 c.from.result = search rules in
    let same = ap unsigned_abs (to_z-of_z w128 c.from.result fits ∙ c.from.ensures) in
    let grown = c.loop-place.invariant.norm in
    let long = length-raised _ _ _ _ c.loop-place.invariant in
    let more : c.loop-place.place + 1 ≤ c.args.kinds = omega arith in
    let room = mul-le-mul_right c.args.times more in
    record { there = omega (arith, long); room = omega (arith, same, grown, room) }

pub loop-place-preserved : goal.loop-place-preserved
loop-place-preserved c =
    let fits : FitsSigned w128 c.from.result = search rules in
    let long = length-raised _ _ _ _ c.loop-place.invariant in
    chain_site-more c.args.times c.args.first c.loop-place.place _ _ _ (omega (arith, long)) c.loop-place.invariant
    (c.raise.ensures ∙ ap (raised c.loop-place.factors.items (c.args.first + c.loop-place.place)) (to_z-of_z w128 c.from.result fits ∙ c.from.ensures))

pub returns : goal.returns
returns c =
    let all : c.loop-place.place ≡ c.args.kinds = omega arith in
    rw all at c.loop-place.invariant
