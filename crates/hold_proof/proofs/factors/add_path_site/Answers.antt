use Rattle.std.proofs.Common.{◌≡◌, ◌+◌, ◌*◌, ◌≤◌, length, rules, arith, ap, ◌∙◌, FitsSigned}
use Rattle.std.specs.Prelude.{unsigned_abs}
use Rattle.std.proofs.lemmas.Int.{to_z-of_z}
use Rattle.std.proofs.lemmas.List.{take_all}
use Rattle.std.proofs.Math.Nat.{mul-le-mul_right}
use mir.Syntax.{w128}
use Rattle.hold_base.specs.Limits.{time_limit}
use Rattle.hold_proof.specs.inner.Forms.{raised}
use Rattle.hold_proof.proofs.ChangeLemmas.{listed_number-size, path_site-more, length-raised}
use Rattle.hold_proof.proofs.factors.add_path_site.Goals as goal

pub raise-requires : goal.raise-requires
raise-requires c =
    let fits : FitsSigned w128 c.path_number.result = search rules in
    let same = ap unsigned_abs (to_z-of_z w128 c.path_number.result fits) in
    let size = listed_number-size c.args.side c.args.times c.args.kinds.now c.loop-place.place _ c.path_number.result c.loop-place-test.true c.requires.spans c.path_number.ensures in
    let grown = c.loop-place.invariant.norm in
    let long = length-raised _ _ _ _ c.loop-place.invariant in
    let more : c.loop-place.place + 1 ≤ length c.args.kinds.now = omega arith in
    let room = mul-le-mul_right (c.args.times * time_limit) more in
    record { there = omega (arith, long); room = omega (arith, same, size, grown, room) }

pub loop-place-preserved : goal.loop-place-preserved
loop-place-preserved c =
    let fits : FitsSigned w128 c.path_number.result = search rules in
    let long = length-raised _ _ _ _ c.loop-place.invariant in
    path_site-more c.args.side c.args.times c.args.first c.args.kinds.now c.loop-place.place _ c.path_number.result _ _ _ c.loop-place-test.true c.requires.spans
    (omega (arith, long)) c.loop-place.invariant c.path_number.ensures
    (c.raise.ensures ∙ ap (raised c.loop-place.factors.items (c.args.first + c.loop-place.place)) (to_z-of_z w128 c.path_number.result fits))

pub returns : goal.returns
returns c =
    let all : c.loop-place.place ≡ length c.args.kinds.now = omega arith in
    rw (all, take_all (length c.args.kinds.now) c.args.kinds.now (omega arith)) at c.loop-place.invariant
