use Rattle.std.proofs.Common.{◌≡◌, ◌+◌, ◌*◌, rules, arith, get_or, to_z, w64}
use Rattle.std.specs.Prelude.{ℤ, pos, ◌+ℤ◌, FitsSigned, slice_index}
use Rattle.std.proofs.lemmas.Int.{ints, to_z-of_z}
use Rattle.std.proofs.lemmas.List.{drop_more}
use Rattle.hold_base.specs.Limits.{chain_limit, time_limit}
use Rattle.hold_graph.specs.Problem.{IsWithin}
use Rattle.hold_timing.proofs.Bounds.{within-add, within-weaker}
use Rattle.hold_timing.proofs.Pads.{added_from-step}
use Rattle.hold_timing.proofs.added.added_from.Goals as goal

pub loop-kind-preserved : goal.loop-kind-preserved
loop-kind-preserved c =
    let more : IsWithin (chain_limit * time_limit) c.scaled-sum.result = c.scaled-sum.ensures.within in
    let near : IsWithin (c.loop-kind.kind * (chain_limit * time_limit) + chain_limit * time_limit) (to_z w64 c.loop-kind.sum-bits +ℤ c.scaled-sum.result) =
    within-add (c.loop-kind.kind * (chain_limit * time_limit)) (chain_limit * time_limit) (to_z w64 c.loop-kind.sum-bits) c.scaled-sum.result c.loop-kind.invariant.within c.scaled-sum.ensures.within in
    let few = c.requires.few in
    let below = c.loop-kind-test.true in
    let more_fits : FitsSigned w64 c.scaled-sum.result = omega (arith, ints) in
    let in_range : FitsSigned w64 (to_z w64 c.loop-kind.sum-bits +ℤ c.scaled-sum.result) = omega (arith, ints) in
    record {
      value = rw (to_z-of_z w64 c.scaled-sum.result more_fits, to_z-of_z w64 (to_z w64 c.loop-kind.sum-bits +ℤ c.scaled-sum.result) in_range)
          (added_from-step c.args.side c.loop-kind.kind c.args.kinds.now (get_or c.args.kinds.now c.loop-kind.kind (record { least = pos 0; greatest = pos 0 }))
          (λ kind. slice_index c.args.counts.now (c.args.first + kind)) (to_z w64 c.loop-kind.sum-bits) c.scaled-sum.result _
          (drop_more c.args.kinds.now c.loop-kind.kind (record { least = pos 0; greatest = pos 0 }) below) c.scaled-sum.ensures.value c.loop-kind.invariant.value);
      within = rw (to_z-of_z w64 c.scaled-sum.result more_fits, to_z-of_z w64 (to_z w64 c.loop-kind.sum-bits +ℤ c.scaled-sum.result) in_range)
          (within-weaker _ ((c.loop-kind.kind + 1) * (chain_limit * time_limit)) (to_z w64 c.loop-kind.sum-bits +ℤ c.scaled-sum.result) (omega arith) near);
    }
