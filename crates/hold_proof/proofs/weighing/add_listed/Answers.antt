use Rattle.std.proofs.Common.{◌*◌, ◌≤◌, length, drop, rules, ap, ◌∙◌, arith, FitsSigned}
use Rattle.std.specs.Prelude.{List}
use Rattle.std.proofs.lemmas.Int.{to_z-of_z}
use Rattle.std.proofs.lemmas.List.{length-drop}
use Rattle.std.proofs.Math.Nat.{mul-le-mul_right}
use mir.Syntax.{w64, w128}
use Rattle.hold_base.specs.Limits.{bound_pins_limit}
use Rattle.hold_base.specs.declared.number.PinNo.{PinNo}
use Rattle.hold_proof.specs.inner.Changes.{site_unit}
use Rattle.hold_proof.proofs.WeighLemmas.{listed-in, listed-raised, listed-free, times-within}
use Rattle.hold_proof.proofs.weighing.add_listed.Goals as goal

pub add_path-requires-clause-room : goal.add_path-requires-clause-room
add_path-requires-clause-room c =
    let few = c.pins_of-pins.ensures.few in
    let steps = ap (λ (l : List PinNo). length l) c.steps_of.ensures in
    let shorter = length-drop 1 c.pins_of-pins.result.now in
    let most = c.requires.basis.valid.pins in
    let short : length c.steps_of.result.now ≤ bound_pins_limit = omega (arith, few, steps, shorter, most) in
    let room = mul-le-mul_right (c.args.times * site_unit) short in
    omega (arith, room, c.requires.room)

pub returns-clause-raised : goal.returns-clause-raised
returns-clause-raised c =
    let few = c.pins_of-pins.ensures.few in
    let steps = ap (λ (l : List PinNo). length l) c.steps_of.ensures in
    let shorter = length-drop 1 c.pins_of-pins.result.now in
    let most = c.requires.basis.valid.pins in
    let listed = listed-in c.args.basis.now.problem.now c.args.basis.now.paths.now c.args.number c.index-basis-number.result c.as_slice.result.now c.index-as_slice-path.result c.requires.basis.valid c.requires.listed c.as_slice.ensures c.index-as_slice-path.is in
    listed-raised c.args.basis.now.problem.now c.args.basis.now.sites.now c.args.basis.now.paths.now c.args.number c.args.times _ _ _ c.steps_of.result.now _ _ listed
    c.as_slice-2.ensures (c.steps_of.ensures ∙ ap (drop 1) c.pins_of-pins.ensures.pins) (omega (arith, few, steps, shorter, most)) c.add_path.ensures

pub returns-clause-free : goal.returns-clause-free
returns-clause-free c =
    let fits : FitsSigned w128 c.times.result = search rules in
    let from_fits : FitsSigned w128 c.from.result = search rules in
    let free_fits : FitsSigned w64 c.free_excess-free.result = search rules in
    let listed = listed-in c.args.basis.now.problem.now c.args.basis.now.paths.now c.args.number c.index-basis-number.result c.as_slice.result.now c.index-as_slice-path.result c.requires.basis.valid c.requires.listed c.as_slice.ensures c.index-as_slice-path.is in
    to_z-of_z w128 c.times.result fits
    ∙ listed-free c.args.basis.now.problem.now c.args.basis.now.paths.now c.args.number c.args.times _ _ c.pins_of-pins.result.now c.free_excess-free.result _ c.times.result listed
    c.pins_of-pins.ensures.pins c.free_excess-free.ensures.excess (to_z-of_z w128 c.from.result from_fits ∙ c.from.ensures ∙ to_z-of_z w64 c.free_excess-free.result free_fits) c.times.ensures

pub returns-clause-size : goal.returns-clause-size
returns-clause-size c =
    let fits : FitsSigned w128 c.times.result = search rules in
    let from_fits : FitsSigned w128 c.from.result = search rules in
    let free_fits : FitsSigned w64 c.free_excess-free.result = search rules in
    times-within c.args.times _ c.free_excess-free.result _ _ c.free_excess-free.ensures.size
    (to_z-of_z w128 c.from.result from_fits ∙ c.from.ensures ∙ to_z-of_z w64 c.free_excess-free.result free_fits) (to_z-of_z w128 c.times.result fits ∙ c.times.ensures)
