use Rattle.std.proofs.Common.{◌≤◌, ◌↔◌, length, rules, ap, sym, subst, arith, FitsSigned}
use Rattle.std.specs.Prelude.{All, IsTrue}
use Rattle.std.proofs.lemmas.Int.{to_z-of_z}
use mir.Syntax.{w128}
use Rattle.hold_base.specs.Limits.{cost_limit}
use Rattle.hold_graph.proofs.SiteLists.{sites-unique}
use Rattle.hold_proof.specs.Room.{Room}
use Rattle.hold_proof.specs.Closing.{IsAbove}
use Rattle.hold_proof.specs.inner.Walk.{box_at}
use Rattle.hold_proof.proofs.BetaLemmas.{closes-above}
use Rattle.hold_proof.proofs.WorkLemmas.{box-over, fit-light}
use Rattle.hold_proof.proofs.closing.closes_over.Goals as goal

pub beta-least-requires-clause-over : goal.beta-least-requires-clause-over
beta-least-requires-clause-over c =
    let fit = c.requires.fit c.sites.result.now c.sites.ensures in
    let light = fit-light c.args.problem.now c.sites.result.now c.args.paths.now c.args.leaf.now fit in
    let seen = ap (λ (r : Room). r.vars) c.scratch.view_is in
    let room = ap (λ (r : Room). r.vars) (c.requires.room c.sites.result.now c.sites.ensures) in
    box-over c.args.problem.now c.sites.result.now c.args.over.now (length c.scratch.inside.factors.items) (c.requires.within c.sites.result.now c.sites.ensures)
    (omega (arith, seen, room)) (let scale = light.scale in let same = c.requires.scale in omega (arith, scale, same))
    (subst (λ costs. All (λ cost. cost ≤ cost_limit) costs) (sym c.requires.costs) c.requires.valid.costs_most)

pub beta-least-requires-clause-fit : goal.beta-least-requires-clause-fit
beta-least-requires-clause-fit c = c.requires.fit c.sites.result.now c.sites.ensures

pub is_above-requires : goal.is_above-requires
is_above-requires c =
    let light = fit-light c.args.problem.now c.sites.result.now c.args.paths.now c.args.leaf.now (c.requires.fit c.sites.result.now c.sites.ensures) in
    light.scale

pub returns-clause-closes : goal.returns-clause-closes
returns-clause-closes c = λ sites are.
    let fits : FitsSigned w128 c.beta-least.result = search rules in
    closes-above c.args.problem.now c.sites.result.now sites c.args.paths.now
    (record { within = box_at c.args.over.now.low.now c.args.over.now.high.now; below = c.args.below }) c.args.leaf.now c.beta-least.result c.is_above.result
    (sites-unique c.args.problem.now.graph c.sites.result.now sites c.sites.ensures are)
    (c.requires.fit c.sites.result.now c.sites.ensures) c.beta-least.ensures.beta
    (subst (λ b. IsTrue c.is_above.result ↔ IsAbove c.args.leaf.now.scale c.args.below b) (to_z-of_z w128 c.beta-least.result fits) c.is_above.ensures)
