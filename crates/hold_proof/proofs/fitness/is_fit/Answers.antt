use Rattle.std.proofs.Common.{◌-◌, ◌↔◌, length, sym, ap, ◌∙◌, subst}
use Rattle.std.specs.Prelude.{IsTrue}
use Rattle.hold_base.specs.declared.number.PathNo.{PathNo}
use Rattle.hold_base.specs.declared.number.SiteNo.{SiteNo}
use Rattle.hold_graph.proofs.SiteLists.{sites-unique}
use Rattle.hold_proof.specs.Closing.{weight_limit, IsFit}
use Rattle.hold_proof.specs.inner.Fitness.{left_of}
use Rattle.hold_proof.proofs.FitLemmas.{fit-when, unfit-none}
use Rattle.hold_proof.proofs.fitness.is_fit.Goals as goal

pub returns-in-Some : goal.returns-in-Some
returns-in-Some c = λ sites are.
    let same = sites-unique c.args.problem.now.graph c.sites.result.now sites c.sites.ensures are in
    let exact = fit-when c.args.problem.now c.sites.result.now c.args.paths.now c.args.leaf.now c.in-Some.left c.left_of_chains.result c.requires c.if-leaf-gt-WEIGHT_LIMIT.false
    (ap (left_of (λ (path : PathNo). path.0) (length c.args.paths.now) 0 (weight_limit - c.args.leaf.now.scale)) (sym c.as_slice.ensures) ∙ sym c.in-Some.ensures)
    (ap (left_of (λ (site : SiteNo). site.0) (length c.sites.result.now) 0 c.in-Some.left) (sym c.as_slice-in-Some.ensures) ∙ sym c.left_of_chains.ensures) in
    subst (λ s. IsTrue c.is_some.result ↔ IsFit c.args.problem.now s c.args.paths.now c.args.leaf.now) same
    (subst (λ is. IsTrue is ↔ IsFit c.args.problem.now c.sites.result.now c.args.paths.now c.args.leaf.now) (sym c.is_some.ensures) exact)

pub returns-in-None : goal.returns-in-None
returns-in-None c = λ sites are.
    let none = ap (left_of (λ (path : PathNo). path.0) (length c.args.paths.now) 0 (weight_limit - c.args.leaf.now.scale)) (sym c.as_slice.ensures) ∙ sym c.in-None.ensures in
    (λ is. absurd cc, λ fit. absurd (unfit-none c.args.problem.now sites c.args.paths.now c.args.leaf.now none fit))
