use Rattle.std.proofs.Common.{◌≡◌, ℕ, ◌*◌, ◌<◌, ◌≤◌, ◌^◌, length, ap, sym, ◌∙◌, subst}
use Rattle.std.specs.Prelude.{List}
use Rattle.hold_base.specs.declared.number.PinNo.{PinNo}
use Rattle.hold_graph.proofs.SiteLists.{sites-unique}
use Rattle.hold_graph.proofs.CostLemmas.{variables-few, kinds-some}
use Rattle.hold_graph.proofs.counts.variable_count.Goals as goal

pub returns-clause-sites : goal.returns-clause-sites
returns-clause-sites c = λ sites are.
    let count = c.site_count.ensures.count in
    ap (λ n. n * length c.as_slice.result.now) (count.count ∙ ap (λ (xs : List PinNo). length xs) (sites-unique c.args.problem.now.graph count.sites sites count.are are))
    ∙ ap (λ (xs : List ℕ). length sites * length xs) c.as_slice.ensures

pub returns-clause-counts : goal.returns-clause-counts
returns-clause-counts c = λ counts are.
    let count = c.site_count.ensures.count in
    are count.sites count.are ∙ ap (λ n. n * length c.args.problem.now.costs) (sym count.count) ∙ ap (λ (xs : List ℕ). c.site_count.result * length xs) (sym c.as_slice.ensures)

pub returns-clause-few : goal.returns-clause-few
returns-clause-few c =
    subst (λ (costs : List ℕ). c.site_count.result * length costs ≤ 2 ^ 23) (sym c.as_slice.ensures)
    (variables-few c.args.problem.now c.site_count.result c.requires c.site_count.ensures.few)

pub returns-clause-kinds : goal.returns-clause-kinds
returns-clause-kinds c =
    subst (λ (costs : List ℕ). 0 < c.site_count.result * length costs → 0 < length c.args.problem.now.costs) (sym c.as_slice.ensures)
    (kinds-some c.site_count.result (length c.args.problem.now.costs))
