use Rattle.std.proofs.Common.{◌↔◌, ℕ, length, ap, sym, subst, arith}
use Rattle.std.specs.Prelude.{List, IsTrue}
use Rattle.hold_graph.specs.Boxes.{IsBox}
use Rattle.hold_proof.specs.Closing.{Closes}
use Rattle.hold_proof.proofs.WorkLemmas.{box-few, box-kinds, same-box}
use Rattle.hold_proof.proofs.closing.closes.Goals as goal

pub cost_of-requires-clause-kinds : goal.cost_of-requires-clause-kinds
cost_of-requires-clause-kinds c = λ some.
    let low = ap (λ (l : List ℕ). length l) c.as_slice-low.ensures in
    let costs = ap (λ (l : List ℕ). length l) c.as_slice-costs.ensures in
    let kinds = box-kinds c.args.problem.now c.sites-sites.result.now c.args.within.now (c.requires.within c.sites-sites.result.now c.sites-sites.ensures) (omega (arith, some, low)) in
    omega (arith, kinds, costs)

pub cost_of-requires-clause-few : goal.cost_of-requires-clause-few
cost_of-requires-clause-few c =
    let low = ap (λ (l : List ℕ). length l) c.as_slice-low.ensures in
    let few = box-few c.args.problem.now c.sites-sites.result.now c.args.within.now c.requires.valid c.parts-parts.ensures.numbers c.sites-sites.ensures (c.requires.within c.sites-sites.result.now c.sites-sites.ensures) in
    omega (arith, low, few)

pub closes_over-requires-clause-within : goal.closes_over-requires-clause-within
closes_over-requires-clause-within c = λ sites are.
    subst (IsBox c.args.problem.now sites) (sym (same-box c.args.within.now c.as_slice-low.result.now c.as_slice.result.now c.as_slice-low.ensures c.as_slice.ensures)) (c.requires.within sites are)

pub returns-clause-closes : goal.returns-clause-closes
returns-clause-closes c = λ sites are.
    subst (λ box. IsTrue c.closes_over.result ↔ Closes c.args.problem.now sites c.args.paths.now (record { within = box; below = c.args.below }) c.args.leaf.now)
    (same-box c.args.within.now c.as_slice-low.result.now c.as_slice.result.now c.as_slice-low.ensures c.as_slice.ensures) (c.closes_over.ensures.closes sites are)
