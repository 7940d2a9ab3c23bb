-- A leaf is fit exactly where something is left of the weight limit behind its scale, its paths and its chain limits, or all is taken.
use Rattle.std.proofs.Common.{◌≡◌, ℕ, ◌-◌, ◌<◌, ◌≤◌, List, length, get_or, refl, sym, ap, ◌∙◌, ◌↔◌, subst, inl, inr, arith}
use Rattle.std.specs.Prelude.{Option, Some, None, is_some, All, IsTrue}
use Rattle.std.proofs.lemmas.Option.{none-some, same_Some, slice_get_cases, slice_get_within}
use Rattle.hold_base.specs.declared.number.PathNo.{PathNo}
use Rattle.hold_base.specs.declared.number.PinNo.{PinNo}
use Rattle.hold_base.specs.declared.number.SiteNo.{SiteNo}
use Rattle.hold_graph.specs.declared.problem.Listed.{Listed}
use Rattle.hold_graph.specs.declared.problem.Problem.{Problem}
use Rattle.hold_proof.specs.declared.node.Leaf.{Leaf}
use Rattle.hold_proof.specs.Closing.{weight_limit, IsFit, IsOfProblem, ListsChecked}
use Rattle.hold_proof.specs.inner.Fitness.{left_of}
use Rattle.hold_proof.proofs.FitnessLemmas.{left_of-some, left_of-all, orderly-terms, terms-orderly}
use Rattle.hold_proof.proofs.WeighLemmas.{weight-totals}

-- a number below the count of listed paths lists a checked one
listed-checked : (problem : Problem) (paths : List Listed) (number : PathNo) → All (IsOfProblem problem) paths → number.0 < length paths → ListsChecked problem paths number
listed-checked problem paths number all there =
    elim (slice_get_cases paths number.0).1 [
      | inl found ↦ record {
        path = found.0;
        at = found.2;
        of_problem = subst (IsOfProblem problem) found.3 (all number.0 found.0 there);
      }
      | inr past ↦ let end = past.0 in absurd (omega (arith, end, there))
    ]

-- a leaf that leaves something is fit
pub left-fit : (problem : Problem) (sites : List PinNo) (paths : List Listed) (leaf : Leaf) (left after : ℕ) → All (IsOfProblem problem) paths → leaf.scale ≤ weight_limit →
    left_of (λ (path : PathNo). path.0) (length paths) 0 (weight_limit - leaf.scale) leaf.paths ≡ Some left →
    left_of (λ (site : SiteNo). site.0) (length sites) 0 left leaf.chains ≡ Some after → IsFit problem sites paths leaf
left-fit problem sites paths leaf left after all light first second =
    let some = left_of-some (λ (path : PathNo). path.0) (length paths) 0 (weight_limit - leaf.scale) leaf.paths left first in
    let more = left_of-some (λ (site : SiteNo). site.0) (length sites) 0 left leaf.chains after second in
    let by_paths = orderly-terms (λ (path : PathNo). path.0) (length paths) leaf.paths some.0 in
    let by_sites = orderly-terms (λ (site : SiteNo). site.0) (length sites) leaf.chains more.0 in
    let takes = some.1 in
    let then = more.1 in
    let whole = weight-totals leaf in
    record {
      orderly = record {
        paths_rise = by_paths.rise;
        paths_times = by_paths.times;
        sites_rise = by_sites.rise;
        sites_times = by_sites.times;
        weight = omega (arith, light, takes, then, whole);
      };
      paths_checked = λ k d below. listed-checked problem paths (get_or leaf.paths k d).0 all (by_paths.there k d below);
      sites_there = by_sites.there;
    }

-- and a fit leaf leaves something, if no more than nothing
pub record IsLeft (sites : List PinNo) (paths : List Listed) (leaf : Leaf) : Type 0 where
  pub light : leaf.scale ≤ weight_limit
  pub left : ℕ
  pub after : ℕ
  pub first : left_of (λ (path : PathNo). path.0) (length paths) 0 (weight_limit - leaf.scale) leaf.paths ≡ Some left
  pub second : left_of (λ (site : SiteNo). site.0) (length sites) 0 left leaf.chains ≡ Some after

pub fit-left : (problem : Problem) (sites : List PinNo) (paths : List Listed) (leaf : Leaf) → IsFit problem sites paths leaf → IsLeft sites paths leaf
fit-left problem sites paths leaf fit =
    let orderly = fit.orderly in
    let weight = orderly.weight in
    let whole = weight-totals leaf in
    let by_paths = terms-orderly (λ (path : PathNo). path.0) (length paths) leaf.paths (record {
      rise = orderly.paths_rise;
      there = λ k d below. slice_get_within paths (get_or leaf.paths k d).0.0 (fit.paths_checked k d below).path (fit.paths_checked k d below).at;
      times = orderly.paths_times;
    }) in
    let by_sites = terms-orderly (λ (site : SiteNo). site.0) (length sites) leaf.chains (record {
      rise = orderly.sites_rise;
      there = fit.sites_there;
      times = orderly.sites_times;
    }) in
    let first = left_of-all (λ (path : PathNo). path.0) (length paths) 0 (weight_limit - leaf.scale) leaf.paths by_paths (omega (arith, weight, whole)) in
    let takes = first.2 in
    let second = left_of-all (λ (site : SiteNo). site.0) (length sites) 0 first.0 leaf.chains by_sites (omega (arith, weight, whole, takes)) in
    record { light = omega (arith, weight, whole); left = first.0; after = second.0; first = first.1; second = second.1 }

pub unfit-none : (problem : Problem) (sites : List PinNo) (paths : List Listed) (leaf : Leaf) →
    left_of (λ (path : PathNo). path.0) (length paths) 0 (weight_limit - leaf.scale) leaf.paths ≡ None → IsFit problem sites paths leaf → ⊥
unfit-none problem sites paths leaf none fit =
    let whole = fit-left problem sites paths leaf fit in
    none-some _ (sym none ∙ whole.first)

-- so whether something is left tells whether it is fit
pub fit-when : (problem : Problem) (sites : List PinNo) (paths : List Listed) (leaf : Leaf) (left : ℕ) (after : Option ℕ) → All (IsOfProblem problem) paths → leaf.scale ≤ weight_limit →
    left_of (λ (path : PathNo). path.0) (length paths) 0 (weight_limit - leaf.scale) leaf.paths ≡ Some left →
    left_of (λ (site : SiteNo). site.0) (length sites) 0 left leaf.chains ≡ after → IsTrue (is_some after) ↔ IsFit problem sites paths leaf
fit-when problem sites paths leaf left None all light first second = (
  λ is. absurd cc,
  λ fit.
      let whole = fit-left problem sites paths leaf fit in
      let same = same_Some _ _ (sym first ∙ whole.first) in
      absurd (none-some _ (sym second ∙ ap (λ (l : ℕ). left_of (λ (site : SiteNo). site.0) (length sites) 0 l leaf.chains) same ∙ whole.second)),
)
fit-when problem sites paths leaf left (Some after) all light first second = (λ is. left-fit problem sites paths leaf left after all light first second, λ fit. refl)
