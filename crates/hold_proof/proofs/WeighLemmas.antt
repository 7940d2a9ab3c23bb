-- Weighing a leaf term by term.
use Rattle.std.proofs.Common.{◌≡◌, ℕ, ◌+◌, ◌*◌, ◌<◌, ◌≤◌, List, [], ◌∷◌, ◌++◌, length, get_or, take, drop, replicate, refl, sym, ap, ◌∙◌, subst, arith}
use Rattle.std.specs.Prelude.{Some, map, sum, slice_get, ℤ, pos, ◌+ℤ◌, ◌*ℤ◌, unsigned_abs}
use Rattle.std.specs.List.{sum_by}
use Rattle.std.proofs.lemmas.Int.{ints}
use Rattle.std.proofs.lemmas.List.{take_more}
use Rattle.std.proofs.lemmas.List.Sums.{sum_by-cons, sum_by_more, sum_by_more_le}
use Rattle.std.proofs.lemmas.Option.{slice_get_within, slice_get-get_or, get_or_from_slice_get}
use Rattle.std.proofs.Math.Nat.{mul-le-mul_left, mul-le-mul_right}
use Rattle.std.proofs.Math.IntN.{*ℤ_comm}
use Rattle.hold_base.specs.Limits.{bound_pins_limit, chain_limit, kinds_limit}
use Rattle.hold_base.specs.declared.number.PathNo.{PathNo}
use Rattle.hold_base.specs.declared.number.PinNo.{PinNo}
use Rattle.hold_base.specs.declared.number.SiteNo.{SiteNo}
use Rattle.hold_base.specs.declared.time.Interval.{Interval}
use Rattle.hold_graph.specs.Met.{excess}
use Rattle.hold_graph.specs.Path.{IsCheckedPath}
use Rattle.hold_graph.specs.Problem.{IsValid, IsValidCorner, IsWithin}
use Rattle.hold_graph.specs.Sums.{no_buffers}
use Rattle.hold_graph.specs.declared.problem.Spans.{Spans}
use Rattle.hold_graph.specs.declared.problem.Listed.{Listed}
use Rattle.hold_graph.specs.declared.problem.Problem.{Problem}
use Rattle.hold_proof.specs.declared.node.Leaf.{Leaf}
use Rattle.hold_proof.specs.Closing.{weight_of, IsOfProblem, ListsChecked}
use Rattle.hold_proof.specs.inner.Basis.{total}
use Rattle.hold_proof.specs.inner.Changes.{IsRaised, free_limit, path_unit, site_unit}
use Rattle.hold_proof.specs.inner.Forms.{added}
use Rattle.hold_proof.specs.inner.LeafTerms.{free_excess, corner_free, paths_free, chains_free, pins_terms, var_terms, site_terms, path_numbers, path_terms, corner_terms, listed_terms, paths_terms, chains_terms, pins_vars, path_vars}
use Rattle.hold_proof.proofs.ChangeLemmas.{raised-more}
use Rattle.hold_proof.proofs.Magnitudes.{bounded, unsigned_abs-le, unsigned_abs-times_right}

-- the terms of a path are those of its steps
pub path_terms-steps : (kinds : ℕ) (sites : List PinNo) (numbers : List ℤ) (pins : List PinNo) → path_terms kinds sites numbers pins ≡ pins_terms kinds sites numbers (drop 1 pins)
path_terms-steps kinds sites numbers [] = refl
path_terms-steps kinds sites numbers (first ∷ pins) = refl

pub path_vars-steps : (kinds : ℕ) (sites pins : List PinNo) → path_vars kinds sites pins ≡ pins_vars kinds sites (drop 1 pins)
path_vars-steps kinds sites [] = refl
path_vars-steps kinds sites (first ∷ pins) = refl

sum-map : {X : Type 0} (f : X → ℕ) (xs : List X) → sum (map f xs) ≡ sum_by f xs
sum-map f [] = refl
sum-map f (x ∷ xs) =
    let whole = sum_by-cons (λ (y : ℕ). y) (f x) (map f xs) in
    let other = sum_by-cons f x xs in
    let rest = sum-map f xs in
    omega (arith, whole, other, rest)

-- a leaf's weight, by the totals of its terms
pub weight-totals : (leaf : Leaf) → weight_of leaf ≡ (leaf.scale + total leaf.paths) + total leaf.chains
weight-totals leaf =
    let first = sum-map (λ (term : PathNo × ℕ). term.1) leaf.paths in
    let second = sum-map (λ (term : SiteNo × ℕ). term.1) leaf.chains in
    omega (arith, first, second)

pub total-more : {X : Type 0} (terms : List (X × ℕ)) (i : ℕ) (term : X × ℕ) → i < length terms → term ≡ get_or terms i term → total (take (i + 1) terms) ≡ total (take i terms) + term.1
total-more terms i term there is = let next = sum_by_more (λ t. t.1) terms i term there in let same = ap (λ t. t.1) is in omega (arith, next, same)

pub total-room : {X : Type 0} (terms : List (X × ℕ)) (i : ℕ) (term : X × ℕ) → i < length terms → term ≡ get_or terms i term → total (take i terms) + term.1 ≤ total terms
total-room terms i term there is = let next = sum_by_more_le (λ t. t.1) terms i term there in let same = ap (λ t. t.1) is in omega (arith, next, same)

paths_free-push : (problem : Problem) (paths : List Listed) (terms : List (PathNo × ℕ)) (term : PathNo × ℕ) →
    paths_free problem paths (terms ++ term ∷ []) ≡ paths_free problem paths terms +ℤ (pos term.1 *ℤ free_excess problem (slice_get paths term.0.0))
paths_free-push problem paths [] term = omega (arith, ints)
paths_free-push problem paths (first ∷ terms) term = let rest = paths_free-push problem paths terms term in omega (arith, ints, rest)

pub paths_free-more : (problem : Problem) (paths : List Listed) (terms : List (PathNo × ℕ)) (i : ℕ) (term : PathNo × ℕ) → i < length terms → term ≡ get_or terms i term →
    paths_free problem paths (take (i + 1) terms) ≡ paths_free problem paths (take i terms) +ℤ (pos term.1 *ℤ free_excess problem (slice_get paths term.0.0))
paths_free-more problem paths terms i term there is =
    ap (paths_free problem paths) (take_more terms i term there) ∙ ap (λ t. paths_free problem paths (take i terms ++ t ∷ [])) (sym is) ∙ paths_free-push problem paths (take i terms) term

chains_free-push : (max_chain : ℕ) (terms : List (SiteNo × ℕ)) (term : SiteNo × ℕ) → chains_free max_chain (terms ++ term ∷ []) ≡ chains_free max_chain terms +ℤ pos (term.1 * max_chain)
chains_free-push max_chain [] term = omega (arith, ints)
chains_free-push max_chain (first ∷ terms) term = let rest = chains_free-push max_chain terms term in omega (arith, ints, rest)

pub chains_free-more : (max_chain : ℕ) (terms : List (SiteNo × ℕ)) (i : ℕ) (term : SiteNo × ℕ) → i < length terms → term ≡ get_or terms i term →
    chains_free max_chain (take (i + 1) terms) ≡ chains_free max_chain (take i terms) +ℤ pos (term.1 * max_chain)
chains_free-more max_chain terms i term there is =
    ap (chains_free max_chain) (take_more terms i term there) ∙ ap (λ t. chains_free max_chain (take i terms ++ t ∷ [])) (sym is) ∙ chains_free-push max_chain (take i terms) term

-- a listed path that is there, in a corner that is there
pub record IsListedIn (problem : Problem) (paths : List Listed) (number : PathNo) (path : Listed) (spans : Spans) : Type 0 where
  pub at : slice_get paths number.0 ≡ Some path
  pub corner : slice_get problem.corners path.corner.0 ≡ Some spans
  pub valid : IsValidCorner problem spans
  pub checked : IsCheckedPath problem.graph path.pins

pub listed-in : (problem : Problem) (paths : List Listed) (number : PathNo) (none : Listed) (corners : List Spans) (spans : Spans) → IsValid problem → ListsChecked problem paths number → corners ≡ problem.corners →
    spans ≡ get_or corners (get_or paths number.0 none).corner.0 spans → IsListedIn problem paths number (get_or paths number.0 none) spans
listed-in problem paths number none corners spans valid listed same read =
    let there = slice_get_within paths number.0 listed.path listed.at in
    let is = get_or_from_slice_get paths number.0 listed.path none listed.at in
    let of_problem = subst (IsOfProblem problem) (sym is) listed.of_problem in
    let corner = slice_get-get_or problem.corners (get_or paths number.0 none).corner.0 spans of_problem.corner in
    let here = read ∙ ap (λ l. get_or l (get_or paths number.0 none).corner.0 spans) same in
    record {
      at = slice_get-get_or paths number.0 none there;
      corner = corner ∙ ap (λ s. Some s) (sym here);
      valid = subst (IsValidCorner problem) (sym here) (valid.corners (get_or paths number.0 none).corner.0 spans of_problem.corner);
      checked = of_problem.checked;
    }

listed_terms-in : (problem : Problem) (sites : List PinNo) (paths : List Listed) (number : PathNo) (times : ℕ) (path : Listed) (spans : Spans) → IsListedIn problem paths number path spans →
    listed_terms problem sites times (slice_get paths number.0) ≡ pins_terms (length problem.costs) sites (path_numbers path.side times spans.kinds) (drop 1 path.pins)
listed_terms-in problem sites paths number times path spans listed =
    ap (listed_terms problem sites times) listed.at ∙ ap (corner_terms problem sites times path) listed.corner ∙ path_terms-steps (length problem.costs) sites (path_numbers path.side times spans.kinds) path.pins

free_excess-in : (problem : Problem) (paths : List Listed) (number : PathNo) (path : Listed) (spans : Spans) → IsListedIn problem paths number path spans →
    free_excess problem (slice_get paths number.0) ≡ excess path.side problem spans no_buffers path.pins
free_excess-in problem paths number path spans listed = ap (free_excess problem) listed.at ∙ ap (corner_free problem path) listed.corner

-- a listed path's terms, added along its steps
pub listed-raised : (problem : Problem) (sites : List PinNo) (paths : List Listed) (number : PathNo) (times : ℕ) (path : Listed) (spans : Spans) (kinds : List Interval) (steps : List PinNo) (old new : List ℤ) →
    IsListedIn problem paths number path spans → kinds ≡ spans.kinds → steps ≡ drop 1 path.pins → length steps ≤ bound_pins_limit →
    IsRaised (pins_terms (length kinds) sites (path_numbers path.side times kinds) steps) (length steps * (times * site_unit)) old new →
    IsRaised (listed_terms problem sites times (slice_get paths number.0)) (times * path_unit) old new
listed-raised problem sites paths number times path spans kinds steps old new listed kinds_are steps_are few raised =
    let same : pins_terms (length kinds) sites (path_numbers path.side times kinds) steps ≡ listed_terms problem sites times (slice_get paths number.0) =
    ap (λ (k : List Interval). pins_terms (length k) sites (path_numbers path.side times k) steps) kinds_are
    ∙ ap (λ n. pins_terms n sites (path_numbers path.side times spans.kinds) steps) listed.valid.kinds_each
    ∙ ap (pins_terms (length problem.costs) sites (path_numbers path.side times spans.kinds)) steps_are
    ∙ sym (listed_terms-in problem sites paths number times path spans listed) in
    let most = mul-le-mul_right (times * site_unit) few in
    let grown = raised.norm in
    record { factors = raised.factors ∙ ap (λ t. added t old) same; norm = omega (arith, grown, most) }

-- its excess without buffers, so often
pub listed-free : (problem : Problem) (paths : List Listed) (number : PathNo) (times : ℕ) (path : Listed) (spans : Spans) (pins : List PinNo) (free one result : ℤ) →
    IsListedIn problem paths number path spans → pins ≡ path.pins → free ≡ excess path.side problem spans no_buffers pins → one ≡ free → result ≡ one *ℤ pos times →
    result ≡ pos times *ℤ free_excess problem (slice_get paths number.0)
listed-free problem paths number times path spans pins free one result listed pins_are free_is one_is value =
    value ∙ ap (λ z. z *ℤ pos times) (one_is ∙ free_is ∙ ap (excess path.side problem spans no_buffers) pins_are ∙ sym (free_excess-in problem paths number path spans listed))
    ∙ *ℤ_comm (free_excess problem (slice_get paths number.0)) (pos times)

pub times-within : (times limit : ℕ) (free one result : ℤ) → IsWithin limit free → one ≡ free → result ≡ one *ℤ pos times → IsWithin (times * limit) result
times-within times limit free one result within one_is value =
    let size = unsigned_abs-times_right times limit free (unsigned_abs-le free limit within) in
    let same = ap unsigned_abs (value ∙ ap (λ z. z *ℤ pos times) one_is) in
    bounded result (times * limit) (omega (arith, size, same))

-- a chain limit's terms, added at its site
pub chain-raised : (kinds n site times : ℕ) (old new : List ℤ) → n ≡ kinds → kinds ≤ kinds_limit → IsRaised (var_terms (site * n) (replicate n (pos times))) (n * times) old new →
    IsRaised (site_terms kinds (Some site) (replicate kinds (pos times))) (times * kinds_limit) old new
chain-raised kinds n site times old new same few raised =
    let here = subst (λ n. IsRaised (var_terms (site * n) (replicate n (pos times))) (n * times) old new) same raised in
    let most = mul-le-mul_right times few in
    let grown = here.norm in
    record { factors = here.factors; norm = omega (arith, grown, most) }

-- one path more
pub record IsWeighed (problem : Problem) (sites : List PinNo) (paths : List Listed) (terms : List (PathNo × ℕ)) (old new : List ℤ) (free : ℤ) : Type 0 where
  pub raised : IsRaised (paths_terms problem sites paths terms) (total terms * path_unit) old new
  pub free_is : free ≡ paths_free problem paths terms
  pub size : IsWithin (total terms * free_limit) free

pub weighed-more : (problem : Problem) (sites : List PinNo) (paths : List Listed) (terms : List (PathNo × ℕ)) (i : ℕ) (term : PathNo × ℕ) (old now new : List ℤ) (free one sum : ℤ) →
    i < length terms → term ≡ get_or terms i term → IsWeighed problem sites paths (take i terms) old now free →
    IsRaised (listed_terms problem sites term.1 (slice_get paths term.0.0)) (term.1 * path_unit) now new → one ≡ pos term.1 *ℤ free_excess problem (slice_get paths term.0.0) →
    IsWithin (term.1 * free_limit) one → sum ≡ free +ℤ one → IsWeighed problem sites paths (take (i + 1) terms) old new sum
weighed-more problem sites paths terms i term old now new free one sum there is so_far raised one_is within sum_is =
    let more = total-more terms i term there is in
    let next = paths_free-more problem paths terms i term there is in
    let low = within.low in
    let high = within.high in
    let bottom = so_far.size.low in
    let top = so_far.size.high in
    record {
      raised = raised-more (λ (t : PathNo × ℕ). listed_terms problem sites t.1 (slice_get paths t.0.0)) terms i term _ _ _ old now new there is so_far.raised raised (omega (arith, more));
      free_is = omega (arith, ints, sum_is, so_far.free_is, one_is, next);
      size = record { low = omega (arith, ints, sum_is, more, low, bottom); high = omega (arith, ints, sum_is, more, high, top) };
    }

-- one chain limit more
pub record AreChainsWeighed (kinds max_chain : ℕ) (terms : List (SiteNo × ℕ)) (old new : List ℤ) (free : ℤ) : Type 0 where
  pub raised : IsRaised (chains_terms kinds terms) (total terms * kinds_limit) old new
  pub free_is : free ≡ chains_free max_chain terms
  pub size : IsWithin (total terms * chain_limit) free

pub chains_weighed-more : (kinds max_chain : ℕ) (terms : List (SiteNo × ℕ)) (i : ℕ) (term : SiteNo × ℕ) (old now new : List ℤ) (free one sum : ℤ) →
    i < length terms → term ≡ get_or terms i term → max_chain ≤ chain_limit → AreChainsWeighed kinds max_chain (take i terms) old now free →
    IsRaised (site_terms kinds (Some term.0.0) (replicate kinds (pos term.1))) (term.1 * kinds_limit) now new → one ≡ pos (term.1 * max_chain) →
    sum ≡ free +ℤ one → AreChainsWeighed kinds max_chain (take (i + 1) terms) old new sum
chains_weighed-more kinds max_chain terms i term old now new free one sum there is few so_far raised one_is sum_is =
    let more = total-more terms i term there is in
    let next = chains_free-more max_chain terms i term there is in
    let most = mul-le-mul_left term.1 few in
    let bottom = so_far.size.low in
    let top = so_far.size.high in
    record {
      raised = raised-more (λ (t : SiteNo × ℕ). site_terms kinds (Some t.0.0) (replicate kinds (pos t.1))) terms i term _ _ _ old now new there is so_far.raised raised (omega (arith, more));
      free_is = omega (arith, ints, sum_is, so_far.free_is, one_is, next);
      size = record { low = omega (arith, ints, sum_is, more, one_is, bottom); high = omega (arith, ints, sum_is, more, one_is, most, top) };
    }
