-- What a leaf takes from each variable: the value of a leaf is its scale's cost, a number for the leaf itself, and terms.
--
-- gain side kind: how much one buffer of the kind adds to the excess of a path: the least of its span early, and minus the
--   greatest late. gains_from side place kinds counts: the gains of these counts of kinds, of which the first has that place.
-- gains_sum side kinds buffers pins: the gains of the buffers in front of these pins.
-- var_terms var numbers: a term for each of these numbers, of the variables from `var` on.
-- site_terms kinds site numbers: the same at a site's variables, none where there is no site.
-- site_at sites pin: the place of the pin among the sites, if it is one.
-- pins_terms kinds sites numbers pins: these numbers at each of these pins that is a site.
-- path_numbers side times kinds: what a path takes from a site's variables, if it is taken so often: minus so many gains.
-- path_terms, listed_terms, paths_terms: the terms of a path, of a listed one, of a leaf's listed paths. Its first pin has none.
-- chains_terms: the terms of a leaf's sites. leaf_terms: all terms of a leaf.
-- free_excess, paths_free, chains_free, leaf_free: what is left of excesses, and of what the chain limits leave, without any buffers.
-- vars_from, site_vars, pins_vars, path_vars, listed_vars, paths_vars, chains_vars, leaf_vars: the variables of these terms.
use Rattle.std.specs.Prelude.{ℕ, zero, suc, ◌+◌, ◌*◌, ◌==◌, List, [], ◌∷◌, ◌++◌, length, map, replicate, flat_map, position, Option, Some, None, slice_get, ℤ, pos, neg_ℤ, ◌+ℤ◌, ◌*ℤ◌}
use Rattle.hold_base.specs.declared.number.PathNo.{PathNo}
use Rattle.hold_base.specs.declared.number.PinNo.{PinNo}
use Rattle.hold_base.specs.declared.number.SiteNo.{SiteNo}
use Rattle.hold_base.specs.declared.time.Interval.{Interval}
use Rattle.hold_base.specs.declared.time.Side.{Side}
use Rattle.hold_base.specs.declared.time.Side.TheVariants.{Early, Late}
use Rattle.hold_graph.specs.declared.problem.Spans.{Spans}
use Rattle.hold_graph.specs.declared.problem.Problem.{Problem}
use Rattle.hold_graph.specs.declared.problem.Listed.{Listed}
use Rattle.hold_graph.specs.Sums.{Buffers, no_buffers}
use Rattle.hold_graph.specs.Met.{excess}
use Rattle.hold_proof.specs.declared.node.Leaf.{Leaf}

abbrev pub gain : Side → Interval → ℤ
gain Early kind = kind.least
gain Late kind = neg_ℤ kind.greatest

abbrev pub gains_from : Side → ℕ → List Interval → (ℕ → ℕ) → ℤ
gains_from side place [] counts = pos 0
gains_from side place (kind ∷ kinds) counts = (pos (counts place) *ℤ gain side kind) +ℤ gains_from side (place + 1) kinds counts

abbrev pub gains_sum : Side → List Interval → Buffers → List PinNo → ℤ
gains_sum side kinds buffers [] = pos 0
gains_sum side kinds buffers (pin ∷ pins) = gains_from side 0 kinds (buffers pin) +ℤ gains_sum side kinds buffers pins

abbrev pub var_terms : ℕ → List ℤ → List (ℕ × ℤ)
var_terms var [] = []
var_terms var (number ∷ numbers) = (var, number) ∷ var_terms (var + 1) numbers

abbrev pub site_terms : ℕ → Option ℕ → List ℤ → List (ℕ × ℤ)
site_terms kinds None numbers = []
site_terms kinds (Some site) numbers = var_terms (site * kinds) numbers

abbrev pub site_at : List PinNo → PinNo → Option ℕ
site_at sites pin = position (λ site. site.0 == pin.0) sites

abbrev pub pins_terms : ℕ → List PinNo → List ℤ → List PinNo → List (ℕ × ℤ)
pins_terms kinds sites numbers pins = flat_map (λ pin. site_terms kinds (site_at sites pin) numbers) pins

abbrev pub path_numbers : Side → ℕ → List Interval → List ℤ
path_numbers side times kinds = map (λ kind. neg_ℤ (pos times *ℤ gain side kind)) kinds

-- the terms of a path, which has its first pin in front
abbrev pub path_terms : ℕ → List PinNo → List ℤ → List PinNo → List (ℕ × ℤ)
path_terms kinds sites numbers [] = []
path_terms kinds sites numbers (first ∷ pins) = pins_terms kinds sites numbers pins

abbrev pub corner_terms : Problem → List PinNo → ℕ → Listed → Option Spans → List (ℕ × ℤ)
corner_terms problem sites times path None = []
corner_terms problem sites times path (Some spans) =
    path_terms (length problem.costs) sites (path_numbers path.side times spans.kinds) path.pins

abbrev pub listed_terms : Problem → List PinNo → ℕ → Option Listed → List (ℕ × ℤ)
listed_terms problem sites times None = []
listed_terms problem sites times (Some path) = corner_terms problem sites times path (slice_get problem.corners path.corner.0)

abbrev pub paths_terms : Problem → List PinNo → List Listed → List (PathNo × ℕ) → List (ℕ × ℤ)
paths_terms problem sites paths terms = flat_map (λ (term : PathNo × ℕ). listed_terms problem sites term.1 (slice_get paths term.0.0)) terms

abbrev pub chains_terms : ℕ → List (SiteNo × ℕ) → List (ℕ × ℤ)
chains_terms kinds terms = flat_map (λ (term : SiteNo × ℕ). site_terms kinds (Some term.0.0) (replicate kinds (pos term.1))) terms

abbrev pub leaf_terms : Problem → List PinNo → List Listed → Leaf → List (ℕ × ℤ)
leaf_terms problem sites paths leaf = paths_terms problem sites paths leaf.paths ++ chains_terms (length problem.costs) leaf.chains

abbrev pub corner_free : Problem → Listed → Option Spans → ℤ
corner_free problem path None = pos 0
corner_free problem path (Some spans) = excess path.side problem spans no_buffers path.pins

abbrev pub free_excess : Problem → Option Listed → ℤ
free_excess problem None = pos 0
free_excess problem (Some path) = corner_free problem path (slice_get problem.corners path.corner.0)

abbrev pub paths_free : Problem → List Listed → List (PathNo × ℕ) → ℤ
paths_free problem paths [] = pos 0
paths_free problem paths (term ∷ terms) = (pos term.1 *ℤ free_excess problem (slice_get paths term.0.0)) +ℤ paths_free problem paths terms

abbrev pub chains_free : ℕ → List (SiteNo × ℕ) → ℤ
chains_free max_chain [] = pos 0
chains_free max_chain (term ∷ terms) = pos (term.1 * max_chain) +ℤ chains_free max_chain terms

abbrev pub leaf_free : Problem → List Listed → Leaf → ℤ
leaf_free problem paths leaf = paths_free problem paths leaf.paths +ℤ chains_free problem.max_chain leaf.chains

-- the variables of the terms
abbrev pub vars_from : ℕ → ℕ → List ℕ
vars_from var zero = []
vars_from var (suc n) = var ∷ vars_from (var + 1) n

abbrev pub site_vars : ℕ → Option ℕ → List ℕ
site_vars kinds None = []
site_vars kinds (Some site) = vars_from (site * kinds) kinds

abbrev pub pins_vars : ℕ → List PinNo → List PinNo → List ℕ
pins_vars kinds sites pins = flat_map (λ pin. site_vars kinds (site_at sites pin)) pins

abbrev pub path_vars : ℕ → List PinNo → List PinNo → List ℕ
path_vars kinds sites [] = []
path_vars kinds sites (first ∷ pins) = pins_vars kinds sites pins

abbrev pub corner_vars : ℕ → List PinNo → Listed → Option Spans → List ℕ
corner_vars kinds sites path None = []
corner_vars kinds sites path (Some spans) = path_vars kinds sites path.pins

abbrev pub listed_vars : Problem → List PinNo → Option Listed → List ℕ
listed_vars problem sites None = []
listed_vars problem sites (Some path) = corner_vars (length problem.costs) sites path (slice_get problem.corners path.corner.0)

abbrev pub paths_vars : Problem → List PinNo → List Listed → List (PathNo × ℕ) → List ℕ
paths_vars problem sites paths terms = flat_map (λ (term : PathNo × ℕ). listed_vars problem sites (slice_get paths term.0.0)) terms

abbrev pub chains_vars : ℕ → List (SiteNo × ℕ) → List ℕ
chains_vars kinds terms = flat_map (λ (term : SiteNo × ℕ). site_vars kinds (Some term.0.0)) terms

abbrev pub leaf_vars : Problem → List PinNo → List Listed → Leaf → List ℕ
leaf_vars problem sites paths leaf = paths_vars problem sites paths leaf.paths ++ chains_vars (length problem.costs) leaf.chains
