-- The terms of a leaf: with what is free of buffers they come to the leaf's value.
use Rattle.std.proofs.Common.{◌≡◌, ℕ, zero, suc, ◌+◌, ◌*◌, ◌-◌, List, [], ◌∷◌, ◌++◌, length, get_or, take, drop, replicate, refl, ap, ◌∙◌, arith}
use Rattle.std.specs.Prelude.{Option, Some, None, slice_get, sum, ℤ, pos, neg_ℤ, ◌+ℤ◌, ◌-ℤ◌, ◌*ℤ◌}
use Rattle.std.proofs.lemmas.Int.{ints}
use Rattle.std.proofs.lemmas.List.Sums.{sum_by-cons}
use Rattle.std.proofs.Math.IntN.{*ℤ_comm, zero-*ℤ}
use Rattle.hold_base.specs.declared.number.PathNo.{PathNo}
use Rattle.hold_base.specs.declared.number.PinNo.{PinNo}
use Rattle.hold_base.specs.declared.number.SiteNo.{SiteNo}
use Rattle.hold_base.specs.declared.time.Interval.{Interval}
use Rattle.hold_base.specs.declared.time.Side.{Side}
use Rattle.hold_base.specs.declared.time.Side.TheVariants.{Early, Late}
use Rattle.hold_graph.specs.declared.graph.Arc.{Arc}
use Rattle.hold_graph.specs.declared.problem.Spans.{Spans}
use Rattle.hold_graph.specs.declared.problem.Problem.{Problem}
use Rattle.hold_graph.specs.declared.problem.Listed.{Listed}
use Rattle.hold_graph.specs.Sums.{Buffers, no_buffers, added_from, steps_sum}
use Rattle.hold_graph.specs.Met.{excess}
use Rattle.hold_graph.specs.Sites.{count_at, buffers_of, chain_sum, cost_of}
use Rattle.hold_proof.specs.declared.node.Leaf.{Leaf}
use Rattle.hold_proof.specs.Values.{excess_in, listed_excess, paths_value, chains_value, leaf_value}
use Rattle.hold_proof.specs.inner.Forms.{terms_value}
use Rattle.hold_proof.specs.inner.LeafTerms.{gain, gains_from, gains_sum, var_terms, site_terms, site_at, pins_terms, path_numbers, path_terms, corner_terms, listed_terms, paths_terms, chains_terms, leaf_terms, corner_free, free_excess, paths_free, chains_free, leaf_free}
use Rattle.hold_proof.proofs.Products.{times-add_right, times-sub_right, times-neg_left, times-times}

pub terms_value-append : (first rest : List (ℕ × ℤ)) (counts : List ℕ) → terms_value (first ++ rest) counts ≡ terms_value first counts +ℤ terms_value rest counts
terms_value-append [] rest counts = omega (arith, ints)
terms_value-append (term ∷ first) rest counts = let more = terms_value-append first rest counts in omega (arith, ints, more)

-- a term that takes so many gains
taken : (times count : ℕ) (number : ℤ) → neg_ℤ (pos times *ℤ number) *ℤ pos count ≡ neg_ℤ (pos times *ℤ (pos count *ℤ number))
taken times count number =
    times-neg_left (pos times *ℤ number) (pos count) ∙ ap neg_ℤ (times-times (pos times) number (pos count) ∙ ap (λ z. pos times *ℤ z) (*ℤ_comm number (pos count)))

terms_value-gains : (side : Side) (times base place : ℕ) (kinds : List Interval) (counts : List ℕ) →
    terms_value (var_terms (base + place) (path_numbers side times kinds)) counts ≡ neg_ℤ (pos times *ℤ gains_from side place kinds (λ kind. get_or counts (base + kind) 0))
terms_value-gains side times base place [] counts = omega (arith, ints)
terms_value-gains side times base place (kind ∷ kinds) counts =
    let here = taken times (get_or counts (base + place) 0) (gain side kind) in
    let next : (base + place) + 1 ≡ base + (place + 1) = omega arith in
    let rest : terms_value (var_terms ((base + place) + 1) (path_numbers side times kinds)) counts ≡ neg_ℤ (pos times *ℤ gains_from side (place + 1) kinds (λ kind. get_or counts (base + kind) 0)) =
    ap (λ var. terms_value (var_terms var (path_numbers side times kinds)) counts) next ∙ terms_value-gains side times base (place + 1) kinds counts in
    let whole = times-add_right (pos times) (pos (get_or counts (base + place) 0) *ℤ gain side kind) (gains_from side (place + 1) kinds (λ kind. get_or counts (base + kind) 0)) in
    omega (arith, ints, here, rest, whole)

gains_from-none : (side : Side) (place : ℕ) (kinds : List Interval) → gains_from side place kinds (λ kind. 0) ≡ pos 0
gains_from-none side place [] = refl
gains_from-none side place (kind ∷ kinds) =
    let here = zero-*ℤ (gain side kind) in
    let rest = gains_from-none side (place + 1) kinds in
    omega (arith, ints, here, rest)

-- the terms at one pin
terms_value-site : (side : Side) (times : ℕ) (kinds : List Interval) (n : ℕ) (site : Option ℕ) (counts : List ℕ) →
    terms_value (site_terms n site (path_numbers side times kinds)) counts ≡ neg_ℤ (pos times *ℤ gains_from side 0 kinds (count_at n counts site))
terms_value-site side times kinds n None counts =
    let none = gains_from-none side 0 kinds in
    let product = ap (λ z. pos times *ℤ z) none in
    omega (arith, ints, product)
terms_value-site side times kinds n (Some site) counts =
    ap (λ var. terms_value (var_terms var (path_numbers side times kinds)) counts) (omega arith) ∙ terms_value-gains side times (site * n) 0 kinds counts

terms_value-pins : (side : Side) (times : ℕ) (kinds : List Interval) (n : ℕ) (sites pins : List PinNo) (counts : List ℕ) →
    terms_value (pins_terms n sites (path_numbers side times kinds) pins) counts ≡ neg_ℤ (pos times *ℤ gains_sum side kinds (buffers_of n sites counts) pins)
terms_value-pins side times kinds n sites [] counts = omega (arith, ints)
terms_value-pins side times kinds n sites (pin ∷ pins) counts =
    let split = terms_value-append (site_terms n (site_at sites pin) (path_numbers side times kinds)) (pins_terms n sites (path_numbers side times kinds) pins) counts in
    let here = terms_value-site side times kinds n (site_at sites pin) counts in
    let rest = terms_value-pins side times kinds n sites pins counts in
    let whole = times-add_right (pos times) (gains_from side 0 kinds (buffers_of n sites counts pin)) (gains_sum side kinds (buffers_of n sites counts) pins) in
    omega (arith, ints, split, here, rest, whole)

-- what buffers add, early and late
added_from-early : (place : ℕ) (kinds : List Interval) (counts : ℕ → ℕ) → added_from Early place kinds counts ≡ gains_from Early place kinds counts
added_from-early place [] counts = refl
added_from-early place (kind ∷ kinds) counts = ap (λ z. (pos (counts place) *ℤ kind.least) +ℤ z) (added_from-early (place + 1) kinds counts)

times-neg_right : (count : ℕ) (number : ℤ) → pos count *ℤ neg_ℤ number ≡ neg_ℤ (pos count *ℤ number)
times-neg_right count number = *ℤ_comm (pos count) (neg_ℤ number) ∙ times-neg_left number (pos count) ∙ ap neg_ℤ (*ℤ_comm number (pos count))

added_from-late : (place : ℕ) (kinds : List Interval) (counts : ℕ → ℕ) → added_from Late place kinds counts ≡ neg_ℤ (gains_from Late place kinds counts)
added_from-late place [] counts = refl
added_from-late place (kind ∷ kinds) counts =
    let here = times-neg_right (counts place) kind.greatest in
    let rest = added_from-late (place + 1) kinds counts in
    omega (arith, ints, here, rest)

pub added_from-none : (side : Side) (place : ℕ) (kinds : List Interval) → added_from side place kinds (λ kind. 0) ≡ pos 0
added_from-none Early place kinds = added_from-early place kinds (λ kind. 0) ∙ gains_from-none Early place kinds
added_from-none Late place kinds = added_from-late place kinds (λ kind. 0) ∙ ap neg_ℤ (gains_from-none Late place kinds)

steps_sum-early : (arcs : List Arc) (spans : Spans) (buffers : Buffers) (a : PinNo) (pins : List PinNo) →
    steps_sum Early arcs spans buffers a pins ≡ steps_sum Early arcs spans no_buffers a pins +ℤ gains_sum Early spans.kinds buffers pins
steps_sum-early arcs spans buffers a [] = refl
steps_sum-early arcs spans buffers a (b ∷ pins) =
    let here = added_from-early 0 spans.kinds (buffers b) in
    let none = added_from-none Early 0 spans.kinds in
    let rest = steps_sum-early arcs spans buffers b pins in
    omega (arith, ints, here, none, rest)

steps_sum-late : (arcs : List Arc) (spans : Spans) (buffers : Buffers) (a : PinNo) (pins : List PinNo) →
    steps_sum Late arcs spans buffers a pins ≡ steps_sum Late arcs spans no_buffers a pins -ℤ gains_sum Late spans.kinds buffers pins
steps_sum-late arcs spans buffers a [] = refl
steps_sum-late arcs spans buffers a (b ∷ pins) =
    let here = added_from-late 0 spans.kinds (buffers b) in
    let none = added_from-none Late 0 spans.kinds in
    let rest = steps_sum-late arcs spans buffers b pins in
    omega (arith, ints, here, none, rest)

-- an excess is that without buffers, and what they gain in front of the pins after the first
pub excess-gains : (side : Side) (problem : Problem) (spans : Spans) (buffers : Buffers) (first : PinNo) (pins : List PinNo) →
    excess side problem spans buffers (first ∷ pins) ≡ excess side problem spans no_buffers (first ∷ pins) +ℤ gains_sum side spans.kinds buffers pins
excess-gains Early problem spans buffers first pins = let sum = steps_sum-early problem.graph.arcs spans buffers first pins in omega (arith, ints, sum)
excess-gains Late problem spans buffers first pins = let sum = steps_sum-late problem.graph.arcs spans buffers first pins in omega (arith, ints, sum)

excess-none : (side : Side) (problem : Problem) (spans : Spans) (buffers : Buffers) → excess side problem spans buffers [] ≡ excess side problem spans no_buffers []
excess-none Early problem spans buffers = refl
excess-none Late problem spans buffers = refl

-- so many times the excess of a path
times-excess : (side : Side) (problem : Problem) (spans : Spans) (sites : List PinNo) (counts : List ℕ) (times : ℕ) (pins : List PinNo) →
    pos times *ℤ excess side problem spans (buffers_of (length problem.costs) sites counts) pins
    ≡ (pos times *ℤ excess side problem spans no_buffers pins) -ℤ terms_value (path_terms (length problem.costs) sites (path_numbers side times spans.kinds) pins) counts
times-excess side problem spans sites counts times [] =
    let same = ap (λ z. pos times *ℤ z) (excess-none side problem spans (buffers_of (length problem.costs) sites counts)) in
    omega (arith, ints, same)
times-excess side problem spans sites counts times (first ∷ pins) =
    let parts = ap (λ z. pos times *ℤ z) (excess-gains side problem spans (buffers_of (length problem.costs) sites counts) first pins) in
    let whole = times-add_right (pos times) (excess side problem spans no_buffers (first ∷ pins)) (gains_sum side spans.kinds (buffers_of (length problem.costs) sites counts) pins) in
    let terms = terms_value-pins side times spans.kinds (length problem.costs) sites pins counts in
    omega (arith, ints, parts, whole, terms)

times-corner : (problem : Problem) (sites : List PinNo) (counts : List ℕ) (times : ℕ) (path : Listed) (corner : Option Spans) →
    pos times *ℤ excess_in problem sites counts path corner ≡ (pos times *ℤ corner_free problem path corner) -ℤ terms_value (corner_terms problem sites times path corner) counts
times-corner problem sites counts times path None = omega (arith, ints)
times-corner problem sites counts times path (Some spans) = times-excess path.side problem spans sites counts times path.pins

times-listed : (problem : Problem) (sites : List PinNo) (counts : List ℕ) (times : ℕ) (listed : Option Listed) →
    pos times *ℤ listed_excess problem sites counts listed ≡ (pos times *ℤ free_excess problem listed) -ℤ terms_value (listed_terms problem sites times listed) counts
times-listed problem sites counts times None = omega (arith, ints)
times-listed problem sites counts times (Some path) = times-corner problem sites counts times path (slice_get problem.corners path.corner.0)

paths_value-terms : (problem : Problem) (sites : List PinNo) (paths : List Listed) (counts : List ℕ) (terms : List (PathNo × ℕ)) →
    paths_value problem sites paths counts terms ≡ paths_free problem paths terms -ℤ terms_value (paths_terms problem sites paths terms) counts
paths_value-terms problem sites paths counts [] = omega (arith, ints)
paths_value-terms problem sites paths counts (term ∷ terms) =
    let here = times-listed problem sites counts term.1 (slice_get paths term.0.0) in
    let rest = paths_value-terms problem sites paths counts terms in
    let split = terms_value-append (listed_terms problem sites term.1 (slice_get paths term.0.0)) (paths_terms problem sites paths terms) counts in
    omega (arith, ints, here, rest, split)

-- a range's sum, by its first item
sum-range : (counts : List ℕ) (var n : ℕ) → sum (take (suc n) (drop var counts)) ≡ get_or counts var 0 + sum (take n (drop (var + 1) counts))
sum-range [] zero zero = refl
sum-range [] zero (suc n) = refl
sum-range [] (suc var) zero = refl
sum-range [] (suc var) (suc n) = let next : suc var + 1 ≡ suc (var + 1) = omega arith in rw next refl
sum-range (count ∷ counts) zero n = sum_by-cons (λ (y : ℕ). y) count (take n counts)
sum-range (count ∷ counts) (suc var) n =
    let next : suc var + 1 ≡ suc (var + 1) = omega arith in rw next (sum-range counts var n)

terms_value-same : (var times n : ℕ) (counts : List ℕ) → terms_value (var_terms var (replicate n (pos times))) counts ≡ pos (times * sum (take n (drop var counts)))
terms_value-same var times zero counts = omega (arith, ints)
terms_value-same var times (suc n) counts =
    let here = sum-range counts var n in
    let product = ap (λ sum. times * sum) here in
    let rest = terms_value-same (var + 1) times n counts in
    omega (arith, ints, product, rest)

chains_value-terms : (problem : Problem) (counts : List ℕ) (terms : List (SiteNo × ℕ)) →
    chains_value problem counts terms ≡ chains_free problem.max_chain terms -ℤ terms_value (chains_terms (length problem.costs) terms) counts
chains_value-terms problem counts [] = omega (arith, ints)
chains_value-terms problem counts (term ∷ terms) =
    let wide : (term.0.0 * length problem.costs + length problem.costs) - term.0.0 * length problem.costs ≡ length problem.costs = omega arith in
    let sums : chain_sum (length problem.costs) counts term.0.0 ≡ sum (take (length problem.costs) (drop (term.0.0 * length problem.costs) counts)) =
    ap (λ n. sum (take n (drop (term.0.0 * length problem.costs) counts))) wide in
    let product = ap (λ sum. term.1 * sum) sums in
    let same = terms_value-same (term.0.0 * length problem.costs) term.1 (length problem.costs) counts in
    let rest = chains_value-terms problem counts terms in
    let split = terms_value-append (site_terms (length problem.costs) (Some term.0.0) (replicate (length problem.costs) (pos term.1))) (chains_terms (length problem.costs) terms) counts in
    let whole = times-sub_right (pos term.1) (pos problem.max_chain) (pos (chain_sum (length problem.costs) counts term.0.0)) in
    omega (arith, ints, product, same, rest, split, whole)

pub leaf_value-terms : (problem : Problem) (sites : List PinNo) (paths : List Listed) (leaf : Leaf) (counts : List ℕ) →
    leaf_value problem sites paths leaf counts
    ≡ (pos (leaf.scale * cost_of problem.costs counts) +ℤ terms_value (leaf_terms problem sites paths leaf) counts) -ℤ leaf_free problem paths leaf
leaf_value-terms problem sites paths leaf counts =
    let first = paths_value-terms problem sites paths counts leaf.paths in
    let second = chains_value-terms problem counts leaf.chains in
    let split = terms_value-append (paths_terms problem sites paths leaf.paths) (chains_terms (length problem.costs) leaf.chains) counts in
    omega (arith, ints, first, second, split)
