-- What holds at the corners of a problem, read from the lists of a table.
use Rattle.std.proofs.Common.{◌≡◌, ℕ, zero, suc, ◌+◌, ◌<◌, ◌≤◌, List, [], ◌∷◌, ◌++◌, map, length, refl, ap, sym, ◌∙◌, arith, get_or, set, ◌⊎◌, inl, inr, subst, false}
use Rattle.std.specs.Prelude.{Option, Some, None, ℤ, pos, neg_ℤ, ◌≤ℤ◌, ◌<ℤ◌, slice_get, IsTrue}
use Rattle.std.proofs.lemmas.Bool.{cases_eq}
use Rattle.std.proofs.lemmas.Int.{ints}
use Rattle.std.proofs.lemmas.Option.{same_Some, none-some, slice_get_within, slice_get-get_or, get_or_from_slice_get}
use Rattle.hold_base.specs.declared.number.CornerNo.{CornerNo}
use Rattle.hold_base.specs.declared.number.PinNo.{PinNo}
use Rattle.hold_base.specs.declared.time.Side.{Side}
use Rattle.hold_graph.specs.declared.problem.Spans.{Spans}
use Rattle.hold_graph.specs.declared.problem.Problem.{Problem}
use Rattle.hold_graph.specs.declared.problem.Listed.{Listed}
use Rattle.hold_graph.specs.SitePins.{AreSites}
use Rattle.hold_graph.specs.Sites.{buffers_of}
use Rattle.hold_graph.specs.Sums.{Buffers}
use Rattle.hold_graph.specs.Met.{excess, IsMet, Misses}
use Rattle.hold_timing.specs.Arrivals.{Times, Table, times_at, AtCorner, AreTimesOf, AreSideTimes, AreArrivals}
use Rattle.hold_timing.specs.Ends.{SomeMisses}
use Rattle.hold_timing.specs.inner.Search.{AreRoomFor, IsMetAt, IsMissedAt}

no_spans : Spans
no_spans = record { arcs = []; launch = []; capture = []; setup = []; hold = []; kinds = [] }

-- what holds of the spans read from a list of the corners holds at the corner
pub at_corner : (problem : Problem) (counts given : List ℕ) (corner : ℕ) (corners : List Spans) (here : Spans) (P : Spans → Buffers → Type 0) →
    corners ≡ problem.corners → here ≡ get_or corners corner here → given ≡ counts →
    ((sites : List PinNo) → AreSites problem.graph sites → P here (buffers_of (length problem.costs) sites given)) → AtCorner problem counts corner P
at_corner problem counts given corner corners here P is here_is same h = λ spans sites at are.
    let there : here ≡ spans = here_is ∙ get_or_from_slice_get corners corner spans here (subst (λ (xs : List Spans). slice_get xs corner ≡ Some spans) (sym is) at) in
    let Of : List ℕ → Type 0 = λ xs. P spans (buffers_of (length problem.costs) sites xs) in
    let At : Spans → Type 0 = λ s. P s (buffers_of (length problem.costs) sites given) in
    subst Of same (subst At there (h sites are))

-- the times of a corner, read from the lists of a table
pub times_there : (problem : Problem) (table : Table) (side : Side) (corner : ℕ) (given : List ℕ) (corners : List Spans) (spans : Spans) (all : List Times) (times : Times) →
    AreArrivals problem table → corner < length problem.corners → corners ≡ problem.corners → spans ≡ get_or corners corner spans → all ≡ times_at side table →
    times ≡ get_or all corner times → given ≡ table.counts → (sites : List PinNo) → AreSites problem.graph sites →
    AreTimesOf side problem spans (buffers_of (length problem.costs) sites given) times
times_there problem table side corner given corners spans all times h below is_corners spans_is is_all times_is is_counts = λ sites are.
    let each : length (times_at side table) ≡ length problem.corners = (h.sides side).each in
    let at_times : slice_get (times_at side table) corner ≡ Some times =
    slice_get-get_or (times_at side table) corner times (omega (arith, each, below))
    ∙ ap (λ (t : Times). Some t) (sym (times_is ∙ ap (λ (xs : List Times). get_or xs corner times) is_all)) in
    let at_spans : slice_get problem.corners corner ≡ Some spans =
    slice_get-get_or problem.corners corner spans below ∙ ap (λ (s : Spans). Some s) (sym (spans_is ∙ ap (λ (xs : List Spans). get_or xs corner spans) is_corners)) in
    let Of : List ℕ → Type 0 = λ xs. AreTimesOf side problem spans (buffers_of (length problem.costs) sites xs) times in
    subst Of (sym is_counts) ((h.sides side).right corner times at_times spans sites at_spans are)

-- the times of other counts leave room
pub room_of : (side : Side) (problem : Problem) (counts : List ℕ) (all : List Times) (sites : List PinNo) → AreSites problem.graph sites → AreSideTimes side problem counts all → AreRoomFor side problem all
room_of side problem counts all sites are h = record {
  corners = h.each;
  each = λ corner times at.
      let below : corner < length all = slice_get_within all corner times at in
      let each : length all ≡ length problem.corners = h.each in
      (h.right corner times at (get_or problem.corners corner no_spans) sites (slice_get-get_or problem.corners corner no_spans (omega (arith, below, each))) are).each;
  asked = λ corner times spans at is. (h.right corner times at spans sites is are).asked;
}

-- a path that misses at a side of a corner, with by how much
pub missed-some : (problem : Problem) (counts : List ℕ) (corner : CornerNo) (side : Side) (sites : List PinNo) → AreSites problem.graph sites → corner.0 < length problem.corners →
    AtCorner problem counts corner.0 (IsMissedAt side problem) → SomeMisses problem (buffers_of (length problem.costs) sites counts)
missed-some problem counts corner side sites are below missed =
    let spans : Spans = get_or problem.corners corner.0 no_spans in
    let at = slice_get-get_or problem.corners corner.0 no_spans below in
    let path = missed (get_or problem.corners corner.0 no_spans) sites at are in
    let x : ℤ = excess side problem (get_or problem.corners corner.0 no_spans) (buffers_of (length problem.costs) sites counts) path.0 in
    let under : excess side problem (get_or problem.corners corner.0 no_spans) (buffers_of (length problem.costs) sites counts) path.0 <ℤ pos 0 = path.2 in (
      record { side = side; corner = corner; pins = path.0 },
      neg_ℤ (excess side problem (get_or problem.corners corner.0 no_spans) (buffers_of (length problem.costs) sites counts) path.0),
      record {
        spans = get_or problem.corners corner.0 no_spans;
        corner = at;
        checked = path.1;
        above = omega (arith, ints, under);
        by = omega (arith, ints);
      },
    )

pub missed-unmet : (problem : Problem) (buffers : Buffers) → SomeMisses problem buffers → IsMet problem buffers → ⊥
missed-unmet problem buffers some met =
    let miss = some.2 in
    let above = miss.above in
    let by = miss.by in
    let le = met some.0.corner.0 miss.spans miss.corner some.0.side some.0.pins miss.checked in
    omega (arith, ints, above, by, le)

pub not_true : IsTrue false → ⊥
not_true t = cc

-- where the sides of each corner are met, the problem is
pub met-all : (problem : Problem) (counts : List ℕ) (k : ℕ) (sites : List PinNo) → AreSites problem.graph sites → length problem.corners ≤ k →
    ((corner : ℕ) (side : Side) → corner < k → AtCorner problem counts corner (IsMetAt side problem)) → IsMet problem (buffers_of (length problem.costs) sites counts)
met-all problem counts k sites are all met = λ corner spans at side path checked.
    let below : corner < length problem.corners = slice_get_within problem.corners corner spans at in
    met corner side (omega (arith, below, all)) spans sites at are path checked

pub slice_get-set_same : {X : Type 0} (xs : List X) (k : ℕ) (x : X) → k < length xs → slice_get (set xs k x) k ≡ Some x
slice_get-set_same [] k x lt = absurd (omega arith)
slice_get-set_same (y ∷ xs) zero x lt = refl
slice_get-set_same (y ∷ xs) (suc k) x lt = slice_get-set_same xs k x (omega arith)

pub slice_get-set_other : {X : Type 0} (xs : List X) (k j : ℕ) (x : X) → (j ≡ k → ⊥) → slice_get (set xs k x) j ≡ slice_get xs j
slice_get-set_other [] k j x other = refl
slice_get-set_other (y ∷ xs) zero zero x other = absurd (other refl)
slice_get-set_other (y ∷ xs) zero (suc j) x other = refl
slice_get-set_other (y ∷ xs) (suc k) zero x other = refl
slice_get-set_other (y ∷ xs) (suc k) (suc j) x other = slice_get-set_other xs k j x (λ e. other (ap (λ (n : ℕ). suc n) e))

pub slice_get_push : {X : Type 0} (xs : List X) (x : X) (k : ℕ) (y : X) → slice_get (xs ++ x ∷ []) k ≡ Some y → (slice_get xs k ≡ Some y) ⊎ ((k ≡ length xs) × (x ≡ y))
slice_get_push [] x zero y at = inr (refl, same_Some x y at)
slice_get_push [] x (suc k) y at = absurd (none-some y at)
slice_get_push (z ∷ xs) x zero y at = inl at
slice_get_push (z ∷ xs) x (suc k) y at = one_more (slice_get_push xs x k y at)
  where
    one_more : ((slice_get xs k ≡ Some y) ⊎ ((k ≡ length xs) × (x ≡ y))) → (slice_get xs k ≡ Some y) ⊎ ((suc k ≡ suc (length xs)) × (x ≡ y))
    one_more (inl e) = inl e
    one_more (inr e) = inr (ap (λ (n : ℕ). suc n) e.0, e.1)

-- one corner's turn of a refresh
pub turn_done : (problem : Problem) (counts : List ℕ) (side : Side) (k : ℕ) (all : List Times) (new : Times) → k < length all →
    ((corner : ℕ) (times : Times) → corner < k → slice_get all corner ≡ Some times → AtCorner problem counts corner (λ spans buffers. AreTimesOf side problem spans buffers times)) →
    AtCorner problem counts k (λ spans buffers. AreTimesOf side problem spans buffers new) →
    (corner : ℕ) (times : Times) → corner < k + 1 → slice_get (set all k new) corner ≡ Some times → AtCorner problem counts corner (λ spans buffers. AreTimesOf side problem spans buffers times)
turn_done problem counts side k all new below done here = λ corner times lt at. by_case corner times lt at (cases_eq corner k)
  where
    Right : ℕ → Times → Type 0
    Right corner times = AtCorner problem counts corner (λ spans buffers. AreTimesOf side problem spans buffers times)

    by_case : (corner : ℕ) (times : Times) → corner < k + 1 → slice_get (set all k new) corner ≡ Some times → ((corner ≡ k) ⊎ (corner ≡ k → ⊥)) → Right corner times
    by_case corner times lt at (inl same) =
        let is : new ≡ times = same_Some new times (sym (slice_get-set_same all k new below) ∙ ap (slice_get (set all k new)) (sym same) ∙ at) in
        subst (λ (j : ℕ). Right j times) (sym same) (subst (Right k) is here)
    by_case corner times lt at (inr other) = done corner times (omega (arith, other, lt)) (sym (slice_get-set_other all k corner new other) ∙ at)

-- one corner more
pub corners_more : (problem : Problem) (counts : List ℕ) (side : Side) (k : ℕ) (all new : List Times) (here : Spans) (times : Times) → length all ≡ k → new ≡ all ++ times ∷ [] →
    here ≡ get_or problem.corners k here →
    ((corner : ℕ) (t : Times) → slice_get all corner ≡ Some t → AtCorner problem counts corner (λ spans buffers. AreTimesOf side problem spans buffers t)) →
    ((sites : List PinNo) → AreSites problem.graph sites → AreTimesOf side problem here (buffers_of (length problem.costs) sites counts) times) →
    (corner : ℕ) (t : Times) → slice_get new corner ≡ Some t → AtCorner problem counts corner (λ spans buffers. AreTimesOf side problem spans buffers t)
corners_more problem counts side k all new here times len pushed here_is done right = λ corner t at.
    by_case corner t (slice_get_push all times corner t (subst (λ (xs : List Times). slice_get xs corner ≡ Some t) pushed at))
  where
    Right : ℕ → Times → Type 0
    Right corner t = AtCorner problem counts corner (λ spans buffers. AreTimesOf side problem spans buffers t)

    last : Right k times
    last = at_corner problem counts counts k problem.corners here (λ spans buffers. AreTimesOf side problem spans buffers times) refl here_is refl right

    by_case : (corner : ℕ) (t : Times) → ((slice_get all corner ≡ Some t) ⊎ ((corner ≡ length all) × (times ≡ t))) → Right corner t
    by_case corner t (inl at) = done corner t at
    by_case corner t (inr end) = subst (λ (j : ℕ). Right j t) (sym (end.0 ∙ len)) (subst (Right k) end.1 last)
