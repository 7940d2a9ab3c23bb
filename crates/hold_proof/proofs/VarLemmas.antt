-- The variables of a leaf's terms: each is one of the problem's.
use Rattle.std.proofs.Common.{◌≡◌, ℕ, zero, suc, ◌+◌, ◌*◌, ◌<◌, ◌≤◌, ◌==◌, List, [], ◌∷◌, ◌++◌, length, map, replicate, refl, ap, ◌∙◌, inl, inr, arith}
use Rattle.std.specs.Prelude.{flat_map, Option, Some, None, slice_get, All, ℤ, pos}
use Rattle.std.specs.List.{AllByRecursion}
use Rattle.std.proofs.lemmas.List.{length-map, length-replicate, map-append}
use Rattle.std.proofs.lemmas.List.Elements.{All-head, All-tail}
use Rattle.std.proofs.lemmas.List.Quantifiers.{position-Some}
use Rattle.std.proofs.Math.Nat.{mul-le-mul_right}
use Rattle.hold_base.proofs.Lists.{AllByRecursion-append, AllByRecursion-weaken}
use Rattle.hold_base.specs.declared.number.PathNo.{PathNo}
use Rattle.hold_base.specs.declared.number.PinNo.{PinNo}
use Rattle.hold_base.specs.declared.number.SiteNo.{SiteNo}
use Rattle.hold_graph.specs.declared.problem.Spans.{Spans}
use Rattle.hold_graph.specs.declared.problem.Problem.{Problem}
use Rattle.hold_graph.specs.declared.problem.Listed.{Listed}
use Rattle.hold_graph.specs.Problem.{IsValidCorner}
use Rattle.hold_proof.specs.declared.node.Leaf.{Leaf}
use Rattle.hold_proof.specs.inner.LeafTerms.{var_terms, site_terms, site_at, pins_terms, path_numbers, path_terms, corner_terms, listed_terms, paths_terms, chains_terms, leaf_terms, vars_from, site_vars, path_vars, corner_vars, listed_vars, paths_vars, leaf_vars}
use Rattle.hold_proof.proofs.FormLemmas.{AreBelow, IsAmong}

-- the corner is one of the problem's, if there is one
abbrev IsKnownCorner : Problem → Option Spans → Type 0
IsKnownCorner problem None = Unit {0}
IsKnownCorner problem (Some spans) = length spans.kinds ≡ length problem.costs

known-corner : (problem : Problem) (corners : List Spans) (number : ℕ) → All (IsValidCorner problem) corners → IsKnownCorner problem (slice_get corners number)
known-corner problem [] number valid = tt
known-corner problem (spans ∷ corners) zero valid = let here = All-head (IsValidCorner problem) spans corners valid in here.kinds_each
known-corner problem (spans ∷ corners) (suc number) valid = known-corner problem corners number (All-tail (IsValidCorner problem) spans corners valid)

var_terms-below : (vars var : ℕ) (numbers : List ℤ) → var + length numbers ≤ vars → AreBelow vars (var_terms var numbers)
var_terms-below vars var [] there = tt
var_terms-below vars var (number ∷ numbers) there = (omega arith, var_terms-below vars (var + 1) numbers (omega arith))

-- the terms of a site that is there
site_terms-below : (kinds sites site : ℕ) (numbers : List ℤ) → site < sites → length numbers ≡ kinds → AreBelow (sites * kinds) (site_terms kinds (Some site) numbers)
site_terms-below kinds sites site numbers there each =
    let above : suc site ≤ sites = omega arith in
    let room = mul-le-mul_right kinds above in
    var_terms-below (sites * kinds) (site * kinds) numbers (omega (arith, room))

site_at-there : (sites : List PinNo) (pin : PinNo) (site : ℕ) → site_at sites pin ≡ Some site → site < length sites
site_at-there sites pin site is = (position-Some (λ (s : PinNo). s.0 == pin.0) sites site pin is).0

some_terms-below : (kinds : ℕ) (sites : List PinNo) (site : Option ℕ) (numbers : List ℤ) → ((place : ℕ) → site ≡ Some place → place < length sites) → length numbers ≡ kinds →
    AreBelow (length sites * kinds) (site_terms kinds site numbers)
some_terms-below kinds sites None numbers there each = tt
some_terms-below kinds sites (Some site) numbers there each = site_terms-below kinds (length sites) site numbers (there site refl) each

pins_terms-below : (kinds : ℕ) (sites : List PinNo) (numbers : List ℤ) (pins : List PinNo) → length numbers ≡ kinds → AreBelow (length sites * kinds) (pins_terms kinds sites numbers pins)
pins_terms-below kinds sites numbers [] each = tt
pins_terms-below kinds sites numbers (pin ∷ pins) each =
    AllByRecursion-append (λ (term : ℕ × ℤ). term.0 < length sites * kinds) (site_terms kinds (site_at sites pin) numbers) (pins_terms kinds sites numbers pins)
    (some_terms-below kinds sites (site_at sites pin) numbers (site_at-there sites pin) each) (pins_terms-below kinds sites numbers pins each)

path_terms-below : (kinds : ℕ) (sites : List PinNo) (numbers : List ℤ) (pins : List PinNo) → length numbers ≡ kinds → AreBelow (length sites * kinds) (path_terms kinds sites numbers pins)
path_terms-below kinds sites numbers [] each = tt
path_terms-below kinds sites numbers (first ∷ pins) each = pins_terms-below kinds sites numbers pins each

corner_terms-below : (problem : Problem) (sites : List PinNo) (times : ℕ) (path : Listed) (corner : Option Spans) → IsKnownCorner problem corner →
    AreBelow (length sites * length problem.costs) (corner_terms problem sites times path corner)
corner_terms-below problem sites times path None known = tt
corner_terms-below problem sites times path (Some spans) known =
    path_terms-below (length problem.costs) sites (path_numbers path.side times spans.kinds) path.pins (length-map spans.kinds _ ∙ known)

listed_terms-below : (problem : Problem) (sites : List PinNo) (times : ℕ) (listed : Option Listed) → All (IsValidCorner problem) problem.corners →
    AreBelow (length sites * length problem.costs) (listed_terms problem sites times listed)
listed_terms-below problem sites times None valid = tt
listed_terms-below problem sites times (Some path) valid =
    corner_terms-below problem sites times path (slice_get problem.corners path.corner.0) (known-corner problem problem.corners path.corner.0 valid)

paths_terms-below : (problem : Problem) (sites : List PinNo) (paths : List Listed) (terms : List (PathNo × ℕ)) → All (IsValidCorner problem) problem.corners →
    AreBelow (length sites * length problem.costs) (paths_terms problem sites paths terms)
paths_terms-below problem sites paths [] valid = tt
paths_terms-below problem sites paths (term ∷ terms) valid =
    AllByRecursion-append (λ (t : ℕ × ℤ). t.0 < length sites * length problem.costs) (listed_terms problem sites term.1 (slice_get paths term.0.0)) (paths_terms problem sites paths terms)
    (listed_terms-below problem sites term.1 (slice_get paths term.0.0) valid) (paths_terms-below problem sites paths terms valid)

chains_terms-below : (kinds sites : ℕ) (terms : List (SiteNo × ℕ)) → All (λ (term : SiteNo × ℕ). term.0.0 < sites) terms → AreBelow (sites * kinds) (chains_terms kinds terms)
chains_terms-below kinds sites [] there = tt
chains_terms-below kinds sites (term ∷ terms) there =
    AllByRecursion-append (λ (t : ℕ × ℤ). t.0 < sites * kinds) (site_terms kinds (Some term.0.0) (replicate kinds (pos term.1))) (chains_terms kinds terms)
    (site_terms-below kinds sites term.0.0 (replicate kinds (pos term.1)) (All-head (λ (t : SiteNo × ℕ). t.0.0 < sites) term terms there) (length-replicate kinds (pos term.1)))
    (chains_terms-below kinds sites terms (All-tail (λ (t : SiteNo × ℕ). t.0.0 < sites) term terms there))

-- each term of a leaf is of one of the problem's variables
pub leaf_terms-below : (problem : Problem) (sites : List PinNo) (paths : List Listed) (leaf : Leaf) → All (IsValidCorner problem) problem.corners →
    All (λ (term : SiteNo × ℕ). term.0.0 < length sites) leaf.chains → AreBelow (length sites * length problem.costs) (leaf_terms problem sites paths leaf)
leaf_terms-below problem sites paths leaf valid there =
    AllByRecursion-append (λ (t : ℕ × ℤ). t.0 < length sites * length problem.costs) (paths_terms problem sites paths leaf.paths) (chains_terms (length problem.costs) leaf.chains)
    (paths_terms-below problem sites paths leaf.paths valid) (chains_terms-below (length problem.costs) (length sites) leaf.chains there)

-- the variables of terms
abbrev pub term_vars : List (ℕ × ℤ) → List ℕ
term_vars terms = map (λ (term : ℕ × ℤ). term.0) terms

-- each term's variable is among those of the terms
pub terms-among : (terms : List (ℕ × ℤ)) → AllByRecursion (λ (term : ℕ × ℤ). IsAmong term.0 (term_vars terms)) terms
terms-among [] = tt
terms-among (term ∷ terms) =
    (inl refl, AllByRecursion-weaken (λ (t : ℕ × ℤ). IsAmong t.0 (term_vars terms)) (λ (t : ℕ × ℤ). IsAmong t.0 (term_vars (term ∷ terms))) (λ t h. inr h) terms (terms-among terms))

term_vars-var_terms : (var : ℕ) (numbers : List ℤ) → term_vars (var_terms var numbers) ≡ vars_from var (length numbers)
term_vars-var_terms var [] = refl
term_vars-var_terms var (number ∷ numbers) = ap (λ l. var ∷ l) (term_vars-var_terms (var + 1) numbers)

term_vars-site : (kinds : ℕ) (site : Option ℕ) (numbers : List ℤ) → length numbers ≡ kinds → term_vars (site_terms kinds site numbers) ≡ site_vars kinds site
term_vars-site kinds None numbers each = refl
term_vars-site kinds (Some site) numbers each = term_vars-var_terms (site * kinds) numbers ∙ ap (vars_from (site * kinds)) each

-- the variables of terms that come item by item
term_vars-flat_map : {X : Type 0} (terms : X → List (ℕ × ℤ)) (vars : X → List ℕ) → ((x : X) → term_vars (terms x) ≡ vars x) → (xs : List X) →
    term_vars (flat_map terms xs) ≡ flat_map vars xs
term_vars-flat_map terms vars same [] = refl
term_vars-flat_map terms vars same (x ∷ xs) =
    map-append (λ (term : ℕ × ℤ). term.0) (terms x) (flat_map terms xs) ∙ ap (λ l. l ++ term_vars (flat_map terms xs)) (same x) ∙ ap (λ l. vars x ++ l) (term_vars-flat_map terms vars same xs)

term_vars-path : (kinds : ℕ) (sites : List PinNo) (numbers : List ℤ) (pins : List PinNo) → length numbers ≡ kinds → term_vars (path_terms kinds sites numbers pins) ≡ path_vars kinds sites pins
term_vars-path kinds sites numbers [] each = refl
term_vars-path kinds sites numbers (first ∷ pins) each =
    term_vars-flat_map (λ pin. site_terms kinds (site_at sites pin) numbers) (λ pin. site_vars kinds (site_at sites pin)) (λ pin. term_vars-site kinds (site_at sites pin) numbers each) pins

term_vars-corner : (problem : Problem) (sites : List PinNo) (times : ℕ) (path : Listed) (corner : Option Spans) → IsKnownCorner problem corner →
    term_vars (corner_terms problem sites times path corner) ≡ corner_vars (length problem.costs) sites path corner
term_vars-corner problem sites times path None known = refl
term_vars-corner problem sites times path (Some spans) known =
    term_vars-path (length problem.costs) sites (path_numbers path.side times spans.kinds) path.pins (length-map spans.kinds _ ∙ known)

term_vars-listed : (problem : Problem) (sites : List PinNo) (times : ℕ) (listed : Option Listed) → All (IsValidCorner problem) problem.corners →
    term_vars (listed_terms problem sites times listed) ≡ listed_vars problem sites listed
term_vars-listed problem sites times None valid = refl
term_vars-listed problem sites times (Some path) valid =
    term_vars-corner problem sites times path (slice_get problem.corners path.corner.0) (known-corner problem problem.corners path.corner.0 valid)

pub term_vars-leaf : (problem : Problem) (sites : List PinNo) (paths : List Listed) (leaf : Leaf) → All (IsValidCorner problem) problem.corners →
    term_vars (leaf_terms problem sites paths leaf) ≡ leaf_vars problem sites paths leaf
term_vars-leaf problem sites paths leaf valid =
    map-append (λ (term : ℕ × ℤ). term.0) (paths_terms problem sites paths leaf.paths) (chains_terms (length problem.costs) leaf.chains)
    ∙ ap (λ l. l ++ term_vars (chains_terms (length problem.costs) leaf.chains)) (term_vars-flat_map _ _ (λ (term : PathNo × ℕ). term_vars-listed problem sites term.1 (slice_get paths term.0.0) valid) leaf.paths)
    ∙ ap (λ l. paths_vars problem sites paths leaf.paths ++ l)
    (term_vars-flat_map _ _ (λ (term : SiteNo × ℕ). term_vars-site (length problem.costs) (Some term.0.0) (replicate (length problem.costs) (pos term.1)) (length-replicate (length problem.costs) (pos term.1))) leaf.chains)
