-- Worked examples of the words on sites.
use Rattle.std.proofs.Common.{◌≡◌, ◌≤◌, ℕ, List, [], ◌∷◌, refl, arith}
use Rattle.std.specs.Prelude.{Contains}
use Rattle.std.proofs.lemmas.List.Elements.{All-nil}
use Rattle.hold_base.specs.declared.number.PinNo.{PinNo}
use Rattle.hold_graph.specs.declared.graph.Parts.{Parts}
use Rattle.hold_graph.specs.declared.problem.Problem.{Problem}
use Rattle.hold_graph.specs.Path.{IsCheckedPath}
use Rattle.hold_graph.specs.Sites.{IsSite, AreSites, IsBuffering, cost_of, Meets}

-- two buffers that cost 3 and three that cost 5, in front of one pin
pub cost-one_site : cost_of (3 ∷ 5 ∷ []) (2 ∷ 3 ∷ []) ≡ 21
cost-one_site = refl

-- the kinds come again at each site: one that costs 5 at the first, four that cost 3 at the second
pub cost-two_sites : cost_of (3 ∷ 5 ∷ []) (0 ∷ 1 ∷ 4 ∷ 0 ∷ []) ≡ 17
cost-two_sites = refl

-- a pin that is kept is no site
pub kept-no_site : (parts : Parts) (pin : PinNo) → Contains parts.keeps pin → IsSite parts pin → ⊥
kept-no_site parts pin kept site = site.free kept

-- where no path is checked there is no site
pub unchecked-no_site : (parts : Parts) → ((path : List PinNo) → IsCheckedPath parts path → ⊥) → AreSites parts []
unchecked-no_site parts none = record {
  sound = All-nil (IsSite parts);
  whole = λ pin site. absurd (none _ site.ends.checked);
  rising = λ j k a b lt is_a is_b. cc;
}

-- no site has no variable, and that is a buffering
pub no_sites-buffering : (problem : Problem) → IsBuffering problem [] []
no_sites-buffering problem = record { each = omega arith; most = All-nil (λ count. count ≤ 16); chains = λ site below. absurd (omega arith) }

-- where some pin is a site, no counts meet the problem over no site
pub no_sites-unmet : (problem : Problem) (pin : PinNo) (counts : List ℕ) → IsSite problem.graph pin → Meets problem [] counts → ⊥
no_sites-unmet problem pin counts site meets =
    let there = meets.of_graph.whole pin site in
    absurd (let below = there.1 in omega arith)
