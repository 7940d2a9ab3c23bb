-- Visits of a tree: it proves exactly where each is fine, and there is at most one first flaw, which no proof has.
use Rattle.std.proofs.Common.{◌≡◌, ℕ, zero, suc, List, [], ◌∷◌, take, refl, sym, ap, ◌∙◌}
use Rattle.std.specs.List.{AllByRecursion}
use Rattle.std.proofs.lemmas.Option.{none-some, same_Some}
use Rattle.std.proofs.lemmas.List.Elements.{All-head, All-tail}
use Rattle.hold_base.proofs.Lists.{AllByRecursion-append, AllByRecursion-append_left, AllByRecursion-append_right}
use Rattle.hold_base.specs.declared.number.PinNo.{PinNo}
use Rattle.hold_graph.specs.declared.problem.Problem.{Problem}
use Rattle.hold_graph.specs.declared.problem.Listed.{Listed}
use Rattle.hold_proof.specs.Tree.{ProofTree, Ends, Splits}
use Rattle.hold_proof.specs.InForce.{InForce, in_lower, in_upper}
use Rattle.hold_proof.specs.Proving.{Proves}
use Rattle.hold_proof.specs.Flaws.{IsFirstNot, IsFine, visits}

-- a tree proves where each visit is fine
pub fine-proves : (problem : Problem) (sites : List PinNo) (paths : List Listed) (force : InForce) (tree : ProofTree) →
    AllByRecursion (IsFine problem sites paths) (visits force tree) → Proves problem sites paths force tree
fine-proves problem sites paths force (Ends leaf) h = h.0
fine-proves problem sites paths force (Splits var at lower upper) h = (
  h.0,
  fine-proves problem sites paths (in_lower var at force) lower
      (AllByRecursion-append_left (IsFine problem sites paths) (visits (in_lower var at force) lower) (visits (in_upper var at force) upper) h.1),
  fine-proves problem sites paths (in_upper var at force) upper
      (AllByRecursion-append_right (IsFine problem sites paths) (visits (in_lower var at force) lower) (visits (in_upper var at force) upper) h.1),
)

-- and each visit is fine where it proves
pub proves-fine : (problem : Problem) (sites : List PinNo) (paths : List Listed) (force : InForce) (tree : ProofTree) →
    Proves problem sites paths force tree → AllByRecursion (IsFine problem sites paths) (visits force tree)
proves-fine problem sites paths force (Ends leaf) h = (h, tt)
proves-fine problem sites paths force (Splits var at lower upper) h = (
  h.0,
  AllByRecursion-append (IsFine problem sites paths) (visits (in_lower var at force) lower) (visits (in_upper var at force) upper)
      (proves-fine problem sites paths (in_lower var at force) lower h.1) (proves-fine problem sites paths (in_upper var at force) upper h.2),
)

-- where all items are so, none is the first that isn't
pub all-no_first : {X : Type 0} (P : X → Type 0) (items : List X) (place : ℕ) (item : X) → AllByRecursion P items → IsFirstNot P items place item → ⊥
all-no_first P [] place item all first = none-some _ (first.at)
all-no_first P (x ∷ items) zero item all first = first.fails (let same = same_Some _ _ (first.at) in rw (← same) (all.0))
all-no_first P (x ∷ items) (suc place) item all first =
    all-no_first P items place item all.1 (record { at = first.at; fails = first.fails; before = All-tail P x (take place items) (first.before) })

-- one item is the first that isn't so
pub first-one : {X : Type 0} (P : X → Type 0) (items : List X) (j k : ℕ) (a b : X) → IsFirstNot P items j a → IsFirstNot P items k b → (j ≡ k) × (a ≡ b)
first-one P [] j k a b one two = absurd (none-some _ (one.at))
first-one P (x ∷ items) zero zero a b one two = (refl, sym (same_Some _ _ (one.at)) ∙ same_Some _ _ (two.at))
first-one P (x ∷ items) zero (suc k) a b one two =
    absurd (one.fails (let same = same_Some _ _ (one.at) in rw (← same) (All-head P x (take k items) (two.before))))
first-one P (x ∷ items) (suc j) zero a b one two =
    absurd (two.fails (let same = same_Some _ _ (two.at) in rw (← same) (All-head P x (take j items) (one.before))))
first-one P (x ∷ items) (suc j) (suc k) a b one two =
    let rest = first-one P items j k a b
    (record { at = one.at; fails = one.fails; before = All-tail P x (take j items) (one.before) })
    (record { at = two.at; fails = two.fails; before = All-tail P x (take k items) (two.before) }) in
    (ap suc rest.0, rest.1)
