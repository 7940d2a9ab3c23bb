-- The table of the arcs that end at each pin, made arc by arc, and what it tells of them.
use Rattle.std.proofs.Common.{◌≡◌, ℕ, ◌+◌, ◌<◌, List, length, ap, sym, ◌∙◌, arith, get_or, set, ◌⊎◌, inl, inr}
use Rattle.std.specs.Prelude.{Option, Some, None, slice_get, slice_index_or}
use Rattle.std.proofs.lemmas.List.{get_or-set_same, get_or-set_other}
use Rattle.std.proofs.lemmas.Option.{slice_get_within, same_Some}
use Rattle.std.proofs.lemmas.Bool.{cases_eq}
use Rattle.hold_base.specs.declared.number.PinNo.{PinNo}
use Rattle.hold_graph.specs.declared.graph.Arc.{Arc}
use Rattle.hold_graph.specs.Graph.{EndsOnce}
use Rattle.hold_graph.specs.inner.Order.{IsInto}

-- the table has the first n arcs
pub record IsIntoUpTo (arcs : List Arc) (n : ℕ) (into : List (Option ℕ)) : Type 0 where
  pub ends : (place : ℕ) (arc : Arc) → place < n → slice_get arcs place ≡ Some arc → get_or into arc.to.0 None ≡ Some place
  pub only : (pin place : ℕ) → get_or into pin None ≡ Some place → (arc : Arc) × (slice_get arcs place ≡ Some arc) × (arc.to.0 ≡ pin)

pub same_pin : (a b : PinNo) → a.0 ≡ b.0 → a ≡ b
same_pin a b e = ap (λ (n : ℕ). let q : PinNo = record { 0 = n } in q) e

pub into_more : (arcs : List Arc) (n : ℕ) (arc : Arc) (into : List (Option ℕ)) → EndsOnce arcs → slice_get arcs n ≡ Some arc → arc.to.0 < length into →
    IsIntoUpTo arcs n into → IsIntoUpTo arcs (n + 1) (set into arc.to.0 (Some n))
into_more arcs n arc into once at below h = record {
  ends = λ place a lt is. ends_case place a lt is (cases_eq place n);
  only = λ pin place e. only_case pin place e (cases_eq pin arc.to.0);
}
  where
    ends_case : (place : ℕ) (a : Arc) → place < n + 1 → slice_get arcs place ≡ Some a → ((place ≡ n) ⊎ (place ≡ n → ⊥)) → get_or (set into arc.to.0 (Some n)) a.to.0 None ≡ Some place
    ends_case place a lt is (inl e) =
        let same : a ≡ arc = same_Some a arc (sym is ∙ ap (slice_get arcs) e ∙ at) in
        ap (λ (x : Arc). get_or (set into arc.to.0 (Some n)) x.to.0 None) same ∙ get_or-set_same into arc.to.0 (Some n) None below ∙ ap (λ (k : ℕ). Some k) (sym e)
    ends_case place a lt is (inr differs) =
        get_or-set_other into arc.to.0 a.to.0 (Some n) None (λ e. differs (once place n a arc is at (same_pin a.to arc.to e)))
        ∙ h.ends place a (omega arith) is

    only_case : (pin place : ℕ) → get_or (set into arc.to.0 (Some n)) pin None ≡ Some place → ((pin ≡ arc.to.0) ⊎ (pin ≡ arc.to.0 → ⊥)) → (a : Arc) × (slice_get arcs place ≡ Some a) × (a.to.0 ≡ pin)
    only_case pin place e (inl same) =
        let is : n ≡ place = same_Some n place (sym (get_or-set_same into arc.to.0 (Some n) None below) ∙ ap (λ (k : ℕ). get_or (set into arc.to.0 (Some n)) k None) (sym same) ∙ e) in
        (arc, ap (slice_get arcs) (sym is) ∙ at, sym same)
    only_case pin place e (inr differs) =
        h.only pin place (sym (get_or-set_other into arc.to.0 pin (Some n) None differs) ∙ e)

pub into_all : (arcs : List Arc) (n : ℕ) (into : List (Option ℕ)) → length arcs ≡ n → IsIntoUpTo arcs n into → IsInto arcs into
into_all arcs n into len h = record {
  ends = λ place arc is. h.ends place arc (let lt = slice_get_within arcs place arc is in omega arith) is;
  only = h.only;
}

-- where each arc is the one that its pin tells of, no two end at one pin
pub into_once : (arcs : List Arc) (into : List (Option ℕ)) → IsInto arcs into → EndsOnce arcs
into_once arcs into h = λ i j a b at_i at_j same.
    same_Some i j (sym (h.ends i a at_i) ∙ ap (λ (pin : PinNo). slice_index_or into pin.0 None) same ∙ h.ends j b at_j)
