-- The first entry that is stray, and the entries of which none is.
use Rattle.std.proofs.Common.{◌≡◌, ℕ, ◌+◌, ◌<◌, ◌≤◌, List, [], ◌∷◌, ◌++◌, length, take, get_or, refl, ap, sym, ◌∙◌, subst, inl, inr, arith}
use Rattle.std.specs.Prelude.{slice_get}
use Rattle.std.specs.List.{AllByRecursion}
use Rattle.std.proofs.lemmas.Bool.{cases_lt}
use Rattle.std.proofs.lemmas.List.{take_all, take_more}
use Rattle.std.proofs.lemmas.Option.{same_Some, slice_get_read}
use Rattle.hold_base.proofs.Lists.{AllByRecursion-append}
use Rattle.hold_graph.specs.declared.graph.Parts.{Parts}
use Rattle.hold_roles.specs.Binding.{Binding}
use Rattle.hold_sdf.specs.declared.entry.Entry.{Entry}
use Rattle.hold_told.specs.Entries.{IsPlaced, IsStray, place_of}
use Rattle.hold_told.specs.Told.{AreTold, IsFirstStray}
use Rattle.hold_told.specs.declared.place.Place.{Place}
use Rattle.hold_told.specs.declared.told.Told.{Told}
use Rattle.hold_told.specs.inner.Told.{AreJoined, IsPlaceOf}
use Rattle.hold_told.proofs.ItemLemmas.{all-at, in-front}
use Rattle.hold_told.proofs.StepLemmas.{told-more}

-- ---- one entry more

next-front : (es : List Entry) (i : ℕ) (e : Entry) → i < length es → e ≡ get_or es i e → take (i + 1) es ≡ take i es ++ e ∷ []
next-front es i e lt is = take_more es i e lt ∙ ap (λ (x : Entry). take i es ++ x ∷ []) (sym is)

pub placed-next : (b : Binding) (es : List Entry) (i : ℕ) (e : Entry) → i < length es → e ≡ get_or es i e → AllByRecursion (IsPlaced b) (take i es) → IsPlaced b e → AllByRecursion (IsPlaced b) (take (i + 1) es)
placed-next b es i e lt is all here = subst (AllByRecursion (IsPlaced b)) (sym (next-front es i e lt is)) (AllByRecursion-append (IsPlaced b) (take i es) (e ∷ []) all (here, tt))

pub told-next : (b : Binding) (graph : Parts) (es : List Entry) (i : ℕ) (e : Entry) (place : Place) (old new : Told) → i < length es → e ≡ get_or es i e
    → AreTold b graph (take i es) old → IsPlaceOf b e place → AreJoined graph place old new → AreTold b graph (take (i + 1) es) new
told-next b graph es i e place old new lt is h of joined = subst (λ (l : List Entry). AreTold b graph l new) (sym (next-front es i e lt is)) (told-more b graph (take i es) e place old new h of joined)

-- ---- all entries

pub told-all : (b : Binding) (graph : Parts) (es : List Entry) (i : ℕ) (told : Told) → length es ≤ i → AreTold b graph (take i es) told → AreTold b graph es told
told-all b graph es i told end h = subst (λ (l : List Entry). AreTold b graph l told) (take_all i es end) h

pub placed-all : (b : Binding) (es : List Entry) (i : ℕ) → length es ≤ i → AllByRecursion (IsPlaced b) (take i es) → AllByRecursion (IsPlaced b) es
placed-all b es i end h = subst (AllByRecursion (IsPlaced b)) (take_all i es end) h

-- ---- the first that is stray

pub first-stray : (b : Binding) (es : List Entry) (i : ℕ) (e : Entry) (at : ℕ) → i < length es → e ≡ get_or es i e → AllByRecursion (IsPlaced b) (take i es) → IsStray b e → at ≡ place_of e → IsFirstStray b es at
first-stray b es i e at lt is all stray place = record {
  number = i;
  entry = e;
  is_entry = slice_get_read es (length es) i e refl lt is;
  stray = stray;
  before = all;
  stands = sym place;
}

pub none-stray : (b : Binding) (es : List Entry) (at : ℕ) → AllByRecursion (IsPlaced b) es → IsFirstStray b es at → ⊥
none-stray b es at all h = h.stray (all-at (IsPlaced b) es h.number h.entry all h.is_entry)

-- no entry before the first one is stray
stray-before : (b : Binding) (es : List Entry) (n at : ℕ) → AllByRecursion (IsPlaced b) (take n es) → (h : IsFirstStray b es at) → h.number < n → ⊥
stray-before b es n at all h lt = h.stray (all-at (IsPlaced b) (take n es) h.number h.entry all (in-front n es h.number h.entry lt h.is_entry))

pub one-stray : (b : Binding) (es : List Entry) (at other : ℕ) → IsFirstStray b es at → IsFirstStray b es other → at ≡ other
one-stray b es at other g h =
    let not_less = stray-before b es h.number at h.before g in
    let not_more = stray-before b es g.number other g.before h in
    let same : g.number ≡ h.number = elim (cases_lt g.number h.number) [
      | inl less ↦ absurd (not_less less)
      | inr _ ↦ elim (cases_lt h.number g.number) [ inl more ↦ absurd (not_more more) | inr _ ↦ omega arith ]
    ] in
    let entry : g.entry ≡ h.entry = same_Some g.entry h.entry (sym g.is_entry ∙ ap (slice_get es) same ∙ h.is_entry) in
    sym g.stands ∙ ap place_of entry ∙ h.stands
