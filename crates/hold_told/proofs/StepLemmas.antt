-- What is told of some entries, and of one entry more.
use Rattle.std.proofs.Common.{◌≡◌, ℕ, ◌<◌, ◌≤◌, List, [], ◌∷◌, ◌++◌, length, get_or, replicate, ap, sym, ◌∙◌, subst, ◌⊎◌, inl, inr, arith}
use Rattle.std.specs.Prelude.{Option, Some, None, ◌↔◌, slice_index_or}
use Rattle.std.proofs.lemmas.Bool.{cases_lt}
use Rattle.std.proofs.lemmas.List.{get_or-replicate, get_or_past, length-replicate}
use Rattle.hold_graph.specs.declared.graph.Parts.{Parts}
use Rattle.hold_roles.specs.Binding.{Binding}
use Rattle.hold_sdf.specs.declared.entry.Entry.{Entry}
use Rattle.hold_told.specs.Entries.{Says, IsOfArc, IsOfDelay, IsOfCheck, span_of, setup_of, hold_of}
use Rattle.hold_told.specs.Values.{HullIfAny, GreatestIfAny}
use Rattle.hold_told.specs.Told.{AreTold}
use Rattle.hold_told.specs.declared.place.Place.{Place}
use Rattle.hold_told.specs.declared.told.Told.{Told}
use Rattle.hold_told.specs.inner.Told.{AreJoined, ChecksAt, DelaysAt, IsAdded, IsPlaceOf, IsUntold, JoinsAt, hold_at, later, setup_at, span_at, widened}
use Rattle.hold_told.proofs.SaidLemmas.{greatest-step, hull-step, says-none}

-- what is joined may be said in other words
added-alike : {X : Type 0} (join : Option X → X → X) (P Q : Type 0) → P ↔ Q → (o said : Option X) → o ≡ said → (old new : Option X) → IsAdded join P o old new → IsAdded join Q said old new
added-alike {X} join P Q alike o said is old new h = subst (λ (s : Option X). IsAdded join Q s old new) is (by o h)
  where
    by : (o : Option X) → IsAdded join P o old new → IsAdded join Q o old new
    by None same = same
    by (Some x) (inl hit) = inl (alike.0 hit.0, hit.1)
    by (Some x) (inr miss) = inr ((λ q. miss.0 (alike.1 q)), miss.1)

-- rooms that are all empty
empty-at : {X : Type 0} (n : ℕ) (slots : List (Option X)) → slots ≡ replicate n None → (k : ℕ) → slice_index_or slots k None ≡ None
empty-at {X = X} n slots is k = ap (λ (l : List (Option X)). get_or l k None) is ∙ by (cases_lt k n)
  where
    none : Option X
    none = None

    by : (k < n) ⊎ (n ≤ k) → get_or (replicate n none) k none ≡ none
    by (inl below) = get_or-replicate n k none none below
    by (inr past) = get_or_past (replicate n none) k none (omega (arith, past, length-replicate n none))

room-of : {X : Type 0} (n : ℕ) (slots : List (Option X)) → slots ≡ replicate n None → length slots ≡ n
room-of {X = X} n slots is = ap (λ (l : List (Option X)). length l) is ∙ length-replicate n None

pub untold-of : (graph : Parts) (told : Told) (arcs pins : ℕ) → told.spans.items ≡ replicate arcs None → told.delays.items ≡ replicate pins None → told.setups.items ≡ replicate pins None → told.holds.items ≡ replicate pins None
    → arcs ≡ length graph.arcs → pins ≡ graph.pins → IsUntold graph told
untold-of graph told arcs pins spans delays setups holds is_arcs is_pins = record {
  room = record {
    spans = room-of arcs told.spans.items spans ∙ is_arcs;
    delays = room-of pins told.delays.items delays ∙ is_pins;
    setups = room-of pins told.setups.items setups ∙ is_pins;
    holds = room-of pins told.holds.items holds ∙ is_pins;
  };
  spans = empty-at arcs told.spans.items spans;
  delays = empty-at pins told.delays.items delays;
  setups = empty-at pins told.setups.items setups;
  holds = empty-at pins told.holds.items holds;
}

pub told-none : (b : Binding) (graph : Parts) (told : Told) → IsUntold graph told → AreTold b graph [] told
told-none b graph told h = record {
  room = h.room;
  spans = λ k arc at. subst (HullIfAny (Says (λ e. IsOfArc b e arc) span_of [])) (sym (h.spans k)) (says-none (λ e. IsOfArc b e arc) span_of);
  delays = λ p below. subst (HullIfAny (Says (λ e. IsOfDelay b e p) span_of [])) (sym (h.delays p.0)) (says-none (λ e. IsOfDelay b e p) span_of);
  setups = λ p below. subst (GreatestIfAny (Says (λ e. IsOfCheck b e p) setup_of [])) (sym (h.setups p.0)) (says-none (λ e. IsOfCheck b e p) setup_of);
  holds = λ p below. subst (GreatestIfAny (Says (λ e. IsOfCheck b e p) hold_of [])) (sym (h.holds p.0)) (says-none (λ e. IsOfCheck b e p) hold_of);
}

pub told-more : (b : Binding) (graph : Parts) (es : List Entry) (e : Entry) (place : Place) (old new : Told) → AreTold b graph es old → IsPlaceOf b e place → AreJoined graph place old new → AreTold b graph (es ++ e ∷ []) new
told-more b graph es e place old new h of joined = record {
  room = joined.room;
  spans = λ k arc at.
      hull-step (λ x. IsOfArc b x arc) span_of es e (slice_index_or old.spans.items k None) (slice_index_or new.spans.items k None) (h.spans k arc at)
      (added-alike widened (JoinsAt place arc) (IsOfArc b e arc) (of.joins arc) (span_at place) (span_of e) of.span _ _ (joined.spans k arc at));
  delays = λ p below.
      hull-step (λ x. IsOfDelay b x p) span_of es e (slice_index_or old.delays.items p.0 None) (slice_index_or new.delays.items p.0 None) (h.delays p below)
      (added-alike widened (DelaysAt place p) (IsOfDelay b e p) (of.delays p) (span_at place) (span_of e) of.span _ _ (joined.delays p below));
  setups = λ p below.
      greatest-step (λ x. IsOfCheck b x p) setup_of es e (slice_index_or old.setups.items p.0 None) (slice_index_or new.setups.items p.0 None) (h.setups p below)
      (added-alike later (ChecksAt place p) (IsOfCheck b e p) (of.checks p) (setup_at place) (setup_of e) of.setup _ _ (joined.setups p below));
  holds = λ p below.
      greatest-step (λ x. IsOfCheck b x p) hold_of es e (slice_index_or old.holds.items p.0 None) (slice_index_or new.holds.items p.0 None) (h.holds p below)
      (added-alike later (ChecksAt place p) (IsOfCheck b e p) (of.checks p) (hold_at place) (hold_of e) of.hold _ _ (joined.holds p below));
}
