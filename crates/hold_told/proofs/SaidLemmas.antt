-- What one entry more tells: the hull, or the greatest time, of what is said is joined to.
use Rattle.std.proofs.Common.{◌≡◌, ℕ, zero, suc, ◌<◌, List, [], ◌∷◌, ◌++◌, get_or, refl, ap, sym, ◌∙◌, subst, ◌⊎◌, inl, inr, arith}
use Rattle.std.specs.Prelude.{Option, Some, None, Contains, ℤ, int_lt}
use Rattle.std.specs.Int.{int_max, int_min}
use Rattle.std.proofs.lemmas.Bool.{cases_cond}
use Rattle.std.proofs.lemmas.Int.{clamps, ints}
use Rattle.std.proofs.lemmas.List.Elements.{Contains-append_left, Contains-append_right, Contains-append_cases}
use Rattle.std.proofs.lemmas.Option.{same_Some}
use Rattle.hold_base.specs.Interval.{hull}
use Rattle.hold_base.specs.declared.time.Interval.{Interval}
use Rattle.hold_sdf.specs.declared.entry.Entry.{Entry}
use Rattle.hold_told.specs.Else.{HoldsOfNothing}
use Rattle.hold_told.specs.Entries.{Says}
use Rattle.hold_told.specs.Values.{IsHullOf, IsGreatestOf, HullIfAny, GreatestIfAny}
use Rattle.hold_told.specs.inner.Told.{IsAdded, later, widened}

-- ---- what the entries and one more say

-- the one item of a list
the_one : {X : Type 0} (x y : X) → Contains (x ∷ []) y → y ≡ x
the_one x y has = by has.0 has.1 has.2
  where
    by : (k : ℕ) → k < 1 → get_or (x ∷ []) k y ≡ y → y ≡ x
    by zero lt is = sym is
    by (suc k) lt is = absurd (omega arith)

module _ {X : Type 0} (Belongs : Entry → Type 0) (said : Entry → Option X) (es : List Entry) (e : Entry) where
  says-old : (x : X) → Says Belongs said es x → Says Belongs said (es ++ e ∷ []) x
  says-old x h = record { entry = h.entry; listed = Contains-append_left es (e ∷ []) h.entry h.listed; belongs = h.belongs; says = h.says }

  says-new : (x : X) → Belongs e → said e ≡ Some x → Says Belongs said (es ++ e ∷ []) x
  says-new x belongs says = record { entry = e; listed = Contains-append_right es (e ∷ []) e (0, (omega arith), refl); belongs = belongs; says = says }

  says-cases : (x : X) → Says Belongs said (es ++ e ∷ []) x → Says Belongs said es x ⊎ (Belongs e × (said e ≡ Some x))
  says-cases x h = elim (Contains-append_cases es (e ∷ []) h.entry h.listed) [
    | inl old ↦ inl (record { entry = h.entry; listed = old; belongs = h.belongs; says = h.says })
    | inr new ↦ let same = the_one e h.entry new in inr (subst Belongs same h.belongs, ap said (sym same) ∙ h.says)
  ]

-- ---- hulls

-- what is said may be said in other words
hull-alike : (Old New : Interval → Type 0) → ((x : Interval) → Old x → New x) → ((x : Interval) → New x → Old x) → (o : Option Interval) → HullIfAny Old o → HullIfAny New o
hull-alike Old New to back None h = λ x new. h x (back x new)
hull-alike Old New to back (Some hull) h = record {
  first = h.first;
  first_said = to h.first h.first_said;
  begins = h.begins;
  last = h.last;
  last_said = to h.last h.last_said;
  ends = h.ends;
  from_least = λ span new. h.from_least span (back span new);
  to_greatest = λ span new. h.to_greatest span (back span new);
}

module _ (Old New : Interval → Type 0) (span : Interval) (to : (x : Interval) → Old x → New x) (new_said : New span) (back : (x : Interval) → New x → Old x ⊎ (x ≡ span)) where
  hull-first : HoldsOfNothing Old → IsHullOf New span
  hull-first none = record {
    first = span;
    first_said = new_said;
    begins = refl;
    last = span;
    last_said = new_said;
    ends = refl;
    from_least = λ x new. elim (back x new) [ inl old ↦ absurd (none x old) | inr same ↦ let e = ap (λ (i : Interval). i.least) same in omega (arith, ints) ];
    to_greatest = λ x new. elim (back x new) [ inl old ↦ absurd (none x old) | inr same ↦ let e = ap (λ (i : Interval). i.greatest) same in omega (arith, ints) ];
  }

  module _ (so_far : Interval) (h : IsHullOf Old so_far) where
    least-said : (x : Interval) × New x × (int_min so_far.least span.least ≡ x.least)
    least-said = elim (cases_cond (int_lt span.least so_far.least) span.least so_far.least (int_min so_far.least span.least) refl) [
      | inl is ↦ (span, new_said, is)
      | inr is ↦ (h.first, to h.first h.first_said, is ∙ h.begins)
    ]

    greatest-said : (x : Interval) × New x × (int_max so_far.greatest span.greatest ≡ x.greatest)
    greatest-said = elim (cases_cond (int_lt span.greatest so_far.greatest) so_far.greatest span.greatest (int_max so_far.greatest span.greatest) refl) [
      | inl is ↦ (h.last, to h.last h.last_said, is ∙ h.ends)
      | inr is ↦ (span, new_said, is)
    ]

    hull-more : IsHullOf New (hull so_far span)
    hull-more =
        let low = least-said in
        let high = greatest-said in
        record {
          first = low.0;
          first_said = low.1;
          begins = low.2;
          last = high.0;
          last_said = high.1;
          ends = high.2;
          from_least = λ x new. elim (back x new) [
            | inl old ↦ let le = h.from_least x old in omega (arith, ints, clamps)
            | inr same ↦ let e = ap (λ (i : Interval). i.least) same in omega (arith, ints, clamps)
          ];
          to_greatest = λ x new. elim (back x new) [
            | inl old ↦ let le = h.to_greatest x old in omega (arith, ints, clamps)
            | inr same ↦ let e = ap (λ (i : Interval). i.greatest) same in omega (arith, ints, clamps)
          ];
        }

  hull-widened : (o : Option Interval) → HullIfAny Old o → IsHullOf New (widened o span)
  hull-widened None none = hull-first none
  hull-widened (Some so_far) h = hull-more so_far h

-- ---- greatest times

greatest-alike : (Old New : ℤ → Type 0) → ((x : ℤ) → Old x → New x) → ((x : ℤ) → New x → Old x) → (o : Option ℤ) → GreatestIfAny Old o → GreatestIfAny New o
greatest-alike Old New to back None h = λ x new. h x (back x new)
greatest-alike Old New to back (Some time) h = record { said = to time h.said; most = λ other new. h.most other (back other new) }

module _ (Old New : ℤ → Type 0) (time : ℤ) (to : (x : ℤ) → Old x → New x) (new_said : New time) (back : (x : ℤ) → New x → Old x ⊎ (x ≡ time)) where
  greatest-first : HoldsOfNothing Old → IsGreatestOf New time
  greatest-first none = record {
    said = new_said;
    most = λ x new. elim (back x new) [ inl old ↦ absurd (none x old) | inr same ↦ omega (arith, ints, same) ];
  }

  module _ (so_far : ℤ) (h : IsGreatestOf Old so_far) where
    latest-said : New (int_max so_far time)
    latest-said = elim (cases_cond (int_lt time so_far) so_far time (int_max so_far time) refl) [
      | inl is ↦ subst New (sym is) (to so_far h.said)
      | inr is ↦ subst New (sym is) new_said
    ]

    greatest-more : IsGreatestOf New (int_max so_far time)
    greatest-more = record {
      said = latest-said;
      most = λ x new. elim (back x new) [
        | inl old ↦ let le = h.most x old in omega (arith, ints, clamps)
        | inr same ↦ omega (arith, ints, clamps, same)
      ];
    }

  greatest-later : (o : Option ℤ) → GreatestIfAny Old o → IsGreatestOf New (later o time)
  greatest-later None none = greatest-first none
  greatest-later (Some so_far) h = greatest-more so_far h

-- ---- one entry more

module _ (Belongs : Entry → Type 0) (said : Entry → Option Interval) (es : List Entry) (e : Entry) where
  -- an entry that doesn't belong, or says nothing, changes nothing
  hull-kept : (o : Option Interval) → ((x : Interval) → Belongs e → said e ≡ Some x → ⊥) → HullIfAny (Says Belongs said es) o → HullIfAny (Says Belongs said (es ++ e ∷ [])) o
  hull-kept o silent h =
      hull-alike (Says Belongs said es) (Says Belongs said (es ++ e ∷ [])) (says-old Belongs said es e)
      (λ x new. elim (says-cases Belongs said es e x new) [ inl old ↦ old | inr now ↦ absurd (silent x now.0 now.1) ]) o h

  hull-joined : (o : Option Interval) (span : Interval) → Belongs e → said e ≡ Some span → HullIfAny (Says Belongs said es) o → IsHullOf (Says Belongs said (es ++ e ∷ [])) (widened o span)
  hull-joined o span belongs says h =
      hull-widened (Says Belongs said es) (Says Belongs said (es ++ e ∷ [])) span (says-old Belongs said es e) (says-new Belongs said es e span belongs says)
      (λ x new. elim (says-cases Belongs said es e x new) [ inl old ↦ inl old | inr now ↦ inr (same_Some x span (sym now.1 ∙ says)) ]) o h

  pub hull-step : (old new : Option Interval) → HullIfAny (Says Belongs said es) old → IsAdded widened (Belongs e) (said e) old new → HullIfAny (Says Belongs said (es ++ e ∷ [])) new
  hull-step old new h added = by (said e) refl added
    where
      by : (o : Option Interval) → said e ≡ o → IsAdded widened (Belongs e) o old new → HullIfAny (Says Belongs said (es ++ e ∷ [])) new
      by None is same = subst (HullIfAny (Says Belongs said (es ++ e ∷ []))) (sym same) (hull-kept old (λ x belongs says. let never : Some x ≡ None = sym says ∙ is in cc) h)
      by (Some span) is (inl hit) = subst (HullIfAny (Says Belongs said (es ++ e ∷ []))) (sym hit.1) (hull-joined old span hit.0 is h)
      by (Some span) is (inr miss) = subst (HullIfAny (Says Belongs said (es ++ e ∷ []))) (sym miss.1) (hull-kept old (λ x belongs says. miss.0 belongs) h)

module _ (Belongs : Entry → Type 0) (said : Entry → Option ℤ) (es : List Entry) (e : Entry) where
  greatest-kept : (o : Option ℤ) → ((x : ℤ) → Belongs e → said e ≡ Some x → ⊥) → GreatestIfAny (Says Belongs said es) o → GreatestIfAny (Says Belongs said (es ++ e ∷ [])) o
  greatest-kept o silent h =
      greatest-alike (Says Belongs said es) (Says Belongs said (es ++ e ∷ [])) (says-old Belongs said es e)
      (λ x new. elim (says-cases Belongs said es e x new) [ inl old ↦ old | inr now ↦ absurd (silent x now.0 now.1) ]) o h

  greatest-joined : (o : Option ℤ) (time : ℤ) → Belongs e → said e ≡ Some time → GreatestIfAny (Says Belongs said es) o → IsGreatestOf (Says Belongs said (es ++ e ∷ [])) (later o time)
  greatest-joined o time belongs says h =
      greatest-later (Says Belongs said es) (Says Belongs said (es ++ e ∷ [])) time (says-old Belongs said es e) (says-new Belongs said es e time belongs says)
      (λ x new. elim (says-cases Belongs said es e x new) [ inl old ↦ inl old | inr now ↦ inr (same_Some x time (sym now.1 ∙ says)) ]) o h

  pub greatest-step : (old new : Option ℤ) → GreatestIfAny (Says Belongs said es) old → IsAdded later (Belongs e) (said e) old new → GreatestIfAny (Says Belongs said (es ++ e ∷ [])) new
  greatest-step old new h added = by (said e) refl added
    where
      by : (o : Option ℤ) → said e ≡ o → IsAdded later (Belongs e) o old new → GreatestIfAny (Says Belongs said (es ++ e ∷ [])) new
      by None is same = subst (GreatestIfAny (Says Belongs said (es ++ e ∷ []))) (sym same) (greatest-kept old (λ x belongs says. let never : Some x ≡ None = sym says ∙ is in cc) h)
      by (Some time) is (inl hit) = subst (GreatestIfAny (Says Belongs said (es ++ e ∷ []))) (sym hit.1) (greatest-joined old time hit.0 is h)
      by (Some time) is (inr miss) = subst (GreatestIfAny (Says Belongs said (es ++ e ∷ []))) (sym miss.1) (greatest-kept old (λ x belongs says. miss.0 belongs) h)

-- ---- nothing is said without entries

pub says-none : {X : Type 0} (Belongs : Entry → Type 0) (said : Entry → Option X) → HoldsOfNothing (Says Belongs said [])
says-none Belongs said x h = let lt = h.listed.1 in absurd (omega arith)
