-- Flags by pin, set one after another.
use Rattle.std.proofs.Common.{◌≡◌, ℕ, ◌+◌, ◌<◌, List, [], ◌∷◌, ◌++◌, length, take, set, get_or, replicate, Bool, true, false, refl, ap, sym, ◌∙◌, subst, ◌⊎◌, inl, inr, arith}
use Rattle.std.specs.Prelude.{Contains, IsTrue}
use Rattle.std.proofs.lemmas.Bool.{cases_eq}
use Rattle.std.proofs.lemmas.List.{length-set, length-replicate, get_or-replicate, get_or-set_same, get_or-set_other, take_more}
use Rattle.std.proofs.lemmas.List.Elements.{Contains-push, Contains-push_cases, Contains-append_left}
use Rattle.hold_base.specs.declared.number.PinNo.{PinNo}
use Rattle.hold_graph.specs.inner.Marks.{AreFlags}
use Rattle.hold_graph.proofs.Places.{same_pin}

pub flags-none : (pins : ℕ) (listed : List PinNo) → AreFlags pins (take 0 listed) (replicate pins false)
flags-none pins listed = record {
  count = length-replicate pins false;
  exact = λ pin below. (
    (λ is. let off = get_or-replicate pins pin.0 false false below in cc),
    (λ has. absurd (let lt = has.1 in omega arith)),
  );
}

flags-push : (pins : ℕ) (listed : List PinNo) (x : PinNo) (flags : List Bool) → x.0 < pins → AreFlags pins listed flags → AreFlags pins (listed ++ x ∷ []) (set flags x.0 true)
flags-push pins listed x flags below h = record {
  count = length-set flags x.0 true ∙ h.count;
  exact = λ pin lt. by_case pin lt (cases_eq pin.0 x.0);
}
  where
    by_case : (pin : PinNo) → pin.0 < pins → ((pin.0 ≡ x.0) ⊎ (pin.0 ≡ x.0 → ⊥)) →
        (IsTrue (get_or (set flags x.0 true) pin.0 false) → Contains (listed ++ x ∷ []) pin) × (Contains (listed ++ x ∷ []) pin → IsTrue (get_or (set flags x.0 true) pin.0 false))
    by_case pin lt (inl same) = (
      (λ is. subst (Contains (listed ++ x ∷ [])) (sym (same_pin pin x same)) (Contains-push listed x)),
      (λ has. let count = h.count in ap (λ k. get_or (set flags x.0 true) k false) same ∙ get_or-set_same flags x.0 true false (omega arith)),
    )
    by_case pin lt (inr differs) =
        let kept = get_or-set_other flags x.0 pin.0 true false differs in (
          (λ is. Contains-append_left listed (x ∷ []) pin ((h.exact pin lt).0 (sym kept ∙ is))),
          (λ has. elim (Contains-push_cases listed x pin has) [ inl before ↦ kept ∙ (h.exact pin lt).1 before | inr here ↦ absurd (differs (ap (λ (p : PinNo). p.0) (sym here))) ]),
        )

pub flags-more : (pins : ℕ) (listed : List PinNo) (n : ℕ) (d : PinNo) (flags : List Bool) → n < length listed → (get_or listed n d).0 < pins →
    AreFlags pins (take n listed) flags → AreFlags pins (take (n + 1) listed) (set flags (get_or listed n d).0 true)
flags-more pins listed n d flags below lt h =
    subst (λ (xs : List PinNo). AreFlags pins xs (set flags (get_or listed n d).0 true)) (sym (take_more listed n d below))
    (flags-push pins (take n listed) (get_or listed n d) flags lt h)
