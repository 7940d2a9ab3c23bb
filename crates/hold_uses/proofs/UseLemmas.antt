-- Which values checked paths use: by the pins that launches lead to, and those that lead to captures.
use Rattle.std.proofs.Common.{◌≡◌, ℕ, ◌+◌, ◌<◌, List, [], ◌∷◌, ◌++◌, length, take, set, get_or, replicate, Bool, true, false, refl, ap, sym, ◌∙◌, subst, ◌⊎◌, inl, inr, arith, append_assoc}
use Rattle.std.specs.Prelude.{Contains, IsTrue, ◌↔◌}
use Rattle.std.specs.List.{AllZip}
use Rattle.std.proofs.lemmas.Bool.{cases_eq}
use Rattle.std.proofs.lemmas.List.{length-set, length-replicate, get_or-replicate, get_or-set_same, get_or-set_other, take_more}
use Rattle.std.proofs.lemmas.List.Elements.{All-contains, Contains-get_or, Contains-push, Contains-push_cases, Contains-append_left}
use Rattle.hold_base.specs.declared.number.PinNo.{PinNo}
use Rattle.hold_graph.specs.declared.graph.Arc.{Arc}
use Rattle.hold_graph.specs.declared.graph.Parts.{Parts}
use Rattle.hold_graph.specs.Graph.{NamesItsPins}
use Rattle.hold_graph.specs.Path.{HasArc, EachNext, end_pin, last_pin, IsCheckedPath}
use Rattle.hold_graph.specs.inner.Graph.{IsWalkThrough}
use Rattle.hold_graph.specs.inner.Marks.{AreExact, LeadsTo, IsLedTo}
use Rattle.hold_graph.proofs.Paths.{EachNext-append, EachNext-append_left, EachNext-append_right, last_pin-append, split_last, checked-from, walk-from_checked}
use Rattle.hold_graph.proofs.Places.{same_pin}
use Rattle.hold_uses.specs.declared.marks.Way.TheVariants.{Forward, Back}
use Rattle.hold_uses.specs.Uses.{IsCheckedCapture, IsCheckedLaunch, IsCheckedStep, TellsPins}
use Rattle.hold_uses.specs.inner.Marks.{ComesTo, IsListedAnd}
use Rattle.hold_uses.proofs.Marking.{IsLastStep, last-step}

-- ---- flags of the listed pins of which P holds

module _ (P : PinNo → Type 0) (pins : ℕ) where
  pub wanted-none : (listed : List PinNo) → AreExact pins (IsListedAnd P (take 0 listed)) (replicate pins false)
  wanted-none listed = record {
    count = length-replicate pins false;
    exact = λ pin below. (
      (λ is. let off = get_or-replicate pins pin.0 false false below in cc),
      (λ has. let lt = has.is_listed.1 in absurd (omega arith)),
    );
  }

  module _ (listed : List PinNo) (x : PinNo) (flags : List Bool) (h : AreExact pins (IsListedAnd P listed) flags) where
    wanted-set : x.0 < pins → P x → AreExact pins (IsListedAnd P (listed ++ x ∷ [])) (set flags x.0 true)
    wanted-set below wanted = record {
      count = length-set flags x.0 true ∙ h.count;
      exact = λ pin lt. by_case pin lt (cases_eq pin.0 x.0);
    }
      where
        by_case : (pin : PinNo) → pin.0 < pins → ((pin.0 ≡ x.0) ⊎ (pin.0 ≡ x.0 → ⊥)) → IsTrue (get_or (set flags x.0 true) pin.0 false) ↔ IsListedAnd P (listed ++ x ∷ []) pin
        by_case pin lt (inl same) =
            let here = same_pin pin x same in (
              (λ is. record { is_listed = subst (Contains (listed ++ x ∷ [])) (sym here) (Contains-push listed x); holds = subst P (sym here) wanted }),
              (λ has. let count = h.count in ap (λ k. get_or (set flags x.0 true) k false) same ∙ get_or-set_same flags x.0 true false (omega arith)),
            )
        by_case pin lt (inr differs) =
            let kept = get_or-set_other flags x.0 pin.0 true false differs in (
              (λ is. let old = (h.exact pin lt).0 (sym kept ∙ is) in record { is_listed = Contains-append_left listed (x ∷ []) pin old.is_listed; holds = old.holds }),
              (λ has. elim (Contains-push_cases listed x pin has.is_listed) [
                | inl before ↦ kept ∙ (h.exact pin lt).1 (record { is_listed = before; holds = has.holds })
                | inr here ↦ absurd (differs (ap (λ (p : PinNo). p.0) (sym here)))
              ]),
            )

    wanted-kept : (P x → ⊥) → AreExact pins (IsListedAnd P (listed ++ x ∷ [])) flags
    wanted-kept unwanted = record {
      count = h.count;
      exact = λ pin lt. (
        (λ is. let old = (h.exact pin lt).0 is in record { is_listed = Contains-append_left listed (x ∷ []) pin old.is_listed; holds = old.holds }),
        (λ has. elim (Contains-push_cases listed x pin has.is_listed) [
          | inl before ↦ (h.exact pin lt).1 (record { is_listed = before; holds = has.holds })
          | inr here ↦ absurd (unwanted (subst P (sym here) has.holds))
        ]),
      );
    }

  module _ (listed : List PinNo) (n : ℕ) (d : PinNo) (flags : List Bool) (below : n < length listed) (h : AreExact pins (IsListedAnd P (take n listed)) flags) where
    pub wanted-more : (get_or listed n d).0 < pins → P (get_or listed n d) → AreExact pins (IsListedAnd P (take (n + 1) listed)) (set flags (get_or listed n d).0 true)
    wanted-more lt wanted =
        subst (λ (xs : List PinNo). AreExact pins (IsListedAnd P xs) (set flags (get_or listed n d).0 true)) (sym (take_more listed n d below))
        (wanted-set (take n listed) (get_or listed n d) flags h lt wanted)

    pub wanted-same : (P (get_or listed n d) → ⊥) → AreExact pins (IsListedAnd P (take (n + 1) listed)) flags
    wanted-same unwanted =
        subst (λ (xs : List PinNo). AreExact pins (IsListedAnd P xs) flags) (sym (take_more listed n d below))
        (wanted-kept (take n listed) (get_or listed n d) flags h unwanted)

-- ---- checked paths

module _ (parts : Parts) (own : NamesItsPins parts) where
  to-below : (arc : Arc) → Contains parts.arcs arc → arc.to.0 < parts.pins
  to-below arc listed = All-contains (λ (a : Arc). a.to.0 < parts.pins) parts.arcs arc own.to listed

  from-below : (arc : Arc) → Contains parts.arcs arc → arc.from.0 < parts.pins
  from-below arc listed = All-contains (λ (a : Arc). a.from.0 < parts.pins) parts.arcs arc own.from listed

  module _ (leads : List Bool) (exact : AreExact parts.pins (LeadsTo parts.arcs parts.captures) leads) (p : PinNo) where
    launch-to : IsListedAnd (ComesTo Back parts.arcs leads) parts.launches p → IsCheckedLaunch parts p
    launch-to h =
        let arc = h.holds.arc in
        let there : LeadsTo parts.arcs parts.captures arc.to = (exact.exact arc.to (to-below arc h.holds.listed)).0 h.holds.marked in
        record {
          after = arc.to ∷ there.steps;
          checked = (h.is_listed, there.there, (record { arc = arc; listed = h.holds.listed; from = h.holds.comes_to; to = refl }, there.next));
        }

    launch-from : IsCheckedLaunch parts p → IsListedAnd (ComesTo Back parts.arcs leads) parts.launches p
    launch-from h = by h.after h.checked
      where
        by : (after : List PinNo) → IsCheckedPath parts (p ∷ after) → IsListedAnd (ComesTo Back parts.arcs leads) parts.launches p
        by [] checked = absurd checked
        by (b ∷ rest) checked =
            let step : HasArc parts.arcs p b = checked.2.0 in
            let there : LeadsTo parts.arcs parts.captures b = record { steps = rest; next = checked.2.1; there = checked.1 } in
            record {
              is_listed = checked.0;
              holds = record {
                arc = step.arc;
                listed = step.listed;
                comes_to = step.from;
                marked = (exact.exact step.arc.to (to-below step.arc step.listed)).1 (subst (LeadsTo parts.arcs parts.captures) (sym step.to) there);
              };
            }

    pub launch-used : IsListedAnd (ComesTo Back parts.arcs leads) parts.launches p ↔ IsCheckedLaunch parts p
    launch-used = (launch-to, launch-from)

  module _ (led : List Bool) (exact : AreExact parts.pins (IsLedTo parts.arcs parts.launches) led) (p : PinNo) where
    capture-to : IsListedAnd (ComesTo Forward parts.arcs led) parts.captures p → IsCheckedCapture parts p
    capture-to h =
        let arc = h.holds.arc in
        let from : IsLedTo parts.arcs parts.launches arc.from = (exact.exact arc.from (from-below arc h.holds.listed)).0 h.holds.marked in
        let last : HasArc parts.arcs (last_pin from.first from.steps) p = record { arc = arc; listed = h.holds.listed; from = sym from.ends; to = h.holds.comes_to } in
        let ends : last_pin from.first (from.steps ++ p ∷ []) ≡ p = last_pin-append from.first from.steps (p ∷ []) in
        record {
          path = from.first ∷ (from.steps ++ p ∷ []);
          checked = checked-from parts from.first (from.steps ++ p ∷ []) (some from.steps) from.begins (subst (Contains parts.captures) (sym ends) h.is_listed)
              (EachNext-append parts.arcs from.first from.steps (p ∷ []) from.next (last, tt));
          ends = ends;
        }
      where
        some : (steps : List PinNo) → steps ++ p ∷ [] ≡ [] → ⊥
        some [] e = cc
        some (x ∷ xs) e = cc

    capture-from : IsCheckedCapture parts p → IsListedAnd (ComesTo Forward parts.arcs led) parts.captures p
    capture-from h = by h.path h.checked h.ends
      where
        walk : (a b : PinNo) (rest : List PinNo) → Contains parts.launches a → Contains parts.captures p → EachNext parts.arcs a (b ∷ rest) → last_pin b rest ≡ p → IsListedAnd (ComesTo Forward parts.arcs led) parts.captures p
        walk a b rest begins listed next ends =
            let step : IsLastStep parts.arcs a (b ∷ rest) = last-step parts.arcs a b rest next in
            let arc = step.last.arc in
            let from : IsLedTo parts.arcs parts.launches arc.from = record { first = a; steps = step.before; begins = begins; next = step.next; ends = sym step.last.from } in
            record {
              is_listed = listed;
              holds = record { arc = arc; listed = step.last.listed; comes_to = step.last.to ∙ ends; marked = (exact.exact arc.from (from-below arc step.last.listed)).1 from };
            }

        by : (path : List PinNo) → IsCheckedPath parts path → end_pin path ≡ p → IsListedAnd (ComesTo Forward parts.arcs led) parts.captures p
        by [] checked ends = absurd checked
        by (a ∷ []) checked ends = absurd checked
        by (a ∷ b ∷ rest) checked ends = walk a b rest checked.0 (subst (Contains parts.captures) ends checked.1) checked.2 ends

    pub capture-used : IsListedAnd (ComesTo Forward parts.arcs led) parts.captures p ↔ IsCheckedCapture parts p
    capture-used = (capture-to, capture-from)

  step-to : (arc : Arc) → Contains parts.arcs arc → IsLedTo parts.arcs parts.launches arc.from → LeadsTo parts.arcs parts.captures arc.to → IsCheckedStep parts arc.from arc.to
  step-to arc listed from there =
      let rest = from.steps ++ arc.to ∷ there.steps in
      let cut = split_last from.first from.steps in
      let whole : from.first ∷ rest ≡ cut.0 ++ arc.from ∷ arc.to ∷ there.steps =
      ap (λ (l : List PinNo). l ++ arc.to ∷ there.steps) cut.1
      ∙ append_assoc cut.0 (last_pin from.first from.steps ∷ []) (arc.to ∷ there.steps)
      ∙ ap (λ (q : PinNo). cut.0 ++ q ∷ arc.to ∷ there.steps) from.ends in
      let last : HasArc parts.arcs (last_pin from.first from.steps) arc.to = record { arc = arc; listed = listed; from = sym from.ends; to = refl } in
      record {
        before = cut.0;
        after = there.steps;
        checked = subst (IsCheckedPath parts) whole
            (checked-from parts from.first rest (some from.steps) from.begins
            (subst (Contains parts.captures) (sym (last_pin-append from.first from.steps (arc.to ∷ there.steps))) there.there)
            (EachNext-append parts.arcs from.first from.steps (arc.to ∷ there.steps) from.next (last, there.next)));
      }
    where
      some : (steps : List PinNo) → steps ++ arc.to ∷ there.steps ≡ [] → ⊥
      some [] e = cc
      some (x ∷ xs) e = cc

  pub record IsBetween (a b : PinNo) : Type 0 where
    pub led : IsLedTo parts.arcs parts.launches a
    pub leads : LeadsTo parts.arcs parts.captures b

  step-from : (a b : PinNo) → IsCheckedStep parts a b → IsBetween a b
  step-from a b h = by h.before h.checked
    where
      walk : (first : PinNo) (steps : List PinNo) → IsWalkThrough parts first (steps ++ a ∷ b ∷ h.after) → IsBetween a b
      walk first steps w =
          let cut : steps ++ a ∷ b ∷ h.after ≡ (steps ++ a ∷ []) ++ b ∷ h.after = sym (append_assoc steps (a ∷ []) (b ∷ h.after)) in
          let next : EachNext parts.arcs first ((steps ++ a ∷ []) ++ b ∷ h.after) = subst (EachNext parts.arcs first) cut w.next in
          let at_a : last_pin first (steps ++ a ∷ []) ≡ a = last_pin-append first steps (a ∷ []) in
          let more : EachNext parts.arcs a (b ∷ h.after) = subst (λ (q : PinNo). EachNext parts.arcs q (b ∷ h.after)) at_a (EachNext-append_right parts.arcs first (steps ++ a ∷ []) (b ∷ h.after) next) in
          record {
            led = record { first = first; steps = steps ++ a ∷ []; begins = w.begins; next = EachNext-append_left parts.arcs first (steps ++ a ∷ []) (b ∷ h.after) next; ends = at_a };
            leads = record { steps = h.after; next = more.1; there = subst (Contains parts.captures) (last_pin-append first steps (a ∷ b ∷ h.after)) w.ends };
          }

      by : (before : List PinNo) → IsCheckedPath parts (before ++ a ∷ b ∷ h.after) → IsBetween a b
      by [] checked = record {
        led = record { first = a; steps = []; begins = checked.0; next = tt; ends = refl };
        leads = record { steps = h.after; next = checked.2.1; there = checked.1 };
      }
      by (first ∷ steps) checked = walk first steps (walk-from_checked parts first (steps ++ a ∷ b ∷ h.after) checked)

  module _ (led leads : List Bool) (is_led : AreExact parts.pins (IsLedTo parts.arcs parts.launches) led) (do_lead : AreExact parts.pins (LeadsTo parts.arcs parts.captures) leads) (arc : Arc) (listed : Contains parts.arcs arc) where
    pub step-used : (IsTrue (get_or led arc.from.0 false) × IsTrue (get_or leads arc.to.0 false)) ↔ IsCheckedStep parts arc.from arc.to
    step-used = (
      (λ on. step-to arc listed ((is_led.exact arc.from (from-below arc listed)).0 on.0) ((do_lead.exact arc.to (to-below arc listed)).0 on.1)),
      (λ used. let h = step-from arc.from arc.to used in ((is_led.exact arc.from (from-below arc listed)).1 h.led, (do_lead.exact arc.to (to-below arc listed)).1 h.leads)),
    )

-- what is told of the pins in other words
pub tells-alike : (P Q : PinNo → Type 0) (pins : ℕ) (flags : List Bool) → ((p : PinNo) → P p ↔ Q p) → AreExact pins P flags → TellsPins pins Q flags
tells-alike P Q pins flags alike h = record {
  count = h.count;
  each = λ p below. ((λ is. (alike p).0 ((h.exact p below).0 is)), (λ q. (h.exact p below).1 ((alike p).1 q)));
}

pub AllZip-pushed : {A B : Type 0} (R : A → B → Type 0) (xs : List A) (ys : List B) (x : A) (y : B) → AllZip R xs ys → R x y → AllZip R (xs ++ x ∷ []) (ys ++ y ∷ [])
AllZip-pushed R [] [] x y h r = (r, tt)
AllZip-pushed R [] (b ∷ ys) x y h r = absurd h
AllZip-pushed R (a ∷ xs) [] x y h r = absurd h
AllZip-pushed R (a ∷ xs) (b ∷ ys) x y h r = (h.0, AllZip-pushed R xs ys x y h.1 r)

pub tells-more : {A : Type 0} (R : A → Bool → Type 0) (xs : List A) (n : ℕ) (d : A) (flags : List Bool) (flag : Bool) → n < length xs → AllZip R (take n xs) flags → R (get_or xs n d) flag → AllZip R (take (n + 1) xs) (flags ++ flag ∷ [])
tells-more {A} R xs n d flags flag below h r =
    subst (λ (ys : List A). AllZip R ys (flags ++ flag ∷ [])) (sym (take_more xs n d below)) (AllZip-pushed R (take n xs) flags (get_or xs n d) flag h r)

-- the flag of one arc more
module _ (parts : Parts) (own : NamesItsPins parts) (led leads : List Bool) (is_led : AreExact parts.pins (IsLedTo parts.arcs parts.launches) led)
    (do_lead : AreExact parts.pins (LeadsTo parts.arcs parts.captures) leads) where
  pub steps-more : (arcs : List Arc) → arcs ≡ parts.arcs → (one other : List Bool) → one ≡ led → other ≡ leads → (n : ℕ) (d : Arc) (flags : List Bool) (flag : Bool) → n < length arcs
      → AllZip (λ (arc : Arc) (flag : Bool). IsTrue flag ↔ IsCheckedStep parts arc.from arc.to) (take n arcs) flags
      → (IsTrue flag ↔ (IsTrue (get_or one (get_or arcs n d).from.0 false) × IsTrue (get_or other (get_or arcs n d).to.0 false)))
      → AllZip (λ (arc : Arc) (flag : Bool). IsTrue flag ↔ IsCheckedStep parts arc.from arc.to) (take (n + 1) arcs) (flags ++ flag ∷ [])
  steps-more arcs same one other is_one is_other n d flags flag below h is =
      let arc = get_or arcs n d in
      let listed : Contains parts.arcs arc = subst (λ (xs : List Arc). Contains xs arc) same (Contains-get_or arcs n d below) in
      let used = step-used parts own led leads is_led do_lead arc listed in
      let told : IsTrue flag ↔ (IsTrue (get_or led arc.from.0 false) × IsTrue (get_or leads arc.to.0 false)) =
      subst (λ (xs : List Bool). IsTrue flag ↔ (IsTrue (get_or xs arc.from.0 false) × IsTrue (get_or leads arc.to.0 false))) is_one
      (subst (λ (xs : List Bool). IsTrue flag ↔ (IsTrue (get_or one arc.from.0 false) × IsTrue (get_or xs arc.to.0 false))) is_other is) in
      tells-more (λ (arc : Arc) (flag : Bool). IsTrue flag ↔ IsCheckedStep parts arc.from arc.to) arcs n d flags flag below h
      ((λ on. used.0 (told.0 on)), (λ step. told.1 (used.1 step)))
