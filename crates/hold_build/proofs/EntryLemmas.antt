-- Entries of a job: registers by their names, and the pins that are kept, entry by entry.
use Rattle.std.proofs.Common.{◌≡◌, ℕ, ◌+◌, ◌<◌, ◌≤◌, ◌⊎◌, inl, inr, List, [], ◌∷◌, ◌++◌, length, get_or, set, Bool, true, false, refl, sym, ap, subst, ◌∙◌, arith}
use Rattle.std.specs.Prelude.{◌↔◌, Option, Some, None, IsTrue, slice_get, Contains}
use Rattle.std.proofs.lemmas.Bool.{cases_eq}
use Rattle.std.proofs.lemmas.List.{get_or_default, get_or-set_other, get_or-set_same}
use Rattle.std.proofs.lemmas.List.Elements.{All-contains, Contains-append_left, Contains-push, Contains-push_cases}
use Rattle.std.proofs.lemmas.Option.{slice_get-get_or, slice_get_within}
use Rattle.hold_base.specs.declared.number.InstNo.{InstNo}
use Rattle.hold_base.specs.declared.number.PinNo.{PinNo}
use Rattle.hold_job.specs.declared.inst_times.Clock.{Clock}
use Rattle.hold_job.specs.declared.inst_times.Keep.{Keep}
use Rattle.hold_job.specs.declared.job.Job.{Job}
use Rattle.hold_netlist.specs.declared.inst.Inst.{Inst}
use Rattle.hold_netlist.specs.Pins.{pin_count, pins_of}
use Rattle.hold_netlist.proofs.NumberingLemmas.{IsNumbered-below}
use Rattle.hold_roles.specs.declared.role.CellType.{CellType}
use Rattle.hold_roles.specs.declared.role.Role.{Role}
use Rattle.hold_roles.specs.declared.role.Role.TheVariants.{Register}
use Rattle.hold_roles.specs.Binding.{Binding}
use Rattle.hold_roles.specs.Types.{type_named, IsRoleOf}
use Rattle.hold_build.specs.Faults.{IsRegisterNamed, IsUnknownClock, IsUnknownKeep}
use Rattle.hold_build.specs.Listing.{ListsEach}
use Rattle.hold_build.specs.NetlistGraph.{IsKept, IsKeptBy, IsNamedInst}
use Rattle.hold_build.specs.inner.Names.{AreFlags, IsKeptBefore, IsMarked}
use Rattle.hold_build.proofs.ListingLemmas.{at-Contains, Contains-at, ListsEach-push, ListsEach-same}

-- ---- registers

pub role-one : (types : List CellType) (insts : List Inst) (n : ℕ) (r s : Role) → IsRoleOf types insts n r → IsRoleOf types insts n s → r ≡ s
role-one types insts n r s h k =
    let insts_are : Some h.type_of.inst ≡ Some k.type_of.inst = sym h.type_of.at ∙ k.type_of.at in
    let inst : h.type_of.inst ≡ k.type_of.inst = cc in
    let types_are : Some h.t ≡ Some k.t = sym h.type_of.named ∙ ap (λ (i : Inst). type_named i.kind types) inst ∙ k.type_of.named in
    let t : h.t ≡ k.t = cc in
    sym h.is ∙ ap (λ (x : CellType). x.role) t ∙ k.is

pub named-within : (insts : List Inst) (n : ℕ) (name : List ℕ) → IsNamedInst insts n name → n < length insts
named-within insts n name h = slice_get_within insts n h.i h.at

pub register-named : (b : Binding) (name : List ℕ) (inst : InstNo) (role : Role) (is : Bool) → ((i : InstNo) → IsNamedInst b.netlist.insts i.0 name ↔ (Some inst ≡ Some i))
    → IsRoleOf b.types b.netlist.insts inst.0 role → (IsTrue is ↔ (role ≡ Register)) → IsTrue is ↔ IsRegisterNamed b name
register-named b name inst role is named has told = (
  λ yes. record { inst = inst.0; named = (named inst).1 refl; register = subst (IsRoleOf b.types b.netlist.insts inst.0) (told.0 yes) has },
  λ h.
      let found : Some inst ≡ Some (record { 0 = h.inst }) = (named (record { 0 = h.inst })).0 h.named in
      let same : record { 0 = h.inst } ≡ inst = cc in
      let number : h.inst ≡ inst.0 = ap (λ (i : InstNo). i.0) same in
      told.1 (role-one b.types b.netlist.insts inst.0 role Register has (subst (λ n. IsRoleOf b.types b.netlist.insts n Register) number h.register)),
)

pub no_register-named : (b : Binding) (name : List ℕ) → ((i : InstNo) → IsNamedInst b.netlist.insts i.0 name ↔ (None ≡ Some i)) → IsTrue false ↔ IsRegisterNamed b name
no_register-named b name named = (λ yes. cc, λ h. let found : None ≡ Some (record { 0 = h.inst }) = (named (record { 0 = h.inst })).0 h.named in cc)

-- ---- one entry

entry-same : {X : Type 0} (xs : List X) (n : ℕ) (x y : X) → n < length xs → x ≡ get_or xs n x → slice_get xs n ≡ Some y → x ≡ y
entry-same xs n x y within here at = let there : Some x ≡ Some y = ap Some here ∙ sym (slice_get-get_or xs n x within) ∙ at in cc

pub clock-known : (b : Binding) (job : Job) (n : ℕ) (clock : Clock) → n < length job.clocks → clock ≡ get_or job.clocks n clock → IsRegisterNamed b clock.inst → IsUnknownClock b job n → ⊥
clock-known b job n clock within here register h =
    h.unknown (subst (λ (x : Clock). IsRegisterNamed b x.inst) (entry-same job.clocks n clock h.entry within here h.at) register)

pub clocks-past : (b : Binding) (job : Job) (n k : ℕ) → length job.clocks ≤ n → IsUnknownClock b job k → k < n
clocks-past b job n k past h = let inside = slice_get_within job.clocks k h.entry h.at in omega arith

pub keep-unknown : (b : Binding) (job : Job) (n : ℕ) (keep : Keep) → n < length job.keeps → keep ≡ get_or job.keeps n keep → ((p : PinNo) → IsKeptBy b.netlist.insts keep p ↔ (None ≡ Some p))
    → IsUnknownKeep b job n
keep-unknown b job n keep within here none = record {
  entry = keep;
  at = slice_get-get_or job.keeps n keep within ∙ ap Some (sym here);
  unknown = λ p h. let found : None ≡ Some p = (none p).0 h in cc;
}

pub keeps-past : (b : Binding) (job : Job) (n k : ℕ) → length job.keeps ≤ n → IsUnknownKeep b job k → k < n
keeps-past b job n k past h = let inside = slice_get_within job.keeps k h.entry h.at in omega arith

-- ---- flags

pub flags-none : (flags : List Bool) → ((p : PinNo) → get_or flags p.0 false ≡ false) → AreFlags [] flags
flags-none flags none = record { tells = λ p. (λ yes. let no = none p in cc, λ h. absurd (omega (arith, h.1))) }

pub flags-set : (pins new : List PinNo) (flags : List Bool) (pin : PinNo) → pin.0 < length flags → new ≡ pins ++ pin ∷ [] → AreFlags pins flags → AreFlags new (set flags pin.0 true)
flags-set pins new flags pin within pushed h = subst (λ l. AreFlags l (set flags pin.0 true)) (sym pushed) (record { tells = λ p. by p (cases_eq p.0 pin.0) })
  where
    by : (p : PinNo) → ((p.0 ≡ pin.0) ⊎ (p.0 ≡ pin.0 → ⊥)) → (get_or (set flags pin.0 true) p.0 false ≡ true) ↔ Contains (pins ++ pin ∷ []) p
    by p (inl e) =
        let same : pin ≡ p = ap (λ n. record { 0 = n }) (sym e) in (
          λ yes. subst (Contains (pins ++ pin ∷ [])) same (Contains-push pins pin),
          λ there. ap (λ n. get_or (set flags pin.0 true) n false) e ∙ get_or-set_same flags pin.0 true false within,
        )
    by p (inr d) =
        let other = get_or-set_other flags pin.0 p.0 true false d in (
          λ yes. Contains-append_left pins (pin ∷ []) p ((h.tells p).0 (sym other ∙ yes)),
          λ there. other ∙ (h.tells p).1 (elim (Contains-push_cases pins pin p there) [ inl a ↦ a | inr e ↦ absurd (d (ap (λ (q : PinNo). q.0) (sym e))) ]),
        )

pub flags-known : (pins : List PinNo) (flags : List Bool) (pin : PinNo) (seen : Bool) → pin.0 < length flags → seen ≡ get_or flags pin.0 seen → seen ≡ true → AreFlags pins flags → IsMarked pins pins pin
flags-known pins flags pin seen within read is_set h = inl ((h.tells pin).0 (get_or_default flags pin.0 false seen within ∙ sym read ∙ is_set), refl)

-- ---- the pins of the entries so far

pub kept-pin-within : (b : Binding) (keep : Keep) (pin : PinNo) → ((p : PinNo) → IsKeptBy b.netlist.insts keep p ↔ (Some pin ≡ Some p)) → pin.0 < pins_of b.netlist
kept-pin-within b keep pin named =
    let h = (named pin).1 refl in
    omega (arith, IsNumbered-below pin_count b.netlist.insts pin.0 h.inst h.place h.numbered)

module _ (b : Binding) (job : Job) (n : ℕ) (keep : Keep) (within : n < length job.keeps) (here : keep ≡ get_or job.keeps n keep) (pin : PinNo)
    (named : (p : PinNo) → IsKeptBy b.netlist.insts keep p ↔ (Some pin ≡ Some p)) where
  more : (p : PinNo) → IsKeptBefore b job n p → IsKeptBefore b job (n + 1) p
  more p h = record { place = h.place; before = omega (arith, h.before); keep = h.keep; at = h.at; by = h.by }

  this : IsKeptBefore b job (n + 1) pin
  this = record { place = n; before = omega arith; keep = keep; at = slice_get-get_or job.keeps n keep within ∙ ap Some (sym here); by = (named pin).1 refl }

  before-or-this : (p : PinNo) → IsKeptBefore b job (n + 1) p → IsKeptBefore b job n p ⊎ (pin ≡ p)
  before-or-this p h = by (cases_eq h.place n)
    where
      by : ((h.place ≡ n) ⊎ (h.place ≡ n → ⊥)) → IsKeptBefore b job n p ⊎ (pin ≡ p)
      by (inl e) =
          let same : keep ≡ h.keep = entry-same job.keeps n keep h.keep within here (ap (slice_get job.keeps) (sym e) ∙ h.at) in
          let found : Some pin ≡ Some p = (named p).0 (subst (λ (k : Keep). IsKeptBy b.netlist.insts k p) (sym same) h.by) in
          inr cc
      by (inr d) = inl (record { place = h.place; before = omega (arith, h.before, d); keep = h.keep; at = h.at; by = h.by })

  pub kept-next : (old new : List PinNo) → IsMarked old new pin → ListsEach (IsKeptBefore b job n) old → ListsEach (IsKeptBefore b job (n + 1)) new
  kept-next old new (inl m) h = subst (ListsEach (IsKeptBefore b job (n + 1))) (sym m.1)
      (ListsEach-same (IsKeptBefore b job n) (IsKeptBefore b job (n + 1)) old more
      (λ p k. elim (before-or-this p k) [ inl a ↦ a | inr e ↦ subst (IsKeptBefore b job n) e (All-contains (IsKeptBefore b job n) old pin h.sound m.0) ]) h)
  kept-next old new (inr m) h = subst (ListsEach (IsKeptBefore b job (n + 1))) (sym m.1)
      (ListsEach-push (IsKeptBefore b job n) (IsKeptBefore b job (n + 1)) old pin h more this (λ k. m.0 (h.whole pin k)) before-or-this)

  -- the entry isn't unknown
  pub keep-known : IsUnknownKeep b job n → ⊥
  keep-known h =
      let same : keep ≡ h.entry = entry-same job.keeps n keep h.entry within here h.at in
      h.unknown pin (subst (λ (k : Keep). IsKeptBy b.netlist.insts k pin) same ((named pin).1 refl))

-- all entries
pub kept-all : (b : Binding) (job : Job) (n : ℕ) (pins : List PinNo) → length job.keeps ≤ n → ListsEach (IsKeptBefore b job n) pins → ListsEach (IsKept b job) pins
kept-all b job n pins past = ListsEach-same (IsKeptBefore b job n) (IsKept b job) pins
    (λ p h. record { keep = h.keep; listed = Contains-at job.keeps h.place h.keep h.at; by = h.by })
    (λ p h. let at = at-Contains job.keeps h.keep h.listed in let inside = slice_get_within job.keeps at.0 h.keep at.1 in
    record { place = at.0; before = omega arith; keep = h.keep; at = at.1; by = h.by })

-- what the look-up of an entry's pin answers, at a netlist as it was lent
pub pin-named : (insts seen : List Inst) (keep : Keep) (o : Option PinNo) (pin : PinNo) → seen ≡ insts → o ≡ Some pin → ((p : PinNo) → IsKeptBy seen keep p ↔ (o ≡ Some p))
    → (p : PinNo) → IsKeptBy insts keep p ↔ (Some pin ≡ Some p)
pin-named insts seen keep o pin same is h p =
    let told = h p in
    (λ k. sym is ∙ told.0 (subst (λ (l : List Inst). IsKeptBy l keep p) (sym same) k), λ e. subst (λ (l : List Inst). IsKeptBy l keep p) same (told.1 (is ∙ e)))

pub no_pin-named : (insts seen : List Inst) (keep : Keep) (o : Option PinNo) → seen ≡ insts → ((pin : PinNo) → o ≡ Some pin → ⊥) → ((p : PinNo) → IsKeptBy seen keep p ↔ (o ≡ Some p))
    → (p : PinNo) → IsKeptBy insts keep p ↔ (None ≡ Some p)
no_pin-named insts seen keep o same never h p =
    (λ k. absurd (never p ((h p).0 (subst (λ (l : List Inst). IsKeptBy l keep p) (sym same) k))), λ e. absurd cc)
