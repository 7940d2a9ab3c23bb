-- Names in a valid netlist stand once, so a name's first place is its only one, and an entry names one pin at most.
use Rattle.std.proofs.Common.{◌≡◌, ℕ, zero, suc, ◌+◌, ◌<◌, List, [], ◌∷◌, ◌++◌, length, map, Bool, true, false, cond, refl, sym, ap, subst, ◌∙◌, arith, bytes_eq}
use Rattle.std.specs.Prelude.{Some, None, ◌||◌, ◌↔◌, slice_get, option_map}
use Rattle.std.specs.Option.{option_or}
use Rattle.std.proofs.lemmas.Option.{slice_get-map, slice_get_within}
use Rattle.hold_base.proofs.Bools.{cond-None}
use Rattle.hold_base.proofs.Bytes.{bytes_eq-same, bytes_eq-self}
use Rattle.hold_base.proofs.Options.{option_map-Some, option_or-None}
use Rattle.hold_base.specs.declared.number.InstNo.{InstNo}
use Rattle.hold_base.specs.declared.number.PinNo.{PinNo}
use Rattle.hold_job.specs.declared.inst_times.Keep.{Keep}
use Rattle.hold_netlist.specs.declared.inst.Inst.{Inst}
use Rattle.hold_netlist.specs.declared.inst.Pin.{Pin}
use Rattle.hold_netlist.specs.Design.{Design}
use Rattle.hold_netlist.specs.Doubles.{first_double_in_insts, first_double_name, first_repeat}
use Rattle.hold_netlist.specs.Names.{is_among, pin_names, wire_names}
use Rattle.hold_netlist.specs.Numbering.{first_of}
use Rattle.hold_netlist.specs.Pins.{pin_count, IsConnection}
use Rattle.hold_roles.specs.inner.NamePlaces.{first_at}
use Rattle.hold_build.specs.Listing.{StandsOnce}
use Rattle.hold_build.specs.NetlistGraph.{IsKeptBy, IsNamedInst}
use Rattle.hold_build.specs.inner.Names.{inst_names}

-- ---- a list without a repeated name

among-last : (n : List ℕ) (seen : List (List ℕ)) → is_among n (seen ++ n ∷ []) ≡ true
among-last n [] = ap (λ b. b || false) (bytes_eq-self n)
among-last n (m ∷ seen) = by (bytes_eq n m) (among-last n seen)
  where
    by : (b : Bool) → is_among n (seen ++ n ∷ []) ≡ true → (b || is_among n (seen ++ n ∷ [])) ≡ true
    by true h = refl
    by false h = h

among-fewer : (n m : List ℕ) (seen : List (List ℕ)) → is_among n (seen ++ m ∷ []) ≡ false → is_among n seen ≡ false
among-fewer n m [] h = refl
among-fewer n m (x ∷ seen) h = by (bytes_eq n x) h (among-fewer n m seen)
  where
    by : (b : Bool) → (b || is_among n (seen ++ m ∷ [])) ≡ false → (is_among n (seen ++ m ∷ []) ≡ false → is_among n seen ≡ false) → (b || is_among n seen) ≡ false
    by true h more = absurd cc
    by false h more = more h

unseen : (seen names : List (List ℕ)) (k : ℕ) (n : List ℕ) → first_repeat seen names ≡ None → slice_get names k ≡ Some n → is_among n seen ≡ false
unseen seen [] k n none at = absurd cc
unseen seen (m ∷ names) zero n none at =
    let same : m ≡ n = cc in
    let parts = cond-None (is_among m seen) m (first_repeat (seen ++ m ∷ []) names) none in
    ap (λ x. is_among x seen) (sym same) ∙ parts.0
unseen seen (m ∷ names) (suc k) n none at =
    let parts = cond-None (is_among m seen) m (first_repeat (seen ++ m ∷ []) names) none in
    among-fewer n m seen (unseen (seen ++ m ∷ []) names k n parts.1 at)

-- a name that stands first isn't one of those behind
unlike-first : (seen names : List (List ℕ)) (m : List ℕ) (k : ℕ) → first_repeat (seen ++ m ∷ []) names ≡ None → slice_get names k ≡ Some m → ⊥
unlike-first seen names m k none at = let one = unseen (seen ++ m ∷ []) names k m none at in let other = among-last m seen in cc

pub no_repeat-once : (seen names : List (List ℕ)) → first_repeat seen names ≡ None → StandsOnce names
no_repeat-once seen [] none i j x h k = absurd cc
no_repeat-once seen (m ∷ names) none zero zero x h k = refl
no_repeat-once seen (m ∷ names) none zero (suc j) x h k =
    let same : m ≡ x = cc in
    absurd (unlike-first seen names m j (cond-None (is_among m seen) m (first_repeat (seen ++ m ∷ []) names) none).1 (k ∙ ap Some (sym same)))
no_repeat-once seen (m ∷ names) none (suc i) zero x h k =
    let same : m ≡ x = cc in
    absurd (unlike-first seen names m i (cond-None (is_among m seen) m (first_repeat (seen ++ m ∷ []) names) none).1 (h ∙ ap Some (sym same)))
no_repeat-once seen (m ∷ names) none (suc i) (suc j) x h k =
    ap suc (no_repeat-once (seen ++ m ∷ []) names (cond-None (is_among m seen) m (first_repeat (seen ++ m ∷ []) names) none).1 i j x h k)

-- ---- names of instances and of their pins

parts-None : (seen : List (List ℕ)) (i : Inst) (is : List Inst) → first_double_in_insts seen (i ∷ is) ≡ None
    → (first_repeat [] (pin_names i.pins) ≡ None) × (first_double_in_insts (seen ++ i.name ∷ []) is ≡ None)
parts-None seen i is none =
    option_or-None (first_repeat [] (pin_names i.pins)) (first_double_in_insts (seen ++ i.name ∷ []) is)
    (cond-None (is_among i.name seen) i.name (option_or (first_repeat [] (pin_names i.pins)) (first_double_in_insts (seen ++ i.name ∷ []) is)) none).1

insts-repeat : (seen : List (List ℕ)) (insts : List Inst) → first_double_in_insts seen insts ≡ None → first_repeat seen (inst_names insts) ≡ None
insts-repeat seen [] none = refl
insts-repeat seen (i ∷ is) none =
    let parts = cond-None (is_among i.name seen) i.name (option_or (first_repeat [] (pin_names i.pins)) (first_double_in_insts (seen ++ i.name ∷ []) is)) none in
    ap (λ b. cond b (Some i.name) (first_repeat (seen ++ i.name ∷ []) (inst_names is))) parts.0 ∙ insts-repeat (seen ++ i.name ∷ []) is (parts-None seen i is none).1

pins-repeat : (seen : List (List ℕ)) (insts : List Inst) (k : ℕ) (i : Inst) → first_double_in_insts seen insts ≡ None → slice_get insts k ≡ Some i → first_repeat [] (pin_names i.pins) ≡ None
pins-repeat seen [] k i none at = absurd cc
pins-repeat seen (j ∷ is) zero i none at =
    let same : j ≡ i = cc in
    ap (λ (x : Inst). first_repeat [] (pin_names x.pins)) (sym same) ∙ (parts-None seen j is none).0
pins-repeat seen (j ∷ is) (suc k) i none at = pins-repeat (seen ++ j.name ∷ []) is k i (parts-None seen j is none).1 at

module _ (d : Design) (names : first_double_name d ≡ None) where
  doubles : first_double_in_insts (wire_names d.wires) d.insts ≡ None
  doubles = (option_or-None (first_repeat [] (wire_names d.wires)) (first_double_in_insts (wire_names d.wires) d.insts) names).1

  pub insts-once : StandsOnce (inst_names d.insts)
  insts-once = no_repeat-once (wire_names d.wires) (inst_names d.insts) (insts-repeat (wire_names d.wires) d.insts doubles)

  pub pins-once : (k : ℕ) (i : Inst) → slice_get d.insts k ≡ Some i → StandsOnce (pin_names i.pins)
  pins-once k i at = no_repeat-once [] (pin_names i.pins) (pins-repeat (wire_names d.wires) d.insts k i doubles at)

-- ---- the first place of a name

first_at-some : (p : ℕ) (name : List ℕ) (names : List (List ℕ)) (k : ℕ) → first_at p name names ≡ Some k → (j : ℕ) × (k ≡ p + j) × (slice_get names j ≡ Some name)
first_at-some p name [] k h = cc
first_at-some p name (n ∷ names) k h = by (bytes_eq name n) refl h (first_at-some (p + 1) name names k)
  where
    by : (b : Bool) → bytes_eq name n ≡ b → cond b (Some p) (first_at (p + 1) name names) ≡ Some k
        → (first_at (p + 1) name names ≡ Some k → (j : ℕ) × (k ≡ p + 1 + j) × (slice_get names j ≡ Some name)) → (j : ℕ) × (k ≡ p + j) × (slice_get (n ∷ names) j ≡ Some name)
    by true is e more = let same : p ≡ k = cc in (0, omega arith, ap Some (sym (bytes_eq-same name n is)))
    by false is e more = let rest = more e in (suc rest.0, omega (arith, rest.1), rest.2)

first_at-none : (p : ℕ) (name : List ℕ) (names : List (List ℕ)) (j : ℕ) → first_at p name names ≡ None → slice_get names j ≡ Some name → ⊥
first_at-none p name [] j h at = cc
first_at-none p name (n ∷ names) zero h at =
    let same : n ≡ name = cc in
    let is : bytes_eq name n ≡ true = ap (bytes_eq name) same ∙ bytes_eq-self name in
    let found : Some p ≡ None = ap (λ b. cond b (Some p) (first_at (p + 1) name names)) (sym is) ∙ h in
    cc
first_at-none p name (n ∷ names) (suc j) h at = by (bytes_eq name n) h (λ e. first_at-none (p + 1) name names j e at)
  where
    by : (b : Bool) → cond b (Some p) (first_at (p + 1) name names) ≡ None → (first_at (p + 1) name names ≡ None → ⊥) → ⊥
    by true e more = cc
    by false e more = more e

-- an item of that name stands there
record HasName {X : Type 0} (name_of : X → List ℕ) (xs : List X) (k : ℕ) (name : List ℕ) : Type 0 where
  pub x : X
  pub at : slice_get xs k ≡ Some x
  pub named : name_of x ≡ name

has_name : {X : Type 0} (name_of : X → List ℕ) (xs : List X) (k : ℕ) (name : List ℕ) → slice_get (map name_of xs) k ≡ Some name → HasName name_of xs k name
has_name name_of xs k name h =
    let found = option_map-Some name_of (slice_get xs k) name (sym (slice_get-map name_of xs k) ∙ h) in
    record { x = found.0; at = found.1; named = found.2 }

name-at : {X : Type 0} (name_of : X → List ℕ) (xs : List X) (k : ℕ) (x : X) (name : List ℕ) → slice_get xs k ≡ Some x → name_of x ≡ name → slice_get (map name_of xs) k ≡ Some name
name-at name_of xs k x name at named = slice_get-map name_of xs k ∙ ap (option_map name_of) at ∙ ap Some named

first-place : {X : Type 0} (name_of : X → List ℕ) (xs : List X) (k : ℕ) (name : List ℕ) → Some k ≡ first_at 0 name (map name_of xs) → HasName name_of xs k name
first-place name_of xs k name h =
    let found = first_at-some 0 name (map name_of xs) k (sym h) in
    let same : k ≡ found.0 = omega (arith, found.1) in
    has_name name_of xs k name (ap (slice_get (map name_of xs)) same ∙ found.2)

no_place : {X : Type 0} (name_of : X → List ℕ) (xs : List X) (k : ℕ) (x : X) (name : List ℕ) → None ≡ first_at 0 name (map name_of xs) → slice_get xs k ≡ Some x → name_of x ≡ name → ⊥
no_place name_of xs k x name none at named = first_at-none 0 name (map name_of xs) k (sym none) (name-at name_of xs k x name at named)

-- ---- instances by their names

abbrev inst_name_of : Inst → List ℕ
inst_name_of i = i.name

module _ (d : Design) (names : first_double_name d ≡ None) (name : List ℕ) where
  pub inst-named : (k : ℕ) → Some k ≡ first_at 0 name (inst_names d.insts) → (inst : InstNo) → IsNamedInst d.insts inst.0 name ↔ (Some (record { 0 = k }) ≡ Some inst)
  inst-named k h inst =
      let found = first-place inst_name_of d.insts k name h in (
        λ given. let same : inst.0 ≡ k = insts-once d names inst.0 k name (name-at inst_name_of d.insts inst.0 given.i name given.at given.named) (name-at inst_name_of d.insts k found.x name found.at found.named) in
            ap (λ n. Some (record { 0 = n })) (sym same),
        λ e. let same : record { 0 = k } ≡ inst = cc in
            let number : k ≡ inst.0 = ap (λ (i : InstNo). i.0) same in
            record { i = found.x; at = ap (slice_get d.insts) (sym number) ∙ found.at; named = found.named },
      )

  pub no_inst-named : None ≡ first_at 0 name (inst_names d.insts) → (inst : InstNo) → IsNamedInst d.insts inst.0 name ↔ (None ≡ Some inst)
  no_inst-named h inst = (λ given. absurd (no_place inst_name_of d.insts inst.0 given.i name h given.at given.named), λ e. absurd cc)

  -- one that was found is there
  pub inst-within : (k : ℕ) → Some k ≡ first_at 0 name (inst_names d.insts) → k < length d.insts
  inst-within k h = let found = first-place inst_name_of d.insts k name h in slice_get_within d.insts k found.x found.at

-- ---- connections by their names

abbrev pin_name_of : Pin → List ℕ
pin_name_of pin = pin.name

module _ (d : Design) (names : first_double_name d ≡ None) (keep : Keep) where
  pub kept-no_inst : None ≡ first_at 0 keep.inst (inst_names d.insts) → (p : PinNo) → IsKeptBy d.insts keep p ↔ (None ≡ Some p)
  kept-no_inst h p = (λ given. absurd (no_place inst_name_of d.insts given.inst given.i keep.inst h given.is_inst given.named), λ e. absurd cc)

  module _ (k : ℕ) (found : Some k ≡ first_at 0 keep.inst (inst_names d.insts)) where
    inst : HasName inst_name_of d.insts k keep.inst
    inst = first-place inst_name_of d.insts k keep.inst found

    -- the instance of an entry is the one that was found
    same-inst : (p : PinNo) (h : IsKeptBy d.insts keep p) → (h.inst ≡ k) × (h.i ≡ inst.x)
    same-inst p h =
        let same : h.inst ≡ k = insts-once d names h.inst k keep.inst (name-at inst_name_of d.insts h.inst h.i keep.inst h.is_inst h.named)
        (name-at inst_name_of d.insts k inst.x keep.inst inst.at inst.named) in
        let both : Some h.i ≡ Some inst.x = sym h.is_inst ∙ ap (slice_get d.insts) same ∙ inst.at in
        (same, cc)

    pub kept-no_pin : ((i : Inst) → slice_get d.insts k ≡ Some i → None ≡ first_at 0 keep.pin (pin_names i.pins)) → (p : PinNo) → IsKeptBy d.insts keep p ↔ (None ≡ Some p)
    kept-no_pin none p = (
      λ given. let same = same-inst p given in
          absurd (no_place pin_name_of inst.x.pins given.place given.pin keep.pin (none inst.x inst.at) (ap (λ (i : Inst). slice_get i.pins given.place) (sym same.1) ∙ given.is_pin) given.pin_named),
      λ e. absurd cc,
    )

    module _ (place : ℕ) (at : (i : Inst) → slice_get d.insts k ≡ Some i → Some place ≡ first_at 0 keep.pin (pin_names i.pins)) where
      pin : HasName pin_name_of inst.x.pins place keep.pin
      pin = first-place pin_name_of inst.x.pins place keep.pin (at inst.x inst.at)

      -- its number is one of a connection
      pub kept-numbered : (first : ℕ) → first ≡ first_of pin_count d.insts k → IsConnection d.insts (first + place) k place
      kept-numbered first is = record { number = ap (λ n. n + place) is; within = (inst.x, inst.at, slice_get_within inst.x.pins place pin.x pin.at) }

      pub kept-pin : (first : ℕ) → first ≡ first_of pin_count d.insts k → (p : PinNo) → IsKeptBy d.insts keep p ↔ (Some (record { 0 = first + place }) ≡ Some p)
      kept-pin first is p = (
        λ given.
            let same = same-inst p given in
            let stands : slice_get inst.x.pins given.place ≡ Some given.pin = ap (λ (i : Inst). slice_get i.pins given.place) (sym same.1) ∙ given.is_pin in
            let here : given.place ≡ place = pins-once d names k inst.x inst.at given.place place keep.pin
            (name-at pin_name_of inst.x.pins given.place given.pin keep.pin stands given.pin_named) (name-at pin_name_of inst.x.pins place pin.x keep.pin pin.at pin.named) in
            let first_is : first_of pin_count d.insts given.inst ≡ first = ap (first_of pin_count d.insts) same.0 ∙ sym is in
            let number : p.0 ≡ first + place = omega (arith, given.numbered.number, first_is, here) in
            ap (λ n. Some (record { 0 = n })) (sym number),
        λ e.
            let same : record { 0 = first + place } ≡ p = cc in
            let number : first + place ≡ p.0 = ap (λ (q : PinNo). q.0) same in
            record {
              inst = k;
              i = inst.x;
              is_inst = inst.at;
              named = inst.named;
              place = place;
              pin = pin.x;
              is_pin = pin.at;
              pin_named = pin.named;
              numbered = subst (λ n. IsConnection d.insts n k place) number (kept-numbered first is);
            },
      )
