-- Whether a type has a pin of a name: among the names of all its pins.
use Rattle.std.proofs.Common.{◌≡◌, ℕ, zero, suc, ◌<◌, List, [], ◌∷◌, ◌++◌, get_or, true, ap, sym, ◌∙◌, inl, inr, arith}
use Rattle.std.specs.Prelude.{Option, Some, None, Contains, ◌||◌, bytes_eq, option_to_list}
use Rattle.std.proofs.lemmas.Bool.{or_cases, or_left, or_right}
use Rattle.std.proofs.lemmas.List.Elements.{Contains-append_left, Contains-append_right, Contains-append_cases}
use Rattle.std.proofs.lemmas.List.Folds.{list_any-from_Any}
use Rattle.std.proofs.lemmas.Map.Views.{Contains-from_any}
use Rattle.hold_base.proofs.Bytes.{bytes_eq-same, bytes_eq-self}
use Rattle.hold_job.specs.Rules.{pins_of}
use Rattle.hold_netlist.specs.Names.{is_among}
use Rattle.hold_roles.specs.declared.role.CellType.{CellType}
use Rattle.hold_roles.specs.TypePins.{is_clock}
use Rattle.hold_told.specs.inner.Names.{is_pin}

-- a name is among names exactly where it is one of them
pub among-Contains : (name : List ℕ) (names : List (List ℕ)) → is_among name names ≡ true → Contains names name
among-Contains name names h = Contains-from_any bytes_eq-same name names h

pub Contains-among : (name : List ℕ) (names : List (List ℕ)) → Contains names name → is_among name names ≡ true
Contains-among name names has = list_any-from_Any (bytes_eq name) names (has.0, name, has.1, has.2, bytes_eq-self name)

clock-Contains : (clock : Option (List ℕ)) (name : List ℕ) → is_clock clock name ≡ true → Contains (option_to_list clock) name
clock-Contains None name h = cc
clock-Contains (Some clock) name h = (0, (omega arith), sym (bytes_eq-same name clock h))

Contains-clock : (clock : Option (List ℕ)) (name : List ℕ) → Contains (option_to_list clock) name → is_clock clock name ≡ true
Contains-clock None name has = let lt = has.1 in absurd (omega arith)
Contains-clock (Some clock) name has = by has.0 has.1 has.2
  where
    by : (k : ℕ) → k < 1 → get_or (clock ∷ []) k name ≡ name → bytes_eq name clock ≡ true
    by zero lt is = ap (bytes_eq name) is ∙ bytes_eq-self name
    by (suc k) lt is = absurd (omega arith)

pub is_pin-Contains : (t : CellType) (name : List ℕ) → is_pin t name ≡ true → Contains (pins_of t) name
is_pin-Contains t name h =
    let clock = option_to_list t.clock in
    elim (or_cases (is_clock t.clock name) (is_among name t.inputs || (is_among name t.quiet || is_among name t.outputs)) h) [
      | inl c ↦ Contains-append_left clock (t.inputs ++ (t.quiet ++ t.outputs)) name (clock-Contains t.clock name c)
      | inr r ↦ Contains-append_right clock (t.inputs ++ (t.quiet ++ t.outputs)) name
          (elim (or_cases (is_among name t.inputs) (is_among name t.quiet || is_among name t.outputs) r) [
            | inl i ↦ Contains-append_left t.inputs (t.quiet ++ t.outputs) name (among-Contains name t.inputs i)
            | inr s ↦ Contains-append_right t.inputs (t.quiet ++ t.outputs) name
                (elim (or_cases (is_among name t.quiet) (is_among name t.outputs) s) [
                  | inl q ↦ Contains-append_left t.quiet t.outputs name (among-Contains name t.quiet q)
                  | inr o ↦ Contains-append_right t.quiet t.outputs name (among-Contains name t.outputs o)
                ])
          ])
    ]

pub Contains-is_pin : (t : CellType) (name : List ℕ) → Contains (pins_of t) name → is_pin t name ≡ true
Contains-is_pin t name has =
    let clock = option_to_list t.clock in
    elim (Contains-append_cases clock (t.inputs ++ (t.quiet ++ t.outputs)) name has) [
      | inl c ↦ or_left _ _ (Contains-clock t.clock name c)
      | inr r ↦ or_right (is_clock t.clock name) _
          (elim (Contains-append_cases t.inputs (t.quiet ++ t.outputs) name r) [
            | inl i ↦ or_left _ _ (Contains-among name t.inputs i)
            | inr s ↦ or_right (is_among name t.inputs) _
                (elim (Contains-append_cases t.quiet t.outputs name s) [
                  | inl q ↦ or_left _ _ (Contains-among name t.quiet q)
                  | inr o ↦ or_right (is_among name t.quiet) _ (Contains-among name t.outputs o)
                ])
          ])
    ]
