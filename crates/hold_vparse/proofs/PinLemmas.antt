-- Pins that an instance names again.
use Rattle.std.proofs.Common.{◌≡◌, ℕ, List, [], ◌∷◌, ◌++◌, Bool, true, false, cond, refl, sym, ap, ◌∙◌, is_none, not, bytes_eq, inl, inr}
use Rattle.std.specs.Prelude.{◌||◌}
use Rattle.std.proofs.lemmas.Bool.{cases_Bool}
use Rattle.std.proofs.lemmas.Slice.Eq.{bytes_eq-Decides}
use Rattle.hold_netlist.specs.Names.{is_among}
use Rattle.hold_netlist.specs.inner.NameTable.{names_of}
use Rattle.hold_netlist.specs.NameTable.{number_of}
use Rattle.hold_netlist.proofs.NameTableLemmas.{is_none_number}
use Rattle.hold_vsyntax.specs.declared.tree.Connection.{Connection}
use Rattle.hold_vsyntax.specs.declared.tree.Ident.{Ident}
use Rattle.hold_vparse.specs.DoubleNames.{repeated_pins}
use Rattle.hold_vparse.proofs.NameLists.{is_among-append}

absorbed : (a b : Bool) → (b ≡ true → a ≡ true) → a ≡ (a || b)
absorbed true b h = refl
absorbed false true h = h refl
absorbed false false h = refl

-- a name that is there already changes no test
is_among-again : (x name : List ℕ) (seen : List (List ℕ)) → is_among x seen ≡ true → is_among name seen ≡ is_among name (seen ++ x ∷ [])
is_among-again x name seen h =
    absorbed (is_among name seen) (is_among name (x ∷ [])) (λ e. by (bytes_eq name x) refl e) ∙ sym (is_among-append name seen (x ∷ []))
  where
    by : (b : Bool) → bytes_eq name x ≡ b → (b || false) ≡ true → is_among name seen ≡ true
    by true same e = ap (λ (n : List ℕ). is_among n seen) ((bytes_eq-Decides name x).0 same) ∙ h
    by false same e = cc

-- only which names were seen counts
pub repeated_pins-same : (seen more : List (List ℕ)) (cs : List Connection) → ((name : List ℕ) → is_among name seen ≡ is_among name more) → repeated_pins seen cs ≡ repeated_pins more cs
repeated_pins-same seen more [] h = refl
repeated_pins-same seen more (c ∷ cs) h =
    let rest : repeated_pins (seen ++ c.pin.name ∷ []) cs ≡ repeated_pins (more ++ c.pin.name ∷ []) cs =
    repeated_pins-same (seen ++ c.pin.name ∷ []) (more ++ c.pin.name ∷ []) cs
    (λ name. is_among-append name seen (c.pin.name ∷ []) ∙ ap (λ (b : Bool). b || is_among name (c.pin.name ∷ [])) (h name) ∙ sym (is_among-append name more (c.pin.name ∷ []))) in
    ap (λ (l : List Ident). cond (is_among c.pin.name seen) (c.pin ∷ l) l) rest
    ∙ ap (λ (b : Bool). cond b (c.pin ∷ repeated_pins (more ++ c.pin.name ∷ []) cs) (repeated_pins (more ++ c.pin.name ∷ []) cs)) (h c.pin.name)

-- one connection more
pub repeated_pins-step : (seen more : List (List ℕ)) (c : Connection) (cs : List Connection) → more ≡ cond (is_among c.pin.name seen) seen (seen ++ c.pin.name ∷ [])
    → repeated_pins seen (c ∷ cs) ≡ cond (is_among c.pin.name seen) (c.pin ∷ []) [] ++ repeated_pins more cs
repeated_pins-step seen more c cs put = elim (cases_Bool (is_among c.pin.name seen)) [
  | inl again ↦
      let same : more ≡ seen = put ∙ ap (λ (b : Bool). cond b seen (seen ++ c.pin.name ∷ [])) again in
      ap (λ (b : Bool). cond b (c.pin ∷ repeated_pins (seen ++ c.pin.name ∷ []) cs) (repeated_pins (seen ++ c.pin.name ∷ []) cs)) again
      ∙ ap (λ (l : List Ident). c.pin ∷ l) (sym (repeated_pins-same seen (seen ++ c.pin.name ∷ []) cs (λ name. is_among-again c.pin.name name seen again)) ∙ ap (λ (s : List (List ℕ)). repeated_pins s cs) (sym same))
      ∙ ap (λ (b : Bool). cond b (c.pin ∷ []) [] ++ repeated_pins more cs) (sym again)
  | inr new ↦
      let next : more ≡ seen ++ c.pin.name ∷ [] = put ∙ ap (λ (b : Bool). cond b seen (seen ++ c.pin.name ∷ [])) new in
      ap (λ (b : Bool). cond b (c.pin ∷ repeated_pins (seen ++ c.pin.name ∷ []) cs) (repeated_pins (seen ++ c.pin.name ∷ []) cs)) new
      ∙ ap (λ (s : List (List ℕ)). repeated_pins s cs) (sym next)
      ∙ ap (λ (b : Bool). cond b (c.pin ∷ []) [] ++ repeated_pins more cs) (sym new)
]

-- what a table's answer tells
pub is_new_pin : (name text : List ℕ) (pairs : List (List ℕ × ℕ)) (new : Bool) → text ≡ name → new ≡ is_none (number_of text pairs) → is_among name (names_of pairs) ≡ not new
is_new_pin name text pairs new same told = back (is_among name (names_of pairs)) new (told ∙ ap (λ (n : List ℕ). is_none (number_of n pairs)) same ∙ is_none_number name pairs)
  where
    back : (a b : Bool) → b ≡ not a → a ≡ not b
    back true true h = cc
    back true false h = refl
    back false true h = refl
    back false false h = cc
