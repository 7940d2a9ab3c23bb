-- Names that don't stand twice, where a wire and an instance with new names stand behind the others.
use Rattle.std.proofs.Common.{◌≡◌, ℕ, ◌-◌, List, [], ◌∷◌, ◌++◌, length, Bool, true, false, cond, Option, Some, None, refl, sym, ap, ◌∙◌, append_assoc, append-nil}
use Rattle.std.specs.Prelude.{bytes_eq, nat_lt, ◌||◌}
use Rattle.std.specs.Option.{option_or}
use Rattle.std.proofs.lemmas.List.{map-append}
use Rattle.hold_base.proofs.Bools.{cond-None}
use Rattle.hold_base.proofs.Bytes.{bytes_eq-sym}
use Rattle.hold_base.proofs.Options.{option_or-None}
use Rattle.hold_netlist.specs.declared.inst.Source.{Source}
use Rattle.hold_netlist.specs.declared.inst.Inst.{Inst}
use Rattle.hold_netlist.specs.declared.wire.Wire.{Wire}
use Rattle.hold_netlist.specs.Doubles.{first_repeat, first_double_in_insts}
use Rattle.hold_netlist.specs.Names.{is_among, pin_names, wire_names}
use Rattle.hold_insert.specs.NewNames.{inst_names}
use Rattle.hold_insert.specs.Padded.{tied, tied_pin, with_pins}
use Rattle.hold_insert.proofs.TiedLemmas.{pin_names-tied_pin}

false-None : {X : Type 0} (b : Bool) (x : X) (o : Option X) → b ≡ false → o ≡ None → cond b (Some x) o ≡ None
false-None true x o h e = cc
false-None false x o h e = e

both-None : {X : Type 0} (a b : Option X) → a ≡ None → b ≡ None → option_or a b ≡ None
both-None None b h k = k
both-None (Some x) b h k = cc

-- ---- names of wires

first_repeat-push : (seen names : List (List ℕ)) (x : List ℕ) → first_repeat seen names ≡ None → is_among x (seen ++ names) ≡ false → first_repeat seen (names ++ x ∷ []) ≡ None
first_repeat-push seen [] x h new = false-None (is_among x seen) x None (ap (is_among x) (sym (append-nil seen)) ∙ new) refl
first_repeat-push seen (n ∷ names) x h new =
    let parts = cond-None (is_among n seen) n (first_repeat (seen ++ n ∷ []) names) h in
    false-None (is_among n seen) n _ parts.0 (first_repeat-push (seen ++ n ∷ []) names x parts.1 (ap (is_among x) (append_assoc seen (n ∷ []) names) ∙ new))

-- ---- names of instances

among-between : (name : List ℕ) (before after : List (List ℕ)) (x : List ℕ) → bytes_eq name x ≡ false → is_among name (before ++ x ∷ after) ≡ is_among name (before ++ after)
among-between name [] after x apart = ap (λ b. b || is_among name after) apart
among-between name (y ∷ before) after x apart = ap (λ b. bytes_eq name y || b) (among-between name before after x apart)

or-parts : (a b : Bool) → (a || b) ≡ false → (a ≡ false) × (b ≡ false)
or-parts true b h = cc
or-parts false b h = (refl, h)

-- one name more among those seen, which no instance has
doubles-between : (before after : List (List ℕ)) (x : List ℕ) (insts : List Inst) → is_among x (inst_names insts) ≡ false
    → first_double_in_insts (before ++ after) insts ≡ None → first_double_in_insts (before ++ x ∷ after) insts ≡ None
doubles-between before after x [] new h = refl
doubles-between before after x (i ∷ is) new h =
    let apart = or-parts (bytes_eq x i.name) (is_among x (inst_names is)) new in
    let parts = cond-None (is_among i.name (before ++ after)) _ _ h in
    let rest = option_or-None (first_repeat [] (pin_names i.pins)) (first_double_in_insts ((before ++ after) ++ i.name ∷ []) is) parts.1 in
    let later = doubles-between before (after ++ i.name ∷ []) x is apart.1 (ap (λ l. first_double_in_insts l is) (sym (append_assoc before after (i.name ∷ []))) ∙ rest.1) in
    false-None (is_among i.name (before ++ x ∷ after)) i.name _ (among-between i.name before after x (bytes_eq-sym i.name x ∙ apart.0) ∙ parts.0)
    (both-None (first_repeat [] (pin_names i.pins)) _ rest.0 (ap (λ l. first_double_in_insts l is) (append_assoc before (x ∷ after) (i.name ∷ [])) ∙ later))

-- one instance more at the end
doubles-push : (seen : List (List ℕ)) (insts : List Inst) (b : Inst) → first_double_in_insts seen insts ≡ None → is_among b.name (seen ++ inst_names insts) ≡ false
    → first_repeat [] (pin_names b.pins) ≡ None → first_double_in_insts seen (insts ++ b ∷ []) ≡ None
doubles-push seen [] b h new pins =
    false-None (is_among b.name seen) b.name _ (ap (is_among b.name) (sym (append-nil seen)) ∙ new) (both-None (first_repeat [] (pin_names b.pins)) None pins refl)
doubles-push seen (i ∷ is) b h new pins =
    let parts = cond-None (is_among i.name seen) _ _ h in
    let rest = option_or-None (first_repeat [] (pin_names i.pins)) (first_double_in_insts (seen ++ i.name ∷ []) is) parts.1 in
    false-None (is_among i.name seen) i.name _ parts.0
    (both-None (first_repeat [] (pin_names i.pins)) _ rest.0
    (doubles-push (seen ++ i.name ∷ []) is b rest.1 (ap (is_among b.name) (append_assoc seen (i.name ∷ []) (inst_names is)) ∙ new) pins))

-- ---- a connection tied elsewhere

doubles-tied : (seen : List (List ℕ)) (insts : List Inst) (p : ℕ) (s : Source) → first_double_in_insts seen (tied insts p s) ≡ first_double_in_insts seen insts
doubles-tied seen [] p s = refl
doubles-tied seen (i ∷ is) p s = by (nat_lt p (length i.pins)) (doubles-tied (seen ++ i.name ∷ []) is (p - length i.pins) s)
  where
    by : (b : Bool) → first_double_in_insts (seen ++ i.name ∷ []) (tied is (p - length i.pins) s) ≡ first_double_in_insts (seen ++ i.name ∷ []) is
        → first_double_in_insts seen (cond b (with_pins i (tied_pin i.pins p s) ∷ is) (i ∷ tied is (p - length i.pins) s)) ≡ first_double_in_insts seen (i ∷ is)
    by true rest = ap (λ names. cond (is_among i.name seen) (Some i.name) (option_or (first_repeat [] names) (first_double_in_insts (seen ++ i.name ∷ []) is))) (pin_names-tied_pin i.pins p s)
    by false rest = ap (λ o. cond (is_among i.name seen) (Some i.name) (option_or (first_repeat [] (pin_names i.pins)) o)) rest

pub inst_names-tied : (insts : List Inst) (p : ℕ) (s : Source) → inst_names (tied insts p s) ≡ inst_names insts
inst_names-tied [] p s = refl
inst_names-tied (i ∷ is) p s = by (nat_lt p (length i.pins)) (inst_names-tied is (p - length i.pins) s)
  where
    by : (b : Bool) → inst_names (tied is (p - length i.pins) s) ≡ inst_names is
        → inst_names (cond b (with_pins i (tied_pin i.pins p s) ∷ is) (i ∷ tied is (p - length i.pins) s)) ≡ inst_names (i ∷ is)
    by true rest = refl
    by false rest = ap (λ l. i.name ∷ l) rest

-- ---- all names of a netlist

pub names-push : (wires : List Wire) (insts : List Inst) (w : Wire) (b : Inst) (p : ℕ) (s : Source)
    → option_or (first_repeat [] (wire_names wires)) (first_double_in_insts (wire_names wires) insts) ≡ None
    → is_among w.name (wire_names wires) ≡ false → is_among w.name (inst_names insts) ≡ false
    → is_among b.name (wire_names (wires ++ w ∷ []) ++ inst_names insts) ≡ false → first_repeat [] (pin_names b.pins) ≡ None
    → option_or (first_repeat [] (wire_names (wires ++ w ∷ []))) (first_double_in_insts (wire_names (wires ++ w ∷ [])) (tied insts p s ++ b ∷ [])) ≡ None
names-push wires insts w b p s h new_wire new_in_insts new_inst pins =
    let parts = option_or-None (first_repeat [] (wire_names wires)) (first_double_in_insts (wire_names wires) insts) h in
    let pushed : wire_names (wires ++ w ∷ []) ≡ wire_names wires ++ w.name ∷ [] = map-append (λ (x : Wire). x.name) wires (w ∷ []) in
    let old : first_double_in_insts (wire_names (wires ++ w ∷ [])) insts ≡ None =
    ap (λ l. first_double_in_insts l insts) pushed ∙ doubles-between (wire_names wires) [] w.name insts new_in_insts (ap (λ l. first_double_in_insts l insts) (append-nil (wire_names wires)) ∙ parts.1) in
    both-None (first_repeat [] (wire_names (wires ++ w ∷ []))) _ (ap (first_repeat []) pushed ∙ first_repeat-push [] (wire_names wires) w.name parts.0 new_wire)
    (doubles-push (wire_names (wires ++ w ∷ [])) (tied insts p s) b (doubles-tied (wire_names (wires ++ w ∷ [])) insts p s ∙ old)
    (ap (λ l. is_among b.name (wire_names (wires ++ w ∷ []) ++ l)) (inst_names-tied insts p s) ∙ new_inst) pins)
