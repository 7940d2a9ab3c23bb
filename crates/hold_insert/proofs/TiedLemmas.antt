-- A connection that is tied to another source: where it stands, and what stays as it was.
use Rattle.std.proofs.Common.{◌≡◌, ℕ, zero, suc, ◌-◌, ◌<◌, ◌≤◌, List, [], ◌∷◌, ◌++◌, length, map, get_or, Bool, true, false, cond, Option, Some, None, refl, ap, ◌∙◌, ◌⊎◌, inl, inr, subst, arith}
use Rattle.std.proofs.lemmas.List.{length-map}
use Rattle.std.specs.Prelude.{nat_lt}
use Rattle.std.specs.Bool.{MatchBool}
use Rattle.std.proofs.lemmas.Bool.Decides.{leb_tells}
use Rattle.hold_netlist.specs.declared.inst.Source.{Source}
use Rattle.hold_netlist.specs.declared.inst.Pin.{Pin}
use Rattle.hold_netlist.specs.declared.inst.Inst.{Inst}
use Rattle.hold_netlist.specs.Names.{pin_names}
use Rattle.hold_roles.specs.declared.role.CellType.{CellType}
use Rattle.hold_roles.specs.TypePins.{is_output_pin}
use Rattle.hold_roles.specs.Types.{type_named}
use Rattle.hold_insert.specs.Padded.{source_in, source_at, tied_pin, tied, with_pins}

pub lt-cases : (a b : ℕ) → ((nat_lt a b ≡ true) × (a < b)) ⊎ ((nat_lt a b ≡ false) × (b ≤ a))
lt-cases a b = elim (leb_tells (suc a) b) [ inl h ↦ inl (h.0, h.1) | inr h ↦ inr (h.0, omega (arith, h.1)) ]

abbrev pub on_source : Pin → Source → Pin
on_source pin s = record { name = pin.name; source = s }

-- ---- where a connection stands

pub record IsPinAt (pins : List Pin) (p : ℕ) : Type 0 where
  pub front : List Pin
  pub pin : Pin
  pub back : List Pin
  pub whole : pins ≡ front ++ pin ∷ back
  pub tied : (s : Source) → tied_pin pins p s ≡ front ++ on_source pin s ∷ back
  pub read : source_in pins p ≡ pin.source
  pub named : get_or (pin_names pins) p [] ≡ pin.name

pub pin-at : (pins : List Pin) (p : ℕ) → p < length pins → IsPinAt pins p
pin-at [] p lt = absurd (omega arith)
pin-at (pin ∷ pins) zero lt = record { front = []; pin = pin; back = pins; whole = refl; tied = λ s. refl; read = refl; named = refl }
pin-at (x ∷ pins) (suc p) lt = let rest = pin-at pins p (omega arith) in record {
  front = x ∷ rest.front;
  pin = rest.pin;
  back = rest.back;
  whole = ap (λ l. x ∷ l) rest.whole;
  tied = λ s. ap (λ l. x ∷ l) (rest.tied s);
  read = rest.read;
  named = rest.named;
}

pub record IsInstAt (insts : List Inst) (p : ℕ) : Type 0 where
  pub before : List Inst
  pub inst : Inst
  pub after : List Inst
  pub whole : insts ≡ before ++ inst ∷ after
  pub place : ℕ
  pub at : IsPinAt inst.pins place
  pub tied : (s : Source) → tied insts p s ≡ before ++ with_pins inst (tied_pin inst.pins place s) ∷ after
  pub read : source_at insts p ≡ source_in inst.pins place

-- ---- what the connections of instances are named

-- the name and the type of an instance, and the names of its connections
abbrev pub Shape : Type 0
Shape = List ℕ × List ℕ × List (List ℕ)

abbrev pub shape_of : Inst → Shape
shape_of i = (i.name, i.kind, pin_names i.pins)

abbrev pub IsInputName : Option CellType → List ℕ → Type 0
IsInputName None name = ⊥
IsInputName (Some t) name = is_output_pin t name ≡ false

-- connection p is one of an instance whose type is known, and no output of it
abbrev pub IsInputIn : List CellType → List Shape → ℕ → Type 0
IsInputIn types [] p = ⊥
IsInputIn types (x ∷ xs) p = MatchBool (nat_lt p (length x.2)) (IsInputName (type_named x.1 types) (get_or x.2 p [])) (IsInputIn types xs (p - length x.2))

pub record IsInputAt (types : List CellType) (insts : List Inst) (p : ℕ) : Type 0 where
  pub at : IsInstAt insts p
  pub input : IsInputName (type_named at.inst.kind types) at.at.pin.name

pub input-at : (types : List CellType) (insts : List Inst) (p : ℕ) → IsInputIn types (map shape_of insts) p → IsInputAt types insts p
input-at types [] p h = absurd h
input-at types (i ∷ is) p h = by (lt-cases p (length i.pins)) (λ k. input-at types is (p - length i.pins) k)
  where
    long : length (pin_names i.pins) ≡ length i.pins
    long = length-map i.pins (λ (x : Pin). x.name)

    by : ((nat_lt p (length i.pins) ≡ true) × (p < length i.pins)) ⊎ ((nat_lt p (length i.pins) ≡ false) × (length i.pins ≤ p))
        → (IsInputIn types (map shape_of is) (p - length i.pins) → IsInputAt types is (p - length i.pins)) → IsInputAt types (i ∷ is) p
    by (inl lt) later =
        let pin = pin-at i.pins p lt.1 in
        let test : nat_lt p (length (pin_names i.pins)) ≡ true = ap (nat_lt p) long ∙ lt.0 in
        let told = subst (λ (b : Bool). MatchBool b (IsInputName (type_named i.kind types) (get_or (pin_names i.pins) p [])) (IsInputIn types (map shape_of is) (p - length (pin_names i.pins)))) test h in
        record {
          at = record {
            before = [];
            inst = i;
            after = is;
            whole = refl;
            place = p;
            at = pin;
            tied = λ s. ap (λ (b : Bool). cond b (with_pins i (tied_pin i.pins p s) ∷ is) (i ∷ tied is (p - length i.pins) s)) lt.0;
            read = ap (λ (b : Bool). cond b (source_in i.pins p) (source_at is (p - length i.pins))) lt.0;
          };
          input = subst (λ name. IsInputName (type_named i.kind types) name) pin.named told;
        }
    by (inr ge) later =
        let test : nat_lt p (length (pin_names i.pins)) ≡ false = ap (nat_lt p) long ∙ ge.0 in
        let told = subst (λ (b : Bool). MatchBool b (IsInputName (type_named i.kind types) (get_or (pin_names i.pins) p [])) (IsInputIn types (map shape_of is) (p - length (pin_names i.pins)))) test h in
        let rest = later (subst (λ n. IsInputIn types (map shape_of is) (p - n)) long told) in
        record {
          at = record {
            before = i ∷ rest.at.before;
            inst = rest.at.inst;
            after = rest.at.after;
            whole = ap (λ l. i ∷ l) rest.at.whole;
            place = rest.at.place;
            at = rest.at.at;
            tied = λ s. ap (λ (b : Bool). cond b (with_pins i (tied_pin i.pins p s) ∷ is) (i ∷ tied is (p - length i.pins) s)) ge.0 ∙ ap (λ l. i ∷ l) (rest.at.tied s);
            read = ap (λ (b : Bool). cond b (source_in i.pins p) (source_at is (p - length i.pins))) ge.0 ∙ rest.at.read;
          };
          input = rest.input;
        }

-- more instances behind these
pub IsInputIn-append : (types : List CellType) (xs ys : List Shape) (p : ℕ) → IsInputIn types xs p → IsInputIn types (xs ++ ys) p
IsInputIn-append types [] ys p h = absurd h
IsInputIn-append types (x ∷ xs) ys p h = by (nat_lt p (length x.2)) h (λ k. IsInputIn-append types xs ys (p - length x.2) k)
  where
    by : (b : Bool) → MatchBool b (IsInputName (type_named x.1 types) (get_or x.2 p [])) (IsInputIn types xs (p - length x.2))
        → (IsInputIn types xs (p - length x.2) → IsInputIn types (xs ++ ys) (p - length x.2))
        → MatchBool b (IsInputName (type_named x.1 types) (get_or x.2 p [])) (IsInputIn types (xs ++ ys) (p - length x.2))
    by true k later = k
    by false k later = later k

-- ---- what stays

pub pin_names-tied_pin : (pins : List Pin) (p : ℕ) (s : Source) → pin_names (tied_pin pins p s) ≡ pin_names pins
pin_names-tied_pin [] p s = refl
pin_names-tied_pin (pin ∷ pins) zero s = refl
pin_names-tied_pin (pin ∷ pins) (suc p) s = ap (λ l. pin.name ∷ l) (pin_names-tied_pin pins p s)

pub shapes-tied : (insts : List Inst) (p : ℕ) (s : Source) → map shape_of (tied insts p s) ≡ map shape_of insts
shapes-tied [] p s = refl
shapes-tied (i ∷ is) p s = by (nat_lt p (length i.pins)) (shapes-tied is (p - length i.pins) s)
  where
    by : (b : Bool) → map shape_of (tied is (p - length i.pins) s) ≡ map shape_of is
        → map shape_of (cond b (with_pins i (tied_pin i.pins p s) ∷ is) (i ∷ tied is (p - length i.pins) s)) ≡ map shape_of (i ∷ is)
    by true rest = ap (λ (names : List (List ℕ)). (i.name, i.kind, names) ∷ map shape_of is) (pin_names-tied_pin i.pins p s)
    by false rest = ap (λ (l : List Shape). shape_of i ∷ l) rest
