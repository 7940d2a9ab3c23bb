-- New names: they are names, they differ from each other, and from what begins otherwise.
use Rattle.std.proofs.Common.{◌≡◌, ◌≢◌, ℕ, ◌+◌, ◌<◌, ◌≤◌, ◌^◌, ◌%◌, List, [], ◌∷◌, ◌++◌, get_or, false, refl, sym, ap, ◌∙◌, arith}
use Rattle.std.specs.Prelude.{bytes_eq, codes, decimal, ◌||◌}
use Rattle.std.specs.List.{AllByRecursion}
use Rattle.std.proofs.lemmas.Fmt.{decimal_by_steps, decimal_injective}
use Rattle.std.proofs.lemmas.List.{append_cancel_left}
use Rattle.std.proofs.lemmas.List.Folds.{list_any-append}
use Rattle.hold_base.proofs.Bools.{false-never}
use Rattle.hold_base.proofs.Bytes.{bytes_eq-same}
use Rattle.hold_base.proofs.Lists.{AllByRecursion-append, AllByRecursion-append_left, AllByRecursion-append_right, AllByRecursion-weaken}
use Rattle.hold_base.specs.NameBytes.{IsName, IsPrinted}
use Rattle.hold_netlist.specs.Design.{Design}
use Rattle.hold_netlist.specs.Names.{is_among, wire_names}
use Rattle.hold_insert.specs.NewNames.{stem, wire_name, inst_name, inst_names, BeginsWith, IsFree}

abbrev pub IsDigit : ℕ → Type 0
IsDigit b = (48 ≤ b) × (b ≤ 57)

pub decimal-digits : (n : ℕ) → n < 2 ^ 64 → AllByRecursion IsDigit (decimal n)
decimal-digits n small = decimal_by_steps (λ m ds. AllByRecursion IsDigit ds)
    (λ m less. ((omega arith, omega arith), tt))
    (λ m ds more h. AllByRecursion-append IsDigit ds ((48 + m % 10) ∷ []) h ((omega arith, omega arith), tt))
    n small

printed-digits : (ds : List ℕ) → AllByRecursion IsDigit ds → AllByRecursion IsPrinted ds
printed-digits ds h = AllByRecursion-weaken IsDigit IsPrinted (λ b d. (omega (arith, d.0), omega (arith, d.1))) ds h

printed-stem : (n : ℕ) → n < 2 ^ 64 → AllByRecursion IsPrinted (stem n)
printed-stem n small =
    AllByRecursion-append IsPrinted (codes "hold_") (decimal n ++ codes "_")
    ((omega arith, omega arith), ((omega arith, omega arith), ((omega arith, omega arith), ((omega arith, omega arith), ((omega arith, omega arith), tt)))))
    (AllByRecursion-append IsPrinted (decimal n) (codes "_") (printed-digits (decimal n) (decimal-digits n small)) ((omega arith, omega arith), tt))

pub wire_name-IsName : (n i : ℕ) → n < 2 ^ 64 → i < 2 ^ 64 → IsName (wire_name n i)
wire_name-IsName n i n_small i_small = record {
  some = λ e. cc;
  bytes = AllByRecursion-append IsPrinted (stem n) (codes "w" ++ decimal i) (printed-stem n n_small) ((omega arith, omega arith), printed-digits (decimal i) (decimal-digits i i_small));
}

pub inst_name-IsName : (n i : ℕ) → n < 2 ^ 64 → i < 2 ^ 64 → IsName (inst_name n i)
inst_name-IsName n i n_small i_small = record {
  some = λ e. cc;
  bytes = AllByRecursion-append IsPrinted (stem n) (codes "b" ++ decimal i) (printed-stem n n_small) ((omega arith, omega arith), printed-digits (decimal i) (decimal-digits i i_small));
}

-- ---- apart from each other

same-tail : (c : ℕ) (xs ys : List ℕ) → c ∷ xs ≡ c ∷ ys → xs ≡ ys
same-tail c xs ys e = cc

pub wire_names-apart : (n i j : ℕ) → i < 2 ^ 64 → j < 2 ^ 64 → i ≢ j → bytes_eq (wire_name n i) (wire_name n j) ≡ false
wire_names-apart n i j i_small j_small apart = false-never (bytes_eq (wire_name n i) (wire_name n j)) (wire_name n i ≡ wire_name n j) (bytes_eq-same (wire_name n i) (wire_name n j))
    (λ e. apart (decimal_injective i j i_small j_small (same-tail 119 (decimal i) (decimal j) (append_cancel_left (stem n) (codes "w" ++ decimal i) (codes "w" ++ decimal j) e))))

pub inst_names-apart : (n i j : ℕ) → i < 2 ^ 64 → j < 2 ^ 64 → i ≢ j → bytes_eq (inst_name n i) (inst_name n j) ≡ false
inst_names-apart n i j i_small j_small apart = false-never (bytes_eq (inst_name n i) (inst_name n j)) (inst_name n i ≡ inst_name n j) (bytes_eq-same (inst_name n i) (inst_name n j))
    (λ e. apart (decimal_injective i j i_small j_small (same-tail 98 (decimal i) (decimal j) (append_cancel_left (stem n) (codes "b" ++ decimal i) (codes "b" ++ decimal j) e))))

heads-apart : (a b : ℕ) (xs ys : List ℕ) → b < a → a ∷ xs ≡ b ∷ ys → ⊥
heads-apart a b xs ys less e = let first : a ≡ b = ap (λ (l : List ℕ). get_or l 0 0) e in omega arith

letters-apart : (xs ys : List ℕ) → 119 ∷ xs ≡ 98 ∷ ys → ⊥
letters-apart xs ys e = heads-apart 119 98 xs ys (omega arith) e

pub wire-inst-apart : (n i j : ℕ) → bytes_eq (wire_name n i) (inst_name n j) ≡ false
wire-inst-apart n i j = false-never (bytes_eq (wire_name n i) (inst_name n j)) (wire_name n i ≡ inst_name n j) (bytes_eq-same (wire_name n i) (inst_name n j))
    (λ e. letters-apart (decimal i) (decimal j) (append_cancel_left (stem n) (codes "w" ++ decimal i) (codes "b" ++ decimal j) e))

pub inst-wire-apart : (n i j : ℕ) → bytes_eq (inst_name n i) (wire_name n j) ≡ false
inst-wire-apart n i j = false-never (bytes_eq (inst_name n i) (wire_name n j)) (inst_name n i ≡ wire_name n j) (bytes_eq-same (inst_name n i) (wire_name n j))
    (λ e. letters-apart (decimal j) (decimal i) (append_cancel_left (stem n) (codes "w" ++ decimal j) (codes "b" ++ decimal i) (sym e)))

-- ---- apart from the names of a netlist

-- the name is none of a wire and none of an instance
pub record IsApart (d : Design) (name : List ℕ) : Type 0 where
  pub wires : is_among name (wire_names d.wires) ≡ false
  pub insts : is_among name (inst_names d.insts) ≡ false

free-among : (start name : List ℕ) → BeginsWith start name → (names : List (List ℕ)) → AllByRecursion (λ other. BeginsWith start other → ⊥) names → is_among name names ≡ false
free-among start name begins [] h = refl
free-among start name begins (other ∷ names) h =
    let apart : bytes_eq name other ≡ false = false-never (bytes_eq name other) (name ≡ other) (bytes_eq-same name other) (λ e. h.0 (begins.0, sym e ∙ begins.1)) in
    let rest : is_among name names ≡ false = free-among start name begins names h.1 in
    ap (λ b. b || is_among name names) apart ∙ rest

pub free-apart : (d : Design) (n : ℕ) (name : List ℕ) → IsFree d n → BeginsWith (stem n) name → IsApart d name
free-apart d n name free begins = record {
  wires = free-among (stem n) name begins (wire_names d.wires) (AllByRecursion-append_left (λ other. BeginsWith (stem n) other → ⊥) (wire_names d.wires) (inst_names d.insts) free);
  insts = free-among (stem n) name begins (inst_names d.insts) (AllByRecursion-append_right (λ other. BeginsWith (stem n) other → ⊥) (wire_names d.wires) (inst_names d.insts) free);
}

-- a name more at the end
pub among-push : (name : List ℕ) (names : List (List ℕ)) (x : List ℕ) → is_among name names ≡ false → bytes_eq name x ≡ false → is_among name (names ++ x ∷ []) ≡ false
among-push name names x h apart = list_any-append (bytes_eq name) names (x ∷ []) ∙ ap (λ b. b || (bytes_eq name x || false)) h ∙ ap (λ b. b || false) apart
