-- The numbers that names take, name by name, and the first that none takes.
use Rattle.std.proofs.Common.{◌≡◌, ◌≢◌, ℕ, zero, suc, ◌+◌, ◌<◌, ◌≤◌, ◌^◌, List, [], ◌∷◌, ◌++◌, length, get_or, set, replicate, Bool, true, false, cond, Option, Some, None, sym, ap, ◌∙◌, ◌⊎◌, inl, inr, arith}
use Rattle.std.specs.Prelude.{nat_lt}
use Rattle.std.specs.List.{count_by}
use Rattle.std.proofs.lemmas.Bool.{cases_order}
use Rattle.std.proofs.lemmas.Bool.Decides.{nat_tests}
use Rattle.std.proofs.lemmas.List.{get_or_default, get_or-replicate, get_or-set_same, get_or-set_other, length-append, length-map, length-replicate, length-set}
use Rattle.std.proofs.lemmas.List.Folds.{sum_by-replicate}
use Rattle.std.proofs.Math.ListN.{get_or-eq_default}
use Rattle.std.proofs.lemmas.List.Sums.{sum_by-cons}
use Rattle.hold_base.proofs.Bools.{cond-None}
use Rattle.hold_base.proofs.Lists.{AllByRecursion-append, AllByRecursion-append_left, AllByRecursion-append_right}
use Rattle.hold_graph.proofs.ListSums.{count_by-all}
use Rattle.hold_base.specs.Limits.{bits_limit, insts_limit}
use Rattle.hold_netlist.specs.declared.inst.Inst.{Inst}
use Rattle.hold_netlist.specs.declared.wire.Wire.{Wire}
use Rattle.hold_netlist.specs.Bits.{bits_of, width_of, width_of_range}
use Rattle.hold_netlist.specs.Design.{Design}
use Rattle.hold_netlist.specs.Names.{wire_names}
use Rattle.hold_netlist.specs.Valid.{IsValid}
use Rattle.hold_insert.specs.NewNames.{stem, inst_names, names_of, BeginsWith, IsFresh}
use Rattle.hold_insert.specs.inner.Used.{AreUsed, AreWithout}
use Rattle.hold_insert.proofs.NumberLemmas.{stem-one}

-- flags that are all set are as many as there are
pub all-set : (used : List Bool) → ((k : ℕ) → k < length used → get_or used k false ≡ true) → count_by (λ flag. flag) used ≡ length used
all-set used each = count_by-all (λ flag. flag) used (λ k d lt. get_or_default used k d false lt ∙ each k lt)

count-set_true : (used : List Bool) (n : ℕ) → count_by (λ flag. flag) (set used n true) ≤ count_by (λ flag. flag) used + 1
count-set_true [] n = omega arith
count-set_true (flag ∷ used) zero =
    let new = sum_by-cons (λ (x : Bool). cond {A = ℕ} x 1 0) true used in
    let old = sum_by-cons (λ (x : Bool). cond {A = ℕ} x 1 0) flag used in
    omega (arith, new, old)
count-set_true (flag ∷ used) (suc n) =
    let new = sum_by-cons (λ (x : Bool). cond {A = ℕ} x 1 0) flag (set used n true) in
    let old = sum_by-cons (λ (x : Bool). cond {A = ℕ} x 1 0) flag used in
    omega (arith, new, old, count-set_true used n)

-- a name that takes no number that there is a flag for
pub marked-none : (names : List (List ℕ)) (x : List ℕ) (used : List Bool) → ((n : ℕ) → n < length used → BeginsWith (stem n) x → ⊥) → AreUsed names used
    → AreUsed (names ++ x ∷ []) used
marked-none names x used none h = record {
  free = λ n lt is. AllByRecursion-append (λ name. BeginsWith (stem n) name → ⊥) names (x ∷ []) (h.free n lt is) (none n lt, tt);
  taken = λ n is all. h.taken n is (AllByRecursion-append_left (λ name. BeginsWith (stem n) name → ⊥) names (x ∷ []) all);
  few = omega (arith, h.few, length-append names (x ∷ []));
}

pub marked-past : (names : List (List ℕ)) (x : List ℕ) (used : List Bool) (m : ℕ) → m < 2 ^ 32 → length used ≤ m → BeginsWith (stem m) x → AreUsed names used
    → AreUsed (names ++ x ∷ []) used
marked-past names x used m small past of h = marked-none names x used (λ n lt begins. let same = stem-one x n m (omega arith) small begins of in omega arith) h

-- a name that takes number m
pub marked-at : (names : List (List ℕ)) (x : List ℕ) (used : List Bool) (m : ℕ) → m < length used → length used < 2 ^ 32 → BeginsWith (stem m) x → AreUsed names used
    → AreUsed (names ++ x ∷ []) (set used m true)
marked-at names x used m inside short of h = record {
  free = λ n lt is. free n (omega (arith, lt, length-set used m true)) is (cases_order n m);
  taken = λ n is all. taken n is all (cases_order n m);
  few = omega (arith, h.few, count-set_true used m, length-append names (x ∷ []));
}
  where
    apart : (n : ℕ) → n ≢ m → get_or (set used m true) n false ≡ get_or used n false
    apart n ne = get_or-set_other used m n true false ne

    free-other : (n : ℕ) → n < length used → n ≢ m → get_or (set used m true) n false ≡ false → AreWithout (names ++ x ∷ []) n
    free-other n lt ne is =
        AllByRecursion-append (λ name. BeginsWith (stem n) name → ⊥) names (x ∷ []) (h.free n lt (sym (apart n ne) ∙ is))
        ((λ begins. ne (stem-one x n m (omega arith) (omega arith) begins of)), tt)

    free : (n : ℕ) → n < length used → get_or (set used m true) n false ≡ false → (n ≡ m) ⊎ ((n < m) ⊎ (m < n)) → AreWithout (names ++ x ∷ []) n
    free n lt is (inl e) = let here : true ≡ false = sym (get_or-set_same used m true false inside) ∙ ap (λ k. get_or (set used m true) k false) (sym e) ∙ is in cc
    free n lt is (inr (inl less)) = free-other n lt (λ e. omega arith) is
    free n lt is (inr (inr more)) = free-other n lt (λ e. omega arith) is

    taken : (n : ℕ) → get_or (set used m true) n false ≡ true → AreWithout (names ++ x ∷ []) n → (n ≡ m) ⊎ ((n < m) ⊎ (m < n)) → ⊥
    taken n is all (inl e) = (AllByRecursion-append_right (λ name. BeginsWith (stem n) name → ⊥) names (x ∷ []) all).0 (subst-stem n (sym e))
      where
        subst-stem : (n : ℕ) → m ≡ n → BeginsWith (stem n) x
        subst-stem n e = (of.0, of.1 ∙ ap (λ k. stem k ++ of.0) e)
    taken n is all (inr (inl less)) = h.taken n (sym (apart n (λ e. omega arith)) ∙ is) (AllByRecursion-append_left (λ name. BeginsWith (stem n) name → ⊥) names (x ∷ []) all)
    taken n is all (inr (inr more)) = h.taken n (sym (apart n (λ e. omega arith)) ∙ is) (AllByRecursion-append_left (λ name. BeginsWith (stem n) name → ⊥) names (x ∷ []) all)

-- no name takes a number, and no flag is set
pub none-used : (many : ℕ) (used : List Bool) → used ≡ replicate many false → AreUsed [] used
none-used many used is = rw is (record {
  free = λ n lt at. tt;
  taken = λ n at all. absurd (unset n at (cases_under n));
  few = omega (arith, sum_by-replicate (λ (x : Bool). cond {A = ℕ} x 1 0) many false);
})
  where
    cases_under : (n : ℕ) → (n ≡ many) ⊎ ((n < many) ⊎ (many < n))
    cases_under n = cases_order n many

    unset : (n : ℕ) → get_or (replicate many false) n false ≡ true → (n ≡ many) ⊎ ((n < many) ⊎ (many < n)) → ⊥
    unset n at (inl e) = let off = get_or-eq_default (replicate many false) false {n = n} (omega (arith, length-replicate many false)) in cc
    unset n at (inr (inl lt)) = let off = get_or-replicate many n false false lt in cc
    unset n at (inr (inr more)) = let off = get_or-eq_default (replicate many false) false {n = n} (omega (arith, length-replicate many false)) in cc

-- the least number that no flag is set of is new to the netlist
pub fresh-from : (d : Design) (used : List Bool) (n : ℕ) → AreUsed (names_of d) used → n < length used → get_or used n true ≡ false
    → ((k : ℕ) → k < n → get_or used k false ≡ true) → IsFresh d n
fresh-from d used n h inside unset before = record {
  free = h.free n inside (get_or_default used n false true inside ∙ unset);
  least = λ m lt free. h.taken m (before m lt) free;
}

pub names-many : (d : Design) → length (names_of d) ≡ length d.wires + length d.insts
names-many d =
    let wires = length-map d.wires (λ (w : Wire). w.name) in
    let insts = length-map d.insts (λ (i : Inst). i.name) in
    omega (arith, length-append (wire_names d.wires) (inst_names d.insts), wires, insts)

width-least : (range : Option (ℕ × ℕ)) → 1 ≤ width_of_range range
width-least None = omega arith
width-least (Some r) = omega arith

wires-few : (wires : List Wire) → length wires ≤ bits_of wires
wires-few [] = omega arith
wires-few (w ∷ wires) = omega (arith, sum_by-cons width_of w wires, width-least w.range, wires-few wires)

-- a netlist has fewer names than there are numbers
pub names-few : (d : Design) → IsValid d → length d.wires + length d.insts ≤ 67108864
names-few d valid =
    let bits = cond-None (nat_lt bits_limit (bits_of d.wires)) _ _ valid.counts in
    let insts = cond-None (nat_lt insts_limit (length d.insts)) _ _ bits.1 in
    let wires = wires-few d.wires in
    omega (arith, lt-false bits_limit (bits_of d.wires) bits.0, lt-false insts_limit (length d.insts) insts.0)
  where
    lt-false : (a b : ℕ) → nat_lt a b ≡ false → b ≤ a
    lt-false a b h = grind (arith, nat_tests)
