-- Instances by what their connections are tied to: to tie one is to set one source.
use Rattle.std.proofs.Common.{◌≡◌, ℕ, zero, suc, ◌+◌, ◌-◌, ◌<◌, ◌≤◌, List, [], ◌∷◌, ◌++◌, length, get_or, set, drop, Bool, true, false, cond, refl, sym, ap, ◌∙◌, ◌⊎◌, inl, inr, arith}
use Rattle.std.specs.Prelude.{nat_lt}
use Rattle.std.proofs.lemmas.Bool.Decides.{nat_tests}
use Rattle.std.proofs.lemmas.Bool.{cases_lt}
use Rattle.std.proofs.lemmas.List.{length-append, length-drop, length-map}
use Rattle.std.proofs.lemmas.List.Sums.{sum_by-cons}
use Rattle.hold_netlist.specs.declared.inst.Inst.{Inst}
use Rattle.hold_netlist.specs.declared.inst.Pin.{Pin}
use Rattle.hold_netlist.specs.declared.inst.Source.{Source}
use Rattle.hold_netlist.specs.declared.inst.Source.TheVariants.{Empty}
use Rattle.hold_netlist.specs.Pins.{connection_count, pin_count}
use Rattle.hold_insert.specs.Padded.{source_in, source_at, tied_pin, tied, with_pins}
use Rattle.hold_insert.specs.inner.Sources.{pin_sources, sources_of, with_pin_sources, with_sources}

true-lt : (a b : ℕ) → a < b → nat_lt a b ≡ true
true-lt a b lt = grind (arith, nat_tests)

false-lt : (a b : ℕ) → b ≤ a → nat_lt a b ≡ false
false-lt a b le = grind (arith, nat_tests)

-- ---- a list of sources with one set

drop-low : (n : ℕ) (ss : List Source) (p : ℕ) (s : Source) → p < n → drop n (set ss p s) ≡ drop n ss
drop-low zero ss p s lt = absurd (omega arith)
drop-low (suc n) [] p s lt = refl
drop-low (suc n) (x ∷ ss) zero s lt = refl
drop-low (suc n) (x ∷ ss) (suc p) s lt = drop-low n ss p s (omega arith)

drop-high : (n : ℕ) (ss : List Source) (p q : ℕ) (s : Source) → p ≡ n + q → drop n (set ss p s) ≡ set (drop n ss) q s
drop-high zero ss p q s e = ap (λ k. set ss k s) (let same : p ≡ q = omega arith in same)
drop-high (suc n) [] p q s e = refl
drop-high (suc n) (x ∷ ss) zero q s e = absurd (omega arith)
drop-high (suc n) (x ∷ ss) (suc p) q s e = drop-high n ss p q s (omega arith)

get-drop : (n : ℕ) (ss : List Source) (p q : ℕ) (d : Source) → p ≡ n + q → get_or ss p d ≡ get_or (drop n ss) q d
get-drop zero ss p q d e = ap (λ k. get_or ss k d) (let same : p ≡ q = omega arith in same)
get-drop (suc n) [] p q d e = refl
get-drop (suc n) (x ∷ ss) zero q d e = absurd (omega arith)
get-drop (suc n) (x ∷ ss) (suc p) q d e = get-drop n ss p q d (omega arith)

-- ---- connections

pub length-with : (pins : List Pin) (ss : List Source) → length pins ≤ length ss → length (with_pin_sources pins ss) ≡ length pins
length-with [] ss le = refl
length-with (x ∷ pins) [] le = absurd (omega arith)
length-with (x ∷ pins) (s ∷ ss) le = omega (arith, length-with pins ss (omega arith))

pin-low : (pins : List Pin) (ss : List Source) (p : ℕ) (s : Source) → p < length pins → length pins ≤ length ss
    → tied_pin (with_pin_sources pins ss) p s ≡ with_pin_sources pins (set ss p s)
pin-low [] ss p s lt le = absurd (omega arith)
pin-low (x ∷ pins) [] p s lt le = absurd (omega arith)
pin-low (x ∷ pins) (y ∷ ss) zero s lt le = refl
pin-low (x ∷ pins) (y ∷ ss) (suc p) s lt le = ap (λ l. record { name = x.name; source = y } ∷ l) (pin-low pins ss p s (omega arith) (omega arith))

pin-high : (pins : List Pin) (ss : List Source) (p : ℕ) (s : Source) → length pins ≤ p → with_pin_sources pins (set ss p s) ≡ with_pin_sources pins ss
pin-high [] ss p s le = refl
pin-high (x ∷ pins) [] p s le = refl
pin-high (x ∷ pins) (y ∷ ss) zero s le = absurd (omega arith)
pin-high (x ∷ pins) (y ∷ ss) (suc p) s le = ap (λ l. record { name = x.name; source = y } ∷ l) (pin-high pins ss p s (omega arith))

pin-read : (pins : List Pin) (ss : List Source) (p : ℕ) → p < length pins → length pins ≤ length ss → source_in (with_pin_sources pins ss) p ≡ get_or ss p Empty
pin-read [] ss p lt le = absurd (omega arith)
pin-read (x ∷ pins) [] p lt le = absurd (omega arith)
pin-read (x ∷ pins) (y ∷ ss) zero lt le = refl
pin-read (x ∷ pins) (y ∷ ss) (suc p) lt le = pin-read pins ss p (omega arith) (omega arith)

pin-same : (pins : List Pin) (rest : List Source) → with_pin_sources pins (pin_sources pins ++ rest) ≡ pins
pin-same [] rest = refl
pin-same (x ∷ pins) rest = ap (λ l. x ∷ l) (pin-same pins rest)

pin-drop : (pins : List Pin) (rest : List Source) → drop (length pins) (pin_sources pins ++ rest) ≡ rest
pin-drop [] rest = refl
pin-drop (x ∷ pins) rest = pin-drop pins rest

-- ---- instances

-- tied to their own sources they are as they were
pub with-own : (insts : List Inst) → with_sources insts (sources_of insts) ≡ insts
with-own [] = refl
with-own (i ∷ is) =
    ap (λ l. with_pins i l ∷ with_sources is (drop (length i.pins) (sources_of (i ∷ is)))) (pin-same i.pins (sources_of is))
    ∙ ap (λ l. i ∷ with_sources is l) (pin-drop i.pins (sources_of is))
    ∙ ap (λ l. i ∷ l) (with-own is)

-- to tie a connection is to set its source
pub tied-set : (insts : List Inst) (ss : List Source) (p : ℕ) (s : Source) → connection_count insts ≤ length ss → p < connection_count insts
    → tied (with_sources insts ss) p s ≡ with_sources insts (set ss p s)
tied-set [] ss p s few lt = absurd (omega arith)
tied-set (i ∷ is) ss p s few lt = by (cases_lt p (length i.pins)) (tied-set is (drop (length i.pins) ss) (p - length i.pins) s)
  where
    more : connection_count (i ∷ is) ≡ length i.pins + connection_count is
    more = sum_by-cons pin_count i is

    long : length (with_pin_sources i.pins ss) ≡ length i.pins
    long = length-with i.pins ss (omega (arith, more))

    whole : Bool → ℕ → List Inst
    whole b n = cond b (with_pins i (tied_pin (with_pin_sources i.pins ss) p s) ∷ with_sources is (drop (length i.pins) ss))
        (with_pins i (with_pin_sources i.pins ss) ∷ tied (with_sources is (drop (length i.pins) ss)) (p - n) s)

    by : (p < length i.pins) ⊎ (length i.pins ≤ p)
        → (connection_count is ≤ length (drop (length i.pins) ss) → p - length i.pins < connection_count is
        → tied (with_sources is (drop (length i.pins) ss)) (p - length i.pins) s ≡ with_sources is (set (drop (length i.pins) ss) (p - length i.pins) s))
        → tied (with_sources (i ∷ is) ss) p s ≡ with_sources (i ∷ is) (set ss p s)
    by (inl low) later =
        ap (λ n. whole (nat_lt p n) n) long ∙ ap (λ b. whole b (length i.pins)) (true-lt p (length i.pins) low)
        ∙ ap (λ l. with_pins i l ∷ with_sources is (drop (length i.pins) ss)) (pin-low i.pins ss p s low (omega (arith, more)))
        ∙ ap (λ l. with_pins i (with_pin_sources i.pins (set ss p s)) ∷ with_sources is l) (sym (drop-low (length i.pins) ss p s low))
    by (inr high) later =
        ap (λ n. whole (nat_lt p n) n) long ∙ ap (λ b. whole b (length i.pins)) (false-lt p (length i.pins) high)
        ∙ ap (λ l. with_pins i (with_pin_sources i.pins ss) ∷ l) (later (omega (arith, more, length-drop (length i.pins) ss)) (omega (arith, more)))
        ∙ ap (λ l. with_pins i (with_pin_sources i.pins ss) ∷ with_sources is l) (sym (drop-high (length i.pins) ss p (p - length i.pins) s (omega arith)))
        ∙ ap (λ l. with_pins i l ∷ with_sources is (drop (length i.pins) (set ss p s))) (sym (pin-high i.pins ss p s high))

-- what a connection is tied to is its source
pub read-source : (insts : List Inst) (ss : List Source) (p : ℕ) → connection_count insts ≤ length ss → p < connection_count insts
    → source_at (with_sources insts ss) p ≡ get_or ss p Empty
read-source [] ss p few lt = absurd (omega arith)
read-source (i ∷ is) ss p few lt = by (cases_lt p (length i.pins)) (read-source is (drop (length i.pins) ss) (p - length i.pins))
  where
    more : connection_count (i ∷ is) ≡ length i.pins + connection_count is
    more = sum_by-cons pin_count i is

    long : length (with_pin_sources i.pins ss) ≡ length i.pins
    long = length-with i.pins ss (omega (arith, more))

    whole : Bool → ℕ → Source
    whole b n = cond b (source_in (with_pin_sources i.pins ss) p) (source_at (with_sources is (drop (length i.pins) ss)) (p - n))

    by : (p < length i.pins) ⊎ (length i.pins ≤ p)
        → (connection_count is ≤ length (drop (length i.pins) ss) → p - length i.pins < connection_count is
        → source_at (with_sources is (drop (length i.pins) ss)) (p - length i.pins) ≡ get_or (drop (length i.pins) ss) (p - length i.pins) Empty)
        → source_at (with_sources (i ∷ is) ss) p ≡ get_or ss p Empty
    by (inl low) later =
        ap (λ n. whole (nat_lt p n) n) long ∙ ap (λ b. whole b (length i.pins)) (true-lt p (length i.pins) low) ∙ pin-read i.pins ss p low (omega (arith, more))
    by (inr high) later =
        ap (λ n. whole (nat_lt p n) n) long ∙ ap (λ b. whole b (length i.pins)) (false-lt p (length i.pins) high)
        ∙ later (omega (arith, more, length-drop (length i.pins) ss)) (omega (arith, more))
        ∙ sym (get-drop (length i.pins) ss p (p - length i.pins) Empty (omega arith))

-- ---- instances behind these

pub tied-append : (xs ys : List Inst) (p : ℕ) (s : Source) → p < connection_count xs → tied (xs ++ ys) p s ≡ tied xs p s ++ ys
tied-append [] ys p s lt = absurd (omega arith)
tied-append (i ∷ is) ys p s lt = by (cases_lt p (length i.pins)) (tied-append is ys (p - length i.pins) s)
  where
    more : connection_count (i ∷ is) ≡ length i.pins + connection_count is
    more = sum_by-cons pin_count i is

    one : Bool → List Inst
    one b = cond b (with_pins i (tied_pin i.pins p s) ∷ (is ++ ys)) (i ∷ tied (is ++ ys) (p - length i.pins) s)

    two : Bool → List Inst
    two b = cond b (with_pins i (tied_pin i.pins p s) ∷ is) (i ∷ tied is (p - length i.pins) s)

    by : (p < length i.pins) ⊎ (length i.pins ≤ p) → (p - length i.pins < connection_count is → tied (is ++ ys) (p - length i.pins) s ≡ tied is (p - length i.pins) s ++ ys)
        → tied (i ∷ is ++ ys) p s ≡ tied (i ∷ is) p s ++ ys
    by (inl low) later = let test = true-lt p (length i.pins) low in ap one test ∙ sym (ap (λ b. two b ++ ys) test)
    by (inr high) later = let test = false-lt p (length i.pins) high in ap one test ∙ ap (λ l. i ∷ l) (later (omega (arith, more))) ∙ sym (ap (λ b. two b ++ ys) test)

pub source_at-append : (xs ys : List Inst) (p : ℕ) → p < connection_count xs → source_at (xs ++ ys) p ≡ source_at xs p
source_at-append [] ys p lt = absurd (omega arith)
source_at-append (i ∷ is) ys p lt = by (cases_lt p (length i.pins)) (source_at-append is ys (p - length i.pins))
  where
    more : connection_count (i ∷ is) ≡ length i.pins + connection_count is
    more = sum_by-cons pin_count i is

    by : (p < length i.pins) ⊎ (length i.pins ≤ p) → (p - length i.pins < connection_count is → source_at (is ++ ys) (p - length i.pins) ≡ source_at is (p - length i.pins))
        → source_at (i ∷ is ++ ys) p ≡ source_at (i ∷ is) p
    by (inl low) later = let test = true-lt p (length i.pins) low in
        ap (λ b. cond b (source_in i.pins p) (source_at (is ++ ys) (p - length i.pins))) test ∙ sym (ap (λ b. cond b (source_in i.pins p) (source_at is (p - length i.pins))) test)
    by (inr high) later = let test = false-lt p (length i.pins) high in
        ap (λ b. cond b (source_in i.pins p) (source_at (is ++ ys) (p - length i.pins))) test ∙ later (omega (arith, more))
        ∙ sym (ap (λ b. cond b (source_in i.pins p) (source_at is (p - length i.pins))) test)

pub length-sources : (insts : List Inst) → length (sources_of insts) ≡ connection_count insts
length-sources [] = refl
length-sources (i ∷ is) =
    omega (arith, length-append (pin_sources i.pins) (sources_of is), length-map i.pins (λ (p : Pin). p.source), sum_by-cons pin_count i is, length-sources is)

pub count-with : (insts : List Inst) (ss : List Source) → connection_count insts ≤ length ss → connection_count (with_sources insts ss) ≡ connection_count insts
count-with [] ss few = refl
count-with (i ∷ is) ss few =
    let more = sum_by-cons pin_count i is in
    omega (
      arith,
      more,
      sum_by-cons pin_count (with_pins i (with_pin_sources i.pins ss)) (with_sources is (drop (length i.pins) ss)),
      length-with i.pins ss (omega (arith, more)),
      count-with is (drop (length i.pins) ss) (omega (arith, more, length-drop (length i.pins) ss)),
    )
