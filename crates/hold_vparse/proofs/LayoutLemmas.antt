-- Where the bits of a net stand among all bits.
use Rattle.std.proofs.Common.{◌≡◌, ℕ, zero, suc, ◌+◌, ◌≤◌, ◌<◌, List, [], ◌∷◌, Bool, true, false, cond, refl, sym, ap, ◌∙◌, bytes_eq, length, get_or, take, arith, subst}
use Rattle.std.specs.Prelude.{Option, None, Some}
use Rattle.std.specs.Option.{option_map}
use Rattle.std.specs.List.{list_any}
use Rattle.std.specs.Prelude.{nat_lt}
use Rattle.std.proofs.lemmas.Bool.{ltb-false, or_parts}
use Rattle.hold_base.specs.Limits.{bound_limit}
use Rattle.hold_vparse.specs.NameFaults.{has_large_bound, is_large_range}
use Rattle.std.proofs.lemmas.List.Sums.{sum_by-cons}
use Rattle.std.proofs.lemmas.Option.{slice_get_read}
use Rattle.std.proofs.lemmas.List.{length-map}
use Rattle.hold_vparse.proofs.LineLemmas.{reach-some}
use Rattle.hold_netlist.specs.Bits.{bits_of, width_of, width_of_range}
use Rattle.hold_netlist.specs.Names.{wire_names}
use Rattle.hold_netlist.specs.Numbering.{first_of}
use Rattle.hold_netlist.specs.inner.Numbering.{firsts_from}
use Rattle.hold_netlist.proofs.NumberingLemmas.{length-table, table-at}
use Rattle.hold_netlist.specs.WellFormed.{HasBoundsInLimit}
use Rattle.hold_netlist.specs.declared.wire.Wire.{Wire}
use Rattle.hold_vparse.specs.BitFaults.{reach}
use Rattle.hold_vparse.specs.Declares.{first_bit}
use Rattle.hold_vparse.specs.inner.Index.{place_of}

-- a net's first bit is that of its wire
first_bit-place : (name : List ℕ) (ws : List Wire) (p : ℕ) → place_of name (wire_names ws) ≡ Some p → first_bit ws name ≡ first_of width_of ws p
first_bit-place name [] p h = cc
first_bit-place name (w ∷ ws) p h = by (bytes_eq name w.name) (place_of name (wire_names ws)) p h (λ q e. first_bit-place name ws q e)
  where
    by : (b : Bool) (o : Option ℕ) (p : ℕ) → cond b (Some 0) (option_map suc o) ≡ Some p → ((q : ℕ) → o ≡ Some q → first_bit ws name ≡ first_of width_of ws q)
        → cond b 0 (width_of w + first_bit ws name) ≡ first_of width_of (w ∷ ws) p
    by true o zero h rest = omega arith
    by true o (suc p) h rest = cc
    by false None p h rest = cc
    by false (Some q) zero h rest = cc
    by false (Some q) (suc p) h rest =
        let same : q ≡ p = cc in
        omega (arith, rest p (ap Some same), sum_by-cons width_of w (take p ws))

-- a name that no wire has is numbered past all bits
pub first_bit-none : (name : List ℕ) (ws : List Wire) → place_of name (wire_names ws) ≡ None → first_bit ws name ≡ bits_of ws
first_bit-none name [] h = refl
first_bit-none name (w ∷ ws) h = by (bytes_eq name w.name) (place_of name (wire_names ws)) h (λ e. first_bit-none name ws e) ∙ sym (sum_by-cons width_of w ws)
  where
    by : (b : Bool) (o : Option ℕ) → cond b (Some 0) (option_map suc o) ≡ None → (o ≡ None → first_bit ws name ≡ bits_of ws)
        → cond b 0 (width_of w + first_bit ws name) ≡ width_of w + bits_of ws
    by true o h rest = cc
    by false None h rest = ap (λ (k : ℕ). width_of w + k) (rest refl)
    by false (Some q) h rest = cc

-- a net's bits are among all
pub first_bit-reach : (name : List ℕ) (ws : List Wire) (r : Option (ℕ × ℕ)) → reach ws name ≡ Some r → first_bit ws name + width_of_range r ≤ bits_of ws
first_bit-reach name [] r h = cc
first_bit-reach name (w ∷ ws) r h = by (bytes_eq name w.name) h (λ e. first_bit-reach name ws r e)
  where
    by : (b : Bool) → cond b (Some w.range) (reach ws name) ≡ Some r → (reach ws name ≡ Some r → first_bit ws name + width_of_range r ≤ bits_of ws)
        → cond b 0 (width_of w + first_bit ws name) + width_of_range r ≤ bits_of (w ∷ ws)
    by true h rest = let same : w.range ≡ r = cc in omega (arith, sum_by-cons width_of w ws, ap width_of_range same)
    by false h rest = omega (arith, sum_by-cons width_of w ws, rest h)

-- bounds that aren't large are in the limit
pub small_range : (r : Option (ℕ × ℕ)) → is_large_range r ≡ false → HasBoundsInLimit r
small_range None h = tt
small_range (Some r) h = let each = or_parts (nat_lt bound_limit r.0) (nat_lt bound_limit r.1) h in (ltb-false bound_limit r.0 each.0, ltb-false bound_limit r.1 each.1)

pub small_first : (w : Wire) (ws : List Wire) → list_any has_large_bound (w ∷ ws) ≡ false → HasBoundsInLimit w.range
small_first w ws h = small_range w.range (or_parts (has_large_bound w) (list_any has_large_bound ws) h).0

pub small_rest : (w : Wire) (ws : List Wire) → list_any has_large_bound (w ∷ ws) ≡ false → list_any has_large_bound ws ≡ false
small_rest w ws h = (or_parts (has_large_bound w) (list_any has_large_bound ws) h).1

-- a net's bounds are small where all are
pub small-reach : (name : List ℕ) (ws : List Wire) (r : Option (ℕ × ℕ)) → list_any has_large_bound ws ≡ false → reach ws name ≡ Some r → HasBoundsInLimit r
small-reach name [] r all h = cc
small-reach name (w ∷ ws) r all h = by (bytes_eq name w.name) h (λ e. small-reach name ws r (small_rest w ws all) e)
  where
    by : (b : Bool) → cond b (Some w.range) (reach ws name) ≡ Some r → (reach ws name ≡ Some r → HasBoundsInLimit r) → HasBoundsInLimit r
    by true h rest = let same : w.range ≡ r = cc in subst HasBoundsInLimit same (small_first w ws all)
    by false h rest = rest h

-- a first place is within the list
pub place_of-lt : (name : List ℕ) (names : List (List ℕ)) (p : ℕ) → place_of name names ≡ Some p → p < length names
place_of-lt name [] p h = cc
place_of-lt name (x ∷ xs) p h = by (bytes_eq name x) (place_of name xs) p h (λ q e. place_of-lt name xs q e)
  where
    by : (b : Bool) (o : Option ℕ) (p : ℕ) → cond b (Some 0) (option_map suc o) ≡ Some p → ((q : ℕ) → o ≡ Some q → q < length xs) → p < length (x ∷ xs)
    by true o zero h rest = omega arith
    by true o (suc p) h rest = cc
    by false None p h rest = cc
    by false (Some q) zero h rest = cc
    by false (Some q) (suc p) h rest = let same : q ≡ p = cc in omega (arith, rest q refl)

-- what the table says, over the wires
module _ (name : List ℕ) (ws : List Wire) (p : ℕ) (at : place_of name (wire_names ws) ≡ Some p) where
  pub wire-lt : p < length ws
  wire-lt = omega (arith, place_of-lt name (wire_names ws) p at, length-map ws (λ (w : Wire). w.name))

  pub first-lt : (firsts : List ℕ) → firsts ≡ firsts_from 0 width_of ws → p < length firsts
  first-lt firsts e = omega (arith, wire-lt, length-table width_of ws firsts e)

  pub first-at : (firsts : List ℕ) → firsts ≡ firsts_from 0 width_of ws → get_or firsts p 0 ≡ first_bit ws name
  first-at firsts e = table-at width_of ws firsts e p (omega (arith, wire-lt)) ∙ sym (first_bit-place name ws p at)

  pub range-at : (w : Wire) → w ≡ get_or ws p w → Some (get_or ws p w).range ≡ reach ws name
  range-at w is = ap (λ (v : Wire). Some v.range) (sym is) ∙ ap (option_map (λ (v : Wire). v.range)) (sym (slice_get_read ws (length ws) p w refl wire-lt is)) ∙ reach-some name ws p at

-- a net with its bits
module _ (name : List ℕ) (ws : List Wire) (bits first : ℕ) (r : Option (ℕ × ℕ)) (count : bits ≡ bits_of ws) (at : first ≡ first_bit ws name) (is : reach ws name ≡ Some r) where
  pub net-within : first + width_of_range r ≤ bits
  net-within = omega (arith, first_bit-reach name ws r is)
