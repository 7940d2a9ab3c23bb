-- The number of a net bit goes to a wire's name and an index, and these go back to the number.
--
-- name_at wires n: the name of the wire of net bit n.
-- index_at wires n: the bit's index, where its wire is a vector; None where it is a scalar.
use Rattle.std.proofs.Common.{◌≡◌, ℕ, ◌+◌, ◌-◌, ◌<◌, ◌≤◌, ◌⊎◌, inl, inr, min, max, List, [], ◌∷◌, true, false, refl, arith}
use Rattle.std.specs.Prelude.{Option, Some, None, nat_lt, if◌then◌else◌}
use Rattle.std.proofs.lemmas.Bool.{lt-ltb, le-ltb, le-leb, and_from, cases_lt}
use Rattle.std.proofs.lemmas.List.Sums.{sum_by-cons}
use Rattle.hold_base.proofs.Bytes.{bytes_eq-self}
use Rattle.hold_netlist.specs.Bits.{width_of_range, width_of, bits_of}
use Rattle.hold_netlist.specs.Names.{wire_names, is_among}
use Rattle.hold_netlist.specs.declared.wire.Wire.{Wire}
use Rattle.hold_vparse.specs.BitFaults.{Reach, reach, is_within}
use Rattle.hold_vparse.specs.Declares.{first_bit, place_in}
use Rattle.hold_vparse.proofs.NameLists.{Differ, among_apart}

abbrev pub index_in : Option (ℕ × ℕ) → ℕ → Option ℕ
index_in None n = None
index_in (Some r) n = Some (if nat_lt r.0 r.1 then r.0 + n else r.0 - n)

abbrev pub name_at : List Wire → ℕ → List ℕ
name_at [] n = []
name_at (w ∷ ws) n = if nat_lt n (width_of w) then w.name else name_at ws (n - width_of w)

abbrev pub index_at : List Wire → ℕ → Option ℕ
index_at [] n = None
index_at (w ∷ ws) n = if nat_lt n (width_of w) then index_in w.range n else index_at ws (n - width_of w)

-- where a net has this reach, and its first bit this number, the bit of this index is there and has number n
abbrev pub StandsAt : Reach → Option ℕ → ℕ → ℕ → Type 0
StandsAt (Some None) None first n = first ≡ n
StandsAt (Some (Some r)) (Some i) first n = (is_within r i ≡ true) × (first + place_in (Some (Some r)) i ≡ n)
StandsAt None index first n = ⊥
StandsAt (Some None) (Some i) first n = ⊥
StandsAt (Some (Some r)) None first n = ⊥

up : (r : ℕ × ℕ) (n i : ℕ) → n < width_of_range (Some r) → r.0 < r.1 → i ≡ r.0 + n → (is_within r i ≡ true) × (0 + place_in (Some (Some r)) i ≡ n)
up r n i h rises e = (and_from _ _ (le-leb (min r.0 r.1) i (omega arith)) (le-leb i (max r.0 r.1) (omega arith)), omega arith)

down : (r : ℕ × ℕ) (n i : ℕ) → n < width_of_range (Some r) → r.1 ≤ r.0 → i ≡ r.0 - n → (is_within r i ≡ true) × (0 + place_in (Some (Some r)) i ≡ n)
down r n i h falls e = (and_from _ _ (le-leb (min r.0 r.1) i (omega arith)) (le-leb i (max r.0 r.1) (omega arith)), omega arith)

either_way : (r : ℕ × ℕ) (n : ℕ) → n < width_of_range (Some r) → (r.0 < r.1) ⊎ (r.1 ≤ r.0) → StandsAt (Some (Some r)) (index_in (Some r) n) 0 n
either_way r n h (inl rises) = rw (lt-ltb r.0 r.1 rises) (up r n (r.0 + n) h rises refl)
either_way r n h (inr falls) = rw (le-ltb r.0 r.1 falls) (down r n (r.0 - n) h falls refl)

-- a bit of the first wire
stands_here : (range : Option (ℕ × ℕ)) (n : ℕ) → n < width_of_range range → StandsAt (Some range) (index_in range n) 0 n
stands_here None n h = omega arith
stands_here (Some r) n h = either_way r n h (cases_lt r.0 r.1)

-- behind a wire of that width
stands_behind : (found : Reach) (index : Option ℕ) (first n width all : ℕ) → StandsAt found index first n → width + n ≡ all → StandsAt found index (width + first) all
stands_behind None index first n width all h e = absurd h
stands_behind (Some None) None first n width all h e = omega arith
stands_behind (Some None) (Some i) first n width all h e = absurd h
stands_behind (Some (Some r)) None first n width all h e = absurd h
stands_behind (Some (Some r)) (Some i) first n width all h e = (h.0, omega arith)

pub record IsPlace (wires : List Wire) (name : List ℕ) (index : Option ℕ) (n : ℕ) : Type 0 where
  pub among : is_among name (wire_names wires) ≡ true
  pub stands : StandsAt (reach wires name) index (first_bit wires name) n

-- the first wire's name
place_here : (w : Wire) (ws : List Wire) (n : ℕ) → n < width_of w → IsPlace (w ∷ ws) w.name (index_in w.range n) n
place_here w ws n h = record {
  among = rw (bytes_eq-self w.name) refl;
  stands = rw (bytes_eq-self w.name) (stands_here w.range n h);
}

-- another wire's name
place_behind : (w : Wire) (ws : List Wire) (name : List ℕ) (index : Option ℕ) (n all : ℕ) → is_among w.name (wire_names ws) ≡ false → width_of w + n ≡ all
    → IsPlace ws name index n → IsPlace (w ∷ ws) name index all
place_behind w ws name index n all new e p =
    let other = among_apart name w.name (wire_names ws) p.among new in
    record {
      among = rw other p.among;
      stands = rw other (stands_behind (reach ws name) index (first_bit ws name) n (width_of w) all p.stands e);
    }

-- what holds of the bits of the other wires holds with one more before them
one_wire_more : (w : Wire) (ws : List Wire) (n : ℕ) → is_among w.name (wire_names ws) ≡ false → n < bits_of (w ∷ ws)
    → ((m : ℕ) → m < bits_of ws → IsPlace ws (name_at ws m) (index_at ws m) m) → (n < width_of w) ⊎ (width_of w ≤ n)
    → IsPlace (w ∷ ws) (name_at (w ∷ ws) n) (index_at (w ∷ ws) n) n
one_wire_more w ws n new h others (inl here) = rw (lt-ltb n (width_of w) here) (place_here w ws n here)
one_wire_more w ws n new h others (inr behind) =
    let within : n - width_of w < bits_of ws = omega (arith, sum_by-cons width_of w ws) in
    rw (le-ltb n (width_of w) behind) (place_behind w ws _ _ (n - width_of w) n new (omega arith) (others (n - width_of w) within))

-- each net bit has its name and its index
pub place_of_bit : (wires : List Wire) (n : ℕ) → Differ (wire_names wires) → n < bits_of wires → IsPlace wires (name_at wires n) (index_at wires n) n
place_of_bit [] n differ h = absurd (omega arith)
place_of_bit (w ∷ ws) n differ h = one_wire_more w ws n differ.0 h (λ m within. place_of_bit ws m differ.1 within) (cases_lt n (width_of w))
