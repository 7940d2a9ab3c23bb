-- Which bit of a port a text names: a port's name stands once among the wires, and a text is a name and an index in one way.
use Rattle.std.proofs.Common.{◌≡◌, ℕ, zero, suc, ◌+◌, ◌-◌, ◌<◌, ◌≤◌, List, [], ◌∷◌, ◌++◌, length, take, Bool, true, false, cond, refl, ap, sym, ◌∙◌, subst, inl, inr, arith, bytes_eq}
use Rattle.std.specs.Prelude.{◌^◌, Option, Some, None, ◌↔◌, slice_get, nat_lt}
use Rattle.std.specs.Option.{option_map}
use Rattle.std.proofs.lemmas.Bool.Decides.{nat_tests}
use Rattle.std.proofs.lemmas.List.{append-nil, length-map, length-take}
use Rattle.std.proofs.lemmas.List.Sums.{sum_by-cons}
use Rattle.std.proofs.lemmas.Option.{same_Some, slice_get-map, slice_get_within}
use Rattle.hold_base.proofs.Bytes.{bytes_eq-same, bytes_eq-self}
use Rattle.hold_base.proofs.Options.{option_map-Some, option_or-None}
use Rattle.hold_base.specs.Limits.{bits_limit, bound_limit, pins_limit}
use Rattle.hold_base.specs.declared.stop.What.TheVariants.{Bits}
use Rattle.hold_base.proofs.Bools.{cond-None}
use Rattle.hold_base.specs.declared.number.NetNo.{NetNo}
use Rattle.hold_base.specs.declared.number.PinNo.{PinNo}
use Rattle.hold_build.specs.Listing.{StandsOnce}
use Rattle.hold_build.proofs.NamedLemmas.{no_repeat-once}
use Rattle.hold_netlist.specs.declared.wire.Wire.{Wire}
use Rattle.hold_netlist.specs.declared.wire.Port.{Port}
use Rattle.hold_netlist.specs.Bits.{width_of, width_of_range, bits_of}
use Rattle.hold_netlist.specs.CanonicalText.{index_text}
use Rattle.hold_netlist.specs.Design.{Design}
use Rattle.hold_netlist.specs.Doubles.{first_double_in_insts, first_repeat}
use Rattle.hold_netlist.specs.Names.{port_names, wire_names}
use Rattle.hold_netlist.specs.Numbering.{first_of, IsNumbered}
use Rattle.hold_netlist.specs.Pins.{connection_count, pins_of}
use Rattle.hold_netlist.specs.Valid.{IsValid}
use Rattle.hold_netlist.specs.WellFormed.{HasBoundsInLimit, IsWrittenWire}
use Rattle.hold_netlist.proofs.NumberingLemmas.{first_of-le, IsNumbered-next}
use Rattle.hold_roles.specs.inner.NamePlaces.{first_at}
use Rattle.hold_told.specs.Places.{HasPortBit, IsBitOfPort, IsIndexedBit, IsPortPath, IsWholePort, NamesBit}
use Rattle.hold_told.specs.inner.Indexed.{index}
use Rattle.hold_told.specs.inner.Ports.{IsIndexOf, IsPortNamed, IsRangedBit}
use Rattle.hold_told.proofs.IndexLemmas.{index-one}
use Rattle.hold_told.proofs.ItemLemmas.{all-at, from-front, in-front}

-- ---- the first place of a name

pub first_at-some : (p : ℕ) (name : List ℕ) (names : List (List ℕ)) (k : ℕ) → first_at p name names ≡ Some k → (j : ℕ) × (k ≡ p + j) × (slice_get names j ≡ Some name)
first_at-some p name [] k h = cc
first_at-some p name (n ∷ names) k h = by (bytes_eq name n) refl h (first_at-some (p + 1) name names k)
  where
    by : (b : Bool) → bytes_eq name n ≡ b → cond b (Some p) (first_at (p + 1) name names) ≡ Some k
        → (first_at (p + 1) name names ≡ Some k → (j : ℕ) × (k ≡ p + 1 + j) × (slice_get names j ≡ Some name)) → (j : ℕ) × (k ≡ p + j) × (slice_get (n ∷ names) j ≡ Some name)
    by true is e more = let same : p ≡ k = same_Some p k e in (0, omega arith, ap Some (sym (bytes_eq-same name n is)))
    by false is e more = let rest = more e in (suc rest.0, omega (arith, rest.1), rest.2)

pub first_at-none : (p : ℕ) (name : List ℕ) (names : List (List ℕ)) (j : ℕ) → first_at p name names ≡ None → slice_get names j ≡ Some name → ⊥
first_at-none p name [] j h at = cc
first_at-none p name (n ∷ names) zero h at =
    let same : n ≡ name = same_Some n name at in
    let is : bytes_eq name n ≡ true = ap (bytes_eq name) same ∙ bytes_eq-self name in
    let found : Some p ≡ None = ap (λ b. cond b (Some p) (first_at (p + 1) name names)) (sym is) ∙ h in
    cc
first_at-none p name (n ∷ names) (suc j) h at = by (bytes_eq name n) h (λ e. first_at-none (p + 1) name names j e at)
  where
    by : (b : Bool) → cond b (Some p) (first_at (p + 1) name names) ≡ None → (first_at (p + 1) name names ≡ None → ⊥) → ⊥
    by true e more = cc
    by false e more = more e

-- ---- ports by their names

module _ (d : Design) (valid : IsValid d) where
  wires-once : StandsOnce (wire_names d.wires)
  wires-once = no_repeat-once [] (wire_names d.wires) (option_or-None (first_repeat [] (wire_names d.wires)) (first_double_in_insts (wire_names d.wires) d.insts) valid.names).0

  wire-name : (k : ℕ) (w : Wire) → slice_get d.wires k ≡ Some w → slice_get (wire_names d.wires) k ≡ Some w.name
  wire-name k w at = slice_get-map (λ (x : Wire). x.name) d.wires k ∙ ap (λ (o : Option Wire). option_map (λ (x : Wire). x.name) o) at

  pub port-within : (name : List ℕ) (k : ℕ) → IsPortNamed d name k → k < length d.wires
  port-within name k h = slice_get_within d.wires k h.wire h.at

  -- one port has a name at most
  pub one-port : (name : List ℕ) (j k : ℕ) → IsPortNamed d name j → IsPortNamed d name k → j ≡ k
  one-port name j k g h = wires-once j k name (wire-name j g.wire g.at ∙ ap (λ (n : List ℕ). Some n) g.named) (wire-name k h.wire h.at ∙ ap (λ (n : List ℕ). Some n) h.named)

  port-at : (name : List ℕ) (k : ℕ) → slice_get (port_names d.ports) k ≡ Some name → IsPortNamed d name k
  port-at name k at =
      let front = from-front (length d.ports) (wire_names d.wires) k name (ap (λ (l : List (List ℕ)). slice_get l k) (sym valid.well_formed.ports) ∙ at) in
      let found = option_map-Some (λ (x : Wire). x.name) (slice_get d.wires k) name (sym (slice_get-map (λ (x : Wire). x.name) d.wires k) ∙ front.1) in
      record { wire = found.0; of_port = front.0; at = found.1; named = found.2 }

  at-port : (name : List ℕ) (k : ℕ) → IsPortNamed d name k → slice_get (port_names d.ports) k ≡ Some name
  at-port name k h =
      ap (λ (l : List (List ℕ)). slice_get l k) valid.well_formed.ports
      ∙ in-front (length d.ports) (wire_names d.wires) k name h.of_port (wire-name k h.wire h.at ∙ ap (λ (n : List ℕ). Some n) h.named)

  pub port-named : (name : List ℕ) (o : Option ℕ) → o ≡ first_at 0 name (port_names d.ports) → (k : ℕ) → IsPortNamed d name k ↔ (o ≡ Some k)
  port-named name o is k = (λ h. there h, λ e. back (sym is ∙ e))
    where
      back : first_at 0 name (port_names d.ports) ≡ Some k → IsPortNamed d name k
      back e =
          let found = first_at-some 0 name (port_names d.ports) k e in
          let same : found.0 ≡ k = omega (arith, found.1) in
          subst (IsPortNamed d name) same (port-at name found.0 found.2)

      there : IsPortNamed d name k → o ≡ Some k
      there h = by (first_at 0 name (port_names d.ports)) refl
        where
          by : (f : Option ℕ) → first_at 0 name (port_names d.ports) ≡ f → o ≡ Some k
          by None e = absurd (first_at-none 0 name (port_names d.ports) k e (at-port name k h))
          by (Some j) e =
              let found = first_at-some 0 name (port_names d.ports) j e in
              let place : found.0 ≡ j = omega (arith, found.1) in
              let same = one-port name j k (subst (IsPortNamed d name) place (port-at name found.0 found.2)) h in
              is ∙ e ∙ ap (λ (n : ℕ). Some n) same

-- ---- whole ports

module _ (d : Design) (valid : IsValid d) (text : List ℕ) where
  whole-named : (net : NetNo) (h : IsWholePort d text net) → IsPortNamed d text h.of_port.place
  whole-named net h = record { wire = h.wire; of_port = h.of_port.of_port; at = h.of_port.is_wire; named = h.named }

  pub whole-none : ((k : ℕ) → IsPortNamed d text k → ⊥) → (net : NetNo) → IsWholePort d text net ↔ (None ≡ Some net)
  whole-none none net = (λ h. absurd (none h.of_port.place (whole-named net h)), λ e. absurd cc)

  module _ (k : ℕ) (port : IsPortNamed d text k) (wire : Wire) (at : slice_get d.wires k ≡ Some wire) where
    -- the port of a whole one is this one
    whole-here : (net : NetNo) (h : IsWholePort d text net) → (h.of_port.place ≡ k) × (h.wire ≡ wire)
    whole-here net h =
        let place = one-port d valid text h.of_port.place k (whole-named net h) port in
        (place, same_Some h.wire wire (sym h.of_port.is_wire ∙ ap (slice_get d.wires) place ∙ at))

    pub whole-wide : (width_of wire ≡ 1 → ⊥) → (net : NetNo) → IsWholePort d text net ↔ (None ≡ Some net)
    whole-wide wide net = (λ h. absurd (wide (ap width_of (sym (whole-here net h).1) ∙ h.only)), λ e. absurd cc)

    pub whole-found : width_of wire ≡ 1 → (first : ℕ) → first ≡ first_of width_of d.wires k → (net : NetNo) → IsWholePort d text net ↔ (Some (record { 0 = first }) ≡ Some net)
    whole-found one first is net = (
      λ h.
          let here = whole-here net h in
          let bit = h.of_port.is_bit in
          let there : slice_get d.wires k ≡ Some bit.within.0 = ap (slice_get d.wires) (sym here.0) ∙ bit.within.1 in
          let same : bit.within.0 ≡ wire = same_Some bit.within.0 wire (sym there ∙ at) in
          let few : h.bit < 1 = (let lt = bit.within.2 in omega (arith, lt, ap width_of same, one)) in
          let number : first ≡ net.0 = (let n = bit.number in omega (arith, n, few, is, ap (first_of width_of d.wires) here.0)) in
          ap (λ (n : ℕ). Some (record { 0 = n })) number,
      λ e.
          let same : record { 0 = first } ≡ net = same_Some (record { 0 = first }) net e in
          let number : first ≡ net.0 = ap (λ (n : NetNo). n.0) same in
          let named : wire.name ≡ text = ap (λ (w : Wire). w.name) (same_Some wire port.wire (sym at ∙ port.at)) ∙ port.named in
          record {
            wire = wire;
            bit = 0;
            of_port = record {
              place = k;
              of_port = port.of_port;
              is_wire = at;
              is_bit = record { number = omega (arith, number, is); within = (wire, at, omega (arith, one)) };
            };
            only = one;
            named = named;
          },
    )

-- ---- bits by their indices

module _ (left right number : ℕ) where
  -- an index lies between the bounds
  index-small : (bit : ℕ) → left ≤ bound_limit → right ≤ bound_limit → IsIndexOf left right bit number → number < 2 ^ 64
  index-small bit low high h = let is = h.is in let lt = h.within in by (nat_lt left right) refl is
    where
      by : (b : Bool) → nat_lt left right ≡ b → number ≡ cond b (left + bit) (left - bit) → number < 2 ^ 64
      by true e same = let lt = h.within in let rising : left < right = grind (arith, nat_tests) in omega arith
      by false e same = omega arith

-- ---- texts of bits

-- an index of a port's bit has few digits
ranged-small : (d : Design) → IsValid d → (text : List ℕ) (net : ℕ) (h : IsRangedBit d text net) → h.number < 2 ^ 64
ranged-small d valid text net h =
    let written : IsWrittenWire h.port.wire = all-at IsWrittenWire d.wires h.place h.port.wire valid.well_formed.wires h.port.at in
    let bounds = subst HasBoundsInLimit h.ranged written.bounds in
    index-small h.range.0 h.range.1 h.number h.bit bounds.0 bounds.1 h.is_index

texts : (wire name : List ℕ) (o : Option (ℕ × ℕ)) (r : ℕ × ℕ) (bit number : ℕ) → wire ≡ name → o ≡ Some r → IsIndexOf r.0 r.1 bit number → wire ++ index_text o bit ≡ name ++ index number
texts wire name o r bit number named ranged h =
    ap (λ (x : Option (ℕ × ℕ)). wire ++ index_text x bit) ranged
    ∙ ap (λ (w : List ℕ). w ++ index_text (Some r) bit) named
    ∙ ap (λ (n : ℕ). name ++ index n) (sym h.is)

plain : (name : List ℕ) (o : Option (ℕ × ℕ)) (bit : ℕ) → o ≡ None → name ≡ name ++ index_text o bit
plain name o bit is = sym (append-nil name) ∙ ap (λ (x : Option (ℕ × ℕ)). name ++ index_text x bit) (sym is)

module _ (d : Design) (valid : IsValid d) (text : List ℕ) where
  pub unindexed-none : ((name : List ℕ) (n : ℕ) → n < 2 ^ 64 → text ≡ name ++ index n → ⊥) → (net : NetNo) → IsRangedBit d text net.0 ↔ (None ≡ Some net)
  unindexed-none none net = (λ h. absurd (none h.name h.number (ranged-small d valid text net.0 h) h.said), λ e. absurd cc)

  module _ (name : List ℕ) (number : ℕ) (small : number < 2 ^ 64) (said : text ≡ name ++ index number) where
    -- a text is a name and an index in one way
    ranged-one : (net : ℕ) (h : IsRangedBit d text net) → (h.name ≡ name) × (h.number ≡ number)
    ranged-one net h = index-one h.name name h.number number (ranged-small d valid text net h) small (sym h.said ∙ said)

    pub unported-none : ((k : ℕ) → IsPortNamed d name k → ⊥) → (net : NetNo) → IsRangedBit d text net.0 ↔ (None ≡ Some net)
    unported-none none net = (λ h. absurd (none h.place (subst (λ (n : List ℕ). IsPortNamed d n h.place) (ranged-one net.0 h).0 h.port)), λ e. absurd cc)

    module _ (k : ℕ) (port : IsPortNamed d name k) (wire : Wire) (at : slice_get d.wires k ≡ Some wire) where
      -- the port of a bit that is said by its index is this one
      ranged-here : (net : ℕ) (h : IsRangedBit d text net) → (h.place ≡ k) × (wire.range ≡ Some h.range)
      ranged-here net h =
          let place = one-port d valid name h.place k (subst (λ (n : List ℕ). IsPortNamed d n h.place) (ranged-one net h).0 h.port) port in
          let same : h.port.wire ≡ wire = same_Some h.port.wire wire (sym h.port.at ∙ ap (slice_get d.wires) place ∙ at) in
          (place, ap (λ (w : Wire). w.range) (sym same) ∙ h.ranged)

      pub scalar-none : wire.range ≡ None → (net : NetNo) → IsRangedBit d text net.0 ↔ (None ≡ Some net)
      scalar-none scalar net = (λ h. let e : None ≡ Some h.range = sym scalar ∙ (ranged-here net.0 h).1 in absurd cc, λ e. absurd cc)

      module _ (range : ℕ × ℕ) (ranged : wire.range ≡ Some range) where
        -- and it has this range
        index-here : (net : ℕ) (h : IsRangedBit d text net) → IsIndexOf range.0 range.1 h.bit number
        index-here net h =
            let same : h.range ≡ range = same_Some h.range range (sym (ranged-here net h).1 ∙ ranged) in
            subst (λ (n : ℕ). IsIndexOf range.0 range.1 h.bit n) (ranged-one net h).1 (subst (λ (r : ℕ × ℕ). IsIndexOf r.0 r.1 h.bit h.number) same h.is_index)

        pub outside-none : ((bit : ℕ) → IsIndexOf range.0 range.1 bit number → ⊥) → (net : NetNo) → IsRangedBit d text net.0 ↔ (None ≡ Some net)
        outside-none none net = (λ h. absurd (none h.bit (index-here net.0 h)), λ e. absurd cc)

        -- the wire has so many bits
        width-is : width_of wire ≡ width_of_range (Some range)
        width-is = ap width_of_range ranged

        pub bit-numbered : (bit first : ℕ) → first ≡ first_of width_of d.wires k → IsIndexOf range.0 range.1 bit number → IsNumbered width_of d.wires (first + bit) k bit
        bit-numbered bit first is h = record { number = ap (λ (n : ℕ). n + bit) is; within = (wire, at, (let lt = h.within in omega (arith, lt, width-is))) }

        pub ranged-found : (bit first : ℕ) → first ≡ first_of width_of d.wires k → ((b : ℕ) → IsIndexOf range.0 range.1 b number ↔ (Some bit ≡ Some b)) → (net : NetNo) → IsRangedBit d text net.0 ↔ (Some (record { 0 = first + bit }) ≡ Some net)
        ranged-found bit first is each net = (
          λ h.
              let same : bit ≡ h.bit = same_Some bit h.bit ((each h.bit).0 (index-here net.0 h)) in
              let number : first + bit ≡ net.0 = omega (arith, same, is, h.is_bit, ap (first_of width_of d.wires) (ranged-here net.0 h).0) in
              ap (λ (n : ℕ). Some (record { 0 = n })) number,
          λ e.
              let same : record { 0 = first + bit } ≡ net = same_Some (record { 0 = first + bit }) net e in
              let is_net : first + bit ≡ net.0 = ap (λ (n : NetNo). n.0) same in
              record {
                name = name;
                place = k;
                port = record { wire = wire; of_port = port.of_port; at = at; named = ap (λ (w : Wire). w.name) (same_Some wire port.wire (sym at ∙ port.at)) ∙ port.named };
                range = range;
                ranged = ranged;
                bit = bit;
                number = number;
                is_index = (each bit).1 refl;
                said = said;
                is_bit = omega (arith, is_net, is);
              },
        )

-- ---- either way

module _ (d : Design) (text : List ℕ) where
  from-ranged : (net : NetNo) → IsRangedBit d text net.0 → IsIndexedBit d text net
  from-ranged net h =
      let wide : width_of h.port.wire ≡ width_of_range (Some h.range) = ap width_of_range h.ranged in
      record {
        wire = h.port.wire;
        bit = h.bit;
        of_port = record {
          place = h.place;
          of_port = h.port.of_port;
          is_wire = h.port.at;
          is_bit = record { number = h.is_bit; within = (h.port.wire, h.port.at, (let lt = h.is_index.within in omega (arith, lt, wide))) };
        };
        said = texts h.port.wire.name h.name h.port.wire.range h.range h.bit h.number h.port.named h.ranged h.is_index ∙ sym h.said;
      }

  to-ranged : (net : NetNo) → (IsWholePort d text net → ⊥) → IsIndexedBit d text net → IsRangedBit d text net.0
  to-ranged net none h = by h.wire.range refl
    where
      place : ℕ
      place = h.of_port.place

      by : (r : Option (ℕ × ℕ)) → h.wire.range ≡ r → IsRangedBit d text net.0
      by None is =
          absurd (none (record {
            wire = h.wire;
            bit = h.bit;
            of_port = h.of_port;
            only = ap width_of_range is;
            named = plain h.wire.name h.wire.range h.bit is ∙ h.said;
          }))
      by (Some r) is =
          let bit = h.of_port.is_bit in
          let same : bit.within.0 ≡ h.wire = same_Some bit.within.0 h.wire (sym bit.within.1 ∙ h.of_port.is_wire) in
          let few : h.bit < width_of_range (Some r) = (let lt = bit.within.2 in omega (arith, lt, ap width_of same, ap width_of_range is)) in
          record {
            name = h.wire.name;
            place = h.of_port.place;
            port = record { wire = h.wire; of_port = h.of_port.of_port; at = h.of_port.is_wire; named = refl };
            range = r;
            ranged = is;
            bit = h.bit;
            number = cond (nat_lt r.0 r.1) (r.0 + h.bit) (r.0 - h.bit);
            is_index = record { within = few; is = refl };
            said = sym h.said ∙ ap (λ (o : Option (ℕ × ℕ)). h.wire.name ++ index_text o h.bit) is;
            is_bit = bit.number;
          }

  pub whole-names : (found : NetNo) → ((net : NetNo) → IsWholePort d text net ↔ (Some found ≡ Some net)) → (net : NetNo) → NamesBit d text net ↔ (Some found ≡ Some net)
  whole-names found each net = (
    λ named. elim named [
      | inl whole ↦ (each net).0 whole
      | inr other ↦ absurd (other.0 found ((each found).1 refl))
    ],
    λ e. inl ((each net).1 e),
  )

  pub ranged-names : (found : Option NetNo) → ((net : NetNo) → IsWholePort d text net ↔ (None ≡ Some net)) → ((net : NetNo) → IsRangedBit d text net.0 ↔ (found ≡ Some net)) → (net : NetNo) → NamesBit d text net ↔ (found ≡ Some net)
  ranged-names found none each net = (
    λ named. elim named [
      | inl whole ↦ absurd (no_whole net whole)
      | inr other ↦ (each net).0 (to-ranged net (other.0 net) other.1)
    ],
    λ e. inr (no_whole, from-ranged net ((each net).1 e)),
  )
    where
      no_whole : (net : NetNo) → IsWholePort d text net → ⊥
      no_whole net whole = let e : None ≡ Some net = (none net).0 whole in cc

-- ---- how many ports there are

wide : (range : Option (ℕ × ℕ)) → 1 ≤ width_of_range range
wide None = omega arith
wide (Some r) = omega arith

wires_within : (wires : List Wire) → length wires ≤ bits_of wires
wires_within [] = omega arith
wires_within (w ∷ ws) = omega (arith, sum_by-cons width_of w ws, wide w.range, wires_within ws)

pub ports-few : (d : Design) → IsValid d → length d.ports ≤ pins_limit
ports-few d valid =
    let names : length (port_names d.ports) ≡ length (take (length d.ports) (wire_names d.wires)) = ap (λ (l : List (List ℕ)). length l) valid.well_formed.ports in
    let few : nat_lt bits_limit (bits_of d.wires) ≡ false = (cond-None (nat_lt bits_limit (bits_of d.wires)) Bits _ valid.counts).0 in
    let bits : bits_of d.wires ≤ bits_limit = grind (arith, nat_tests) in
    omega (arith, names, length-map d.ports (λ (p : Port). p.name), length-map d.wires (λ (w : Wire). w.name), length-take (length d.ports) (wire_names d.wires), wires_within d.wires, bits)

pub bits-few : (d : Design) → IsValid d → bits_of d.wires ≤ bits_limit
bits-few d valid =
    let few : nat_lt bits_limit (bits_of d.wires) ≡ false = (cond-None (nat_lt bits_limit (bits_of d.wires)) Bits _ valid.counts).0 in
    grind (arith, nat_tests)

-- ---- bits of ports as pins

-- a net bit of a port
record IsBit (d : Design) (net : NetNo) : Type 0 where
  pub wire : Wire
  pub bit : ℕ
  pub of_port : IsBitOfPort d wire bit net

module _ (d : Design) (text : List ℕ) (net : NetNo) (each : (n : NetNo) → NamesBit d text n ↔ (Some net ≡ Some n)) where
  named-bit : NamesBit d text net
  named-bit = (each net).1 refl

  place-of-bit : IsBit d net
  place-of-bit = elim named-bit [
    | inl whole ↦ record { wire = whole.wire; bit = whole.bit; of_port = whole.of_port }
    | inr other ↦ (let i = other.1 in record { wire = i.wire; bit = i.bit; of_port = i.of_port })
  ]

  -- the net bit is one of the ports'
  pub bit-below : connection_count d.insts + net.0 < pins_of d
  bit-below =
      let at = place-of-bit.of_port in
      let next = IsNumbered-next width_of d.wires net.0 at.place place-of-bit.bit at.is_bit in
      let of = at.of_port in
      omega (arith, next, first_of-le width_of d.wires (at.place + 1) (length d.ports) (omega arith))

  pub port-found : (first : ℕ) → first ≡ connection_count d.insts → HasPortBit d text × ((q : PinNo) → IsPortPath d text q ↔ (record { 0 = first + net.0 } ≡ q))
  port-found first is = (
    record { net = net; names = named-bit },
    λ q. (
      λ h. let same : net ≡ h.net = same_Some net h.net ((each h.net).0 h.names) in
          let number : first + net.0 ≡ q.0 = omega (arith, h.number, is, ap (λ (n : NetNo). n.0) same) in
          ap (λ (n : ℕ). record { 0 = n }) number,
      λ e. record { net = net; names = named-bit; number = omega (arith, sym (ap (λ (p : PinNo). p.0) e), is) },
    ),
  )

pub no_port : (d : Design) (text : List ℕ) → ((n : NetNo) → NamesBit d text n ↔ (None ≡ Some n)) → HasPortBit d text → ⊥
no_port d text none h = let e : None ≡ Some h.net = (none h.net).0 h.names in cc
