-- Where the text of a pin or of a net bit stands among all.
use Rattle.std.proofs.Common.{◌≡◌, ℕ, ◌-◌, ◌<◌, ◌≤◌, List, [], ◌++◌, take, drop, length, get_or, refl, ap, sym, ◌∙◌, arith}
use Rattle.std.specs.Prelude.{flat_map, slice_get, slice_index_or, Some}
use Rattle.std.proofs.lemmas.List.{length-map, get_or_past, get_or_append_left, get_or-append_right, take-append-drop}
use Rattle.std.proofs.lemmas.List.FromFn.{length-map-range_with_len, get_or-map-range_with_len}
use Rattle.std.proofs.lemmas.Grind.{flat_map-append}
use Rattle.std.proofs.lemmas.Option.{slice_get_within, slice_get_read, get_or_from_slice_get}
use Rattle.hold_netlist.specs.declared.inst.Inst.{Inst}
use Rattle.hold_netlist.specs.declared.wire.Wire.{Wire}
use Rattle.hold_netlist.specs.Bits.{width_of, bits_of, IsNetBit}
use Rattle.hold_netlist.specs.Design.{Design}
use Rattle.hold_netlist.specs.Pins.{pin_count, connection_count, IsConnection}
use Rattle.hold_netlist.specs.PinText.{connection_name, connection_names, wire_bit_name, wire_bit_names, bit_names, bit_name, pin_text}
use Rattle.hold_netlist.proofs.NumberingLemmas.{IsNumbered-below, length-flat_map, flat_map-at}

each_connection : (i : Inst) → length (connection_names i) ≡ pin_count i
each_connection i = length-map i.pins (connection_name i.name)

each_bit : (w : Wire) → length (wire_bit_names w) ≡ width_of w
each_bit w = length-map-range_with_len (wire_bit_name w) 0 (width_of w)

length-bit_names : (wires : List Wire) → length (bit_names wires) ≡ bits_of wires
length-bit_names wires = length-flat_map width_of wire_bit_names each_bit wires

length-connections : (insts : List Inst) → length (flat_map connection_names insts) ≡ connection_count insts
length-connections insts = length-flat_map pin_count connection_names each_connection insts

within_here : (wires : List Wire) (i k : ℕ) (w : Wire) → (x : Wire) × (slice_get wires i ≡ Some x) × (k < width_of x) → slice_get wires i ≡ Some w → k < width_of w
within_here wires i k w is at = let same : is.0 ≡ w = sym (get_or_from_slice_get wires i is.0 w is.1) ∙ get_or_from_slice_get wires i w w at in omega (arith, is.2, ap width_of same)

-- the name of a net bit
pub bit_name-here : (wires : List Wire) (n i k : ℕ) (w : Wire) → IsNetBit wires n i k → w ≡ get_or wires i w → bit_name wires n ≡ wire_bit_name w k
bit_name-here wires n i k w is here =
    let inside = slice_get_within wires i is.within.0 is.within.1 in
    let at : slice_get wires i ≡ Some w = slice_get_read wires (length wires) i w refl inside here in
    flat_map-at width_of wire_bit_names each_bit wires n i k w [] is at ∙ get_or-map-range_with_len (wire_bit_name w) 0 (width_of w) k k [] (within_here wires i k w is.within at) (omega arith)

-- past the last there is none
pub bit_name-past : (wires : List Wire) (n : ℕ) → bits_of wires ≤ n → bit_name wires n ≡ []
bit_name-past wires n past = get_or_past (bit_names wires) n [] (omega (arith, length-bit_names wires))

-- the first wires' bits are the first ones
pub bit_name-first : (wires : List Wire) (count n : ℕ) → n < bits_of (take count wires) → bit_name (take count wires) n ≡ bit_name wires n
bit_name-first wires count n h =
    let first = bit_names (take count wires) in
    let rest = bit_names (drop count wires) in
    let all : bit_names wires ≡ first ++ rest = ap bit_names (sym (take-append-drop count wires)) ∙ flat_map-append wire_bit_names (take count wires) (drop count wires) in
    sym (ap (λ (l : List (List ℕ)). get_or l n []) all ∙ get_or_append_left first rest [] n (omega (arith, length-bit_names (take count wires))))

-- the text of a connection
pub pin_text-connection : (d : Design) (p i j : ℕ) (inst : Inst) → IsConnection d.insts p i j → inst ≡ get_or d.insts i inst → pin_text d p ≡ slice_index_or (connection_names inst) j []
pin_text-connection d p i j inst is here =
    let inside = slice_get_within d.insts i is.within.0 is.within.1 in
    let at : slice_get d.insts i ≡ Some inst = slice_get_read d.insts (length d.insts) i inst refl inside here in
    let below : p < length (flat_map connection_names d.insts) = omega (arith, IsNumbered-below pin_count d.insts p i j is, length-connections d.insts) in
    get_or_append_left (flat_map connection_names d.insts) (bit_names (take (length d.ports) d.wires)) [] p below ∙ flat_map-at pin_count connection_names each_connection d.insts p i j inst [] is at

-- the text of a port bit
pub pin_text-port : (d : Design) (p connections : ℕ) → connections ≡ connection_count d.insts → connections ≤ p → pin_text d p ≡ bit_name (take (length d.ports) d.wires) (p - connections)
pin_text-port d p connections count past =
    get_or-append_right (flat_map connection_names d.insts) (bit_names (take (length d.ports) d.wires)) connections p [] (length-connections d.insts ∙ sym count) past
