-- A connection and an instance that are written as they are, are read as they are.
--
-- IsPlaced wires i y: the instance i is written as y: the name of its type, and itself.
use Rattle.std.proofs.Common.{◌≡◌, ℕ, ◌+◌, List, [], ◌∷◌, ◌++◌, map, false, not, refl, sym, ◌∙◌, ap}
use Rattle.std.specs.Prelude.{Some, None}
use Rattle.std.specs.List.{AllByRecursion}
use Rattle.hold_base.proofs.Bools.{cond-None}
use Rattle.hold_netlist.specs.Names.{pin_names, is_among}
use Rattle.hold_netlist.specs.Doubles.{first_repeat}
use Rattle.hold_netlist.specs.declared.wire.Wire.{Wire}
use Rattle.hold_netlist.specs.declared.inst.Source.{Source}
use Rattle.hold_netlist.specs.declared.inst.Source.TheVariants.{Net as NetBit, Zero, One, Empty}
use Rattle.hold_netlist.specs.declared.inst.Pin.{Pin}
use Rattle.hold_netlist.specs.declared.inst.Inst.{Inst}
use Rattle.hold_vsyntax.specs.declared.tree.Ident.{Ident}
use Rattle.hold_vsyntax.specs.declared.tree.Selected.TheVariants.{Whole, Bit}
use Rattle.hold_vsyntax.specs.declared.tree.Tied.{Tied}
use Rattle.hold_vsyntax.specs.declared.tree.Tied.TheVariants.{Open, Net, Bit as BitOf, Constant}
use Rattle.hold_vsyntax.specs.declared.tree.Connection.{Connection}
use Rattle.hold_vsyntax.specs.declared.tree.Instance.{Instance}
use Rattle.hold_vparse.specs.BitFaults.{Reach, reach, is_missing, width, differ, misfit_tied, misfit_named}
use Rattle.hold_vparse.specs.Declares.{first_bit, place_in, net_bit, source, pin, inst}
use Rattle.hold_vparse.specs.DoubleNames.{repeated_pins}
use Rattle.hold_vparse.specs.Nets.{used_in_tied, used_in_instance}
use Rattle.hold_vparse.proofs.DeclaredWires.{IsAmongWires}
use Rattle.hold_vround.proofs.BitPlaces.{StandsAt}
use Rattle.hold_vround.proofs.BitParts.{IsTiedTo, IsConnected}
use Rattle.hold_vround.proofs.Pairs.{Each, map-Each, none-Each, all-Each}

pub record IsPlaced (wires : List Wire) (i : Inst) (y : Ident × Instance) : Type 0 where
  pub kind_named : y.0.name ≡ i.kind
  pub named : y.1.name.name ≡ i.name
  pub each : Each (IsConnected wires) i.pins y.1.connections

-- a net or a bit of it, where it stands
whole_net : (found : Reach) (first n : ℕ) → StandsAt found None first n → (first ≡ n) × (differ (width found Whole) (Some 1) ≡ false)
whole_net None first n h = absurd h
whole_net (Some None) first n h = (h, refl)
whole_net (Some (Some r)) first n h = absurd h

bit_of_net : (found : Reach) (first n i : ℕ) → StandsAt found (Some i) first n → (first + place_in found i ≡ n) × (is_missing found (Bit i) ≡ false)
bit_of_net None first n i h = absurd h
bit_of_net (Some None) first n i h = absurd h
bit_of_net (Some (Some r)) first n i h = (h.1, ap not h.0)

record IsWellTied (wires : List Wire) (t : Tied) (s : Source) : Type 0 where
  is : source wires t ≡ s
  fits : misfit_tied wires t ≡ []
  among : AllByRecursion (IsAmongWires wires) (used_in_tied t)

well_tied : (wires : List Wire) (t : Tied) (s : Source) → IsTiedTo wires t s → IsWellTied wires t s
well_tied wires Open s h = record { is = sym h; fits = refl; among = tt }
well_tied wires (Constant value) s h = record { is = sym h; fits = refl; among = tt }
well_tied wires (Net name) (NetBit n) h =
    let net = whole_net (reach wires name.name) (first_bit wires name.name) n.0 h.stands in
    record { is = ap net_bit net.0; fits = rw net.1 refl; among = (h.among, tt) }
well_tied wires (Net name) Zero h = absurd h
well_tied wires (Net name) One h = absurd h
well_tied wires (Net name) Empty h = absurd h
well_tied wires (BitOf name i) (NetBit n) h =
    let bit = bit_of_net (reach wires name.name) (first_bit wires name.name) n.0 i h.stands in
    record { is = ap net_bit bit.0; fits = rw bit.1 refl; among = (h.among, tt) }
well_tied wires (BitOf name i) Zero h = absurd h
well_tied wires (BitOf name i) One h = absurd h
well_tied wires (BitOf name i) Empty h = absurd h

abbrev pin_of : List ℕ → Source → Pin
pin_of name tied = record { name = name; source = tied }

abbrev inst_of : List ℕ → List ℕ → List Pin → Inst
inst_of name kind pins = record { name = name; kind = kind; pins = pins }

same_pin : (wires : List Wire) (p : Pin) (c : Connection) → IsConnected wires p c → pin wires c ≡ p
same_pin wires p c h =
    ap (λ name. pin_of name (source wires c.tied)) h.named
    ∙ ap (λ tied. pin_of p.name tied) (well_tied wires c.tied p.source h.tied_to).is

pub same_inst : (wires : List Wire) (i : Inst) (y : Ident × Instance) → IsPlaced wires i y → inst wires y ≡ i
same_inst wires i y h =
    ap (λ name. inst_of name y.0.name (map (pin wires) y.1.connections)) h.named
    ∙ ap (λ kind. inst_of i.name kind (map (pin wires) y.1.connections)) h.kind_named
    ∙ ap (λ pins. inst_of i.name i.kind pins) (map-Each (IsConnected wires) (pin wires) (same_pin wires) i.pins y.1.connections h.each)

pub well_placed : (wires : List Wire) (i : Inst) (y : Ident × Instance) → IsPlaced wires i y → misfit_named wires y ≡ []
well_placed wires i y h = none-Each (IsConnected wires) (λ (c : Connection). misfit_tied wires c.tied) (λ p c tied. (well_tied wires c.tied p.source tied.tied_to).fits) i.pins y.1.connections h.each

pub placed_among : (wires : List Wire) (i : Inst) (y : Ident × Instance) → IsPlaced wires i y → AllByRecursion (IsAmongWires wires) (used_in_instance y.1)
placed_among wires i y h = all-Each (IsConnected wires) (IsAmongWires wires) (λ (c : Connection). used_in_tied c.tied) (λ p c tied. (well_tied wires c.tied p.source tied.tied_to).among) i.pins y.1.connections h.each

-- pins that differ are named once each
pub pins_once : (wires : List Wire) (seen : List (List ℕ)) (ps : List Pin) (cs : List Connection) → Each (IsConnected wires) ps cs → first_repeat seen (pin_names ps) ≡ None → repeated_pins seen cs ≡ []
pins_once wires seen [] [] h once = refl
pins_once wires seen [] (c ∷ cs) h once = absurd h
pins_once wires seen (p ∷ ps) [] h once = absurd h
pins_once wires seen (p ∷ ps) (c ∷ cs) h once =
    let new = cond-None (is_among p.name seen) p.name (first_repeat (seen ++ p.name ∷ []) (pin_names ps)) once in
    let named = h.0.named in
    rw (named, new.0) (pins_once wires (seen ++ p.name ∷ []) ps cs h.1 new.1)
