-- The buffers that counts ask for can be put into a bound netlist: there is room, and each is of a kind that is known, in front of a pin that
-- is no output.
use Rattle.std.proofs.Common.{◌≡◌, ℕ, suc, ◌+◌, ◌<◌, ◌≤◌, ◌^◌, List, [], ◌∷◌, length, map, false, Some, refl, ap, ◌∙◌, arith}
use Rattle.std.specs.Prelude.{slice_get, Contains, All, nat_lt}
use Rattle.std.specs.List.{AllByRecursion}
use Rattle.std.proofs.lemmas.Bool.Decides.{nat_tests}
use Rattle.std.proofs.lemmas.List.Elements.{All-contains_itself, All-weaker, recursion_from_All}
use Rattle.std.proofs.lemmas.Option.{slice_get_within}
use Rattle.hold_base.proofs.Bools.{cond-None}
use Rattle.hold_base.proofs.Lists.{AllByRecursion-flat_map, AllByRecursion-map, AllByRecursion-weaken}
use Rattle.hold_base.proofs.Options.{option_map-None, option_or-None}
use Rattle.hold_base.specs.Limits.{assigns_limit, bits_limit, bound_bits_limit, bound_insts_limit, bound_pins_limit, chain_limit, insts_limit, pins_limit}
use Rattle.hold_base.specs.declared.number.PinNo.{PinNo}
use Rattle.hold_graph.specs.declared.graph.Parts.{Parts}
use Rattle.hold_graph.specs.Path.{HasArc}
use Rattle.hold_graph.specs.SitePins.{AreSites, IsSite}
use Rattle.hold_graph.specs.Sites.{buffers_of}
use Rattle.hold_graph.proofs.SiteLists.{rising-few}
use Rattle.hold_netlist.specs.declared.kind.Kind.{Kind}
use Rattle.hold_netlist.specs.Bits.{bits_of}
use Rattle.hold_netlist.specs.Design.{Design}
use Rattle.hold_netlist.specs.Pins.{connection_count, pins_of}
use Rattle.hold_netlist.specs.Valid.{IsValid}
use Rattle.hold_roles.specs.declared.role.CellType.{CellType}
use Rattle.hold_roles.specs.Binding.{Binding}
use Rattle.hold_roles.specs.Faults.{IsSound, passed_limit}
use Rattle.hold_insert.specs.Chains.{Insertion, chain_from, in_front_of, insertions}
use Rattle.hold_insert.specs.NewNames.{IsFree}
use Rattle.hold_insert.specs.Premises.{AreChainCounts, IsBufferKind, IsTimingGraphOf}
use Rattle.hold_insert.proofs.ChainLemmas.{chain-all, length-chain, length-insertions}
use Rattle.hold_insert.proofs.InsertedLemmas.{IsPut, IsReady}
use Rattle.hold_insert.proofs.NewNameLemmas.{free-apart}
use Rattle.hold_insert.proofs.SiteLemmas.{site-below, site-input}
use Rattle.hold_insert.proofs.TiedLemmas.{shape_of}
use Rattle.hold_insert.proofs.ValidLemmas.{HasRoom}

-- ---- room

lt-false : (a b : ℕ) → nat_lt a b ≡ false → b ≤ a
lt-false a b h = grind (arith, nat_tests)

-- a bound netlist is within its limits
pub record IsBoundSize (d : Design) : Type 0 where
  pub bits : bits_of d.wires ≤ bound_bits_limit
  pub insts : length d.insts ≤ bound_insts_limit
  pub pins : pins_of d ≤ bound_pins_limit
  pub assigns : length d.assigns ≤ assigns_limit

pub bound-size : (types : List CellType) (d : Design) → IsValid d → IsSound types d → IsBoundSize d
bound-size types d valid sound =
    let within = option_map-None _ (passed_limit d) (option_or-None _ _ sound.plain).0 in
    let bits = cond-None (nat_lt bound_bits_limit (bits_of d.wires)) _ _ within in
    let insts = cond-None (nat_lt bound_insts_limit (length d.insts)) _ _ bits.1 in
    let pins = cond-None (nat_lt bound_pins_limit (pins_of d)) _ _ insts.1 in
    let all_bits = cond-None (nat_lt bits_limit (bits_of d.wires)) _ _ valid.counts in
    let all_insts = cond-None (nat_lt insts_limit (length d.insts)) _ _ all_bits.1 in
    let all_pins = cond-None (nat_lt pins_limit (pins_of d)) _ _ all_insts.1 in
    let assigns = cond-None (nat_lt assigns_limit (length d.assigns)) _ _ all_pins.1 in
    record {
      bits = lt-false bound_bits_limit (bits_of d.wires) bits.0;
      insts = lt-false bound_insts_limit (length d.insts) insts.0;
      pins = lt-false bound_pins_limit (pins_of d) pins.0;
      assigns = lt-false assigns_limit (length d.assigns) assigns.0;
    }

room-for : (d : Design) (more : ℕ) → IsBoundSize d → more ≤ 16777216 → HasRoom d more
room-for d more size few = record {
  bits = omega (arith, size.bits);
  insts = omega (arith, size.insts);
  pins = omega (arith, size.pins);
  assigns = size.assigns;
}

-- ---- the buffers of a padding

module _ (b : Binding) (graph : Parts) (of : IsTimingGraphOf b graph) (no_loop : (pin : PinNo) → HasArc graph.arcs pin pin → ⊥) (valid : IsValid b.netlist) (sound : IsSound b.types b.netlist)
    (kinds : List Kind) (known : All (IsBufferKind b.types) kinds) (counts : List ℕ) (counted : AreChainCounts graph (length kinds) counts) (sites : List PinNo) (are : AreSites graph sites) where
  abbrev puts : List Insertion
  puts = insertions kinds sites (buffers_of (length kinds) sites counts)

  pub sites-below : All (λ (pin : PinNo). pin.0 < connection_count b.netlist.insts) sites
  sites-below = All-weaker (IsSite graph) (λ (pin : PinNo). pin.0 < connection_count b.netlist.insts) (site-below b graph of no_loop) sites are.sound

  pub sites-few : length sites ≤ bound_pins_limit
  sites-few =
      let size = bound-size b.types b.netlist valid sound in
      let pins = size.pins in
      let few = rising-few (connection_count b.netlist.insts) sites are.rising sites-below in
      omega arith

  -- each site's chain is within the limit
  chains-few : (rest : List PinNo) (j : ℕ) → ((k : ℕ) (pin : PinNo) → slice_get rest k ≡ Some pin → slice_get sites (j + k) ≡ Some pin)
      → AllByRecursion (λ site. length (chain_from 0 kinds (buffers_of (length kinds) sites counts site)) ≤ chain_limit) rest
  chains-few [] j at = tt
  chains-few (site ∷ rest) j at =
      let here : slice_get sites j ≡ Some site = ap (slice_get sites) (let e : j ≡ j + 0 = omega arith in e) ∙ at 0 site refl in
      let inside = slice_get_within sites j site here in
      let few = counted.chains sites are j inside in
      let long = length-chain kinds sites counts are.rising j site here in (
        omega arith,
        chains-few rest (j + 1) (λ k pin is. ap (slice_get sites) (let e : j + 1 + k ≡ j + suc k = omega arith in e) ∙ at (suc k) pin is),
      )

  pub puts-few : length puts ≤ 16777216
  puts-few =
      let few = sites-few in
      let long = length-insertions kinds (buffers_of (length kinds) sites counts) chain_limit sites
      (chains-few sites 0 (λ k pin is. ap (slice_get sites) (let e : 0 + k ≡ k = omega arith in e) ∙ is)) in
      omega arith

  -- a kind that is known and one of these
  record IsKnown (kind : Kind) : Type 0 where
    pub is : IsBufferKind b.types kind
    pub among : Contains kinds kind

  kinds-known : AllByRecursion IsKnown kinds
  kinds-known = recursion_from_All IsKnown kinds (λ k d lt. record { is = known k d lt; among = All-contains_itself kinds k d lt })

  put-known : (site : PinNo) → IsSite graph site → (kind : Kind) → IsKnown kind → IsPut b.types kinds (map shape_of b.netlist.insts) (record { pin = site; kind = kind })
  put-known site is kind h = record {
    input = site-input b graph of no_loop site is;
    copier = record { t = h.is.is_kind.cell; named = h.is.is_kind.named; comb = h.is.is_kind.role; inputs = h.is.is_kind.input; outputs = h.is.is_kind.output; differ = h.is.differ };
    named = record { cell = h.is.cell; input = h.is.input; output = h.is.output; differ = h.is.differ };
    among = h.among;
  }

  puts-each : AllByRecursion (IsPut b.types kinds (map shape_of b.netlist.insts)) puts
  puts-each =
      AllByRecursion-flat_map (IsSite graph) (IsPut b.types kinds (map shape_of b.netlist.insts)) (λ site. in_front_of site (chain_from 0 kinds (buffers_of (length kinds) sites counts site)))
      (λ site is. AllByRecursion-map (IsPut b.types kinds (map shape_of b.netlist.insts)) (λ kind. record { pin = site; kind = kind }) (chain_from 0 kinds (buffers_of (length kinds) sites counts site))
      (AllByRecursion-weaken IsKnown (λ kind. IsPut b.types kinds (map shape_of b.netlist.insts) (record { pin = site; kind = kind })) (put-known site is)
      (chain_from 0 kinds (buffers_of (length kinds) sites counts site)) (chain-all IsKnown 0 kinds (buffers_of (length kinds) sites counts site) kinds-known)))
      sites (recursion_from_All (IsSite graph) sites are.sound)

  pub padding-ready : (n : ℕ) → n < 2 ^ 64 → IsFree b.netlist n → IsReady b.types kinds n 0 puts b.netlist
  padding-ready n small free = record {
    valid = valid;
    room = room-for b.netlist (length puts) (bound-size b.types b.netlist valid sound) puts-few;
    number = small;
    few = omega (arith, puts-few);
    new = λ m from below. (free-apart b.netlist n _ free (_, refl), free-apart b.netlist n _ free (_, refl));
    each = puts-each;
  }
