-- What padding hands on to the steps that it is made of.
use Rattle.std.proofs.Common.{◌≡◌, ℕ, ◌<◌, ◌≤◌, ◌^◌, List, [], ◌∷◌, ◌++◌, length, false, sym, ap, ◌∙◌, subst, arith, append-nil}
use Rattle.std.specs.Prelude.{All, IfOk, Result, Ok, Err, nat_lt}
use Rattle.std.specs.List.{AllByRecursion}
use Rattle.std.proofs.lemmas.Bool.Decides.{nat_tests}
use Rattle.std.proofs.lemmas.List.{length-map}
use Rattle.std.proofs.lemmas.List.Elements.{All-contains, All-from_recursion, recursion_from_All}
use Rattle.hold_base.proofs.Bools.{cond-None}
use Rattle.hold_base.proofs.Lists.{AllByRecursion-flat_map}
use Rattle.hold_base.specs.Limits.{bits_limit}
use Rattle.hold_base.specs.declared.number.PinNo.{PinNo}
use Rattle.hold_graph.specs.declared.graph.Arc.{Arc}
use Rattle.hold_graph.specs.Cycles.{IsTopological}
use Rattle.hold_graph.specs.Path.{HasArc}
use Rattle.hold_graph.specs.Sums.{Buffers}
use Rattle.hold_graph.proofs.Acyclic.{stands_before}
use Rattle.hold_graph.proofs.Ahead.{stands}
use Rattle.hold_netlist.specs.declared.kind.Kind.{Kind}
use Rattle.hold_netlist.specs.Bits.{bits_of}
use Rattle.hold_netlist.specs.Design.{Design, design}
use Rattle.hold_netlist.specs.Valid.{IsValid}
use Rattle.hold_insert.specs.declared.puts.Put.{Put}
use Rattle.hold_insert.specs.Chains.{Insertion, chain_from, in_front_of, insertions}
use Rattle.hold_insert.specs.inner.Grown.{insertion_of, insertions_of}
use Rattle.hold_insert.specs.inner.Sources.{sources_of, with_sources}
use Rattle.hold_graph.specs.declared.graph.Parts.{Parts}
use Rattle.hold_graph.specs.SitePins.{AreSites}
use Rattle.hold_graph.specs.Sites.{buffers_of}
use Rattle.hold_netlist.specs.declared.inst.Inst.{Inst}
use Rattle.hold_netlist.specs.declared.inst.Source.{Source}
use Rattle.hold_netlist.specs.declared.wire.Wire.{Wire}
use Rattle.hold_netlist.specs.Pins.{connection_count}
use Rattle.hold_roles.specs.Binding.{Binding}
use Rattle.hold_roles.specs.Faults.{IsSound}
use Rattle.hold_roles.specs.Meaning.{Same}
use Rattle.hold_insert.specs.NewNames.{IsFresh}
use Rattle.hold_insert.specs.Padded.{inserted, IsPadding}
use Rattle.hold_insert.specs.Premises.{AreChainCounts, IsBufferKind, IsTimingGraphOf}
use Rattle.hold_insert.proofs.InsertedLemmas.{inserted-Same, inserted-valid}
use Rattle.hold_insert.proofs.ReadyLemmas.{padding-ready, puts-few, sites-below}
use Rattle.hold_insert.proofs.SourceLemmas.{with-own}

-- in a topological order no arc leads from a pin to itself
pub no-loop : (pins : ℕ) (arcs : List Arc) (order : List PinNo) → IsTopological pins arcs order → All (λ arc. arc.to.0 < pins) arcs → (pin : PinNo) → HasArc arcs pin pin → ⊥
no-loop pins arcs order h ends pin has =
    let below : has.arc.to.0 < pins = All-contains (λ (arc : Arc). arc.to.0 < pins) arcs has.arc ends has.listed in
    let at = stands pins arcs order h pin (subst (λ (p : PinNo). p.0 < pins) has.to below) in
    let before = stands_before pins arcs order h pin pin at.0 has at.1 in
    let same : before.0 ≡ at.0 = h.different before.0 at.0 pin before.2 at.1 in
    omega (arith, before.1)

-- the buffers are in front of these pins
front-each : (n : ℕ) (site : PinNo) → site.0 < n → (kinds : List Kind) → AllByRecursion (λ (b : Insertion). b.pin.0 < n) (in_front_of site kinds)
front-each n site lt [] = tt
front-each n site lt (kind ∷ kinds) = (lt, front-each n site lt kinds)

puts-each : (n : ℕ) (puts : List Put) → AllByRecursion (λ (b : Insertion). b.pin.0 < n) (insertions_of puts) → AllByRecursion (λ (put : Put). put.pin.0 < n) puts
puts-each n [] h = tt
puts-each n (put ∷ puts) h = (h.0, puts-each n puts h.1)

pub puts-within : (n : ℕ) (sites : List PinNo) (kinds : List Kind) (buffers : Buffers) (puts : List Put) → All (λ (pin : PinNo). pin.0 < n) sites
    → insertions_of puts ≡ insertions kinds sites buffers → All (λ (put : Put). put.pin.0 < n) puts
puts-within n sites kinds buffers puts below is =
    All-from_recursion (λ (put : Put). put.pin.0 < n) puts (puts-each n puts (subst (AllByRecursion (λ (b : Insertion). b.pin.0 < n)) (sym is)
    (AllByRecursion-flat_map (λ (site : PinNo). site.0 < n) (λ (b : Insertion). b.pin.0 < n) (λ site. in_front_of site (chain_from 0 kinds (buffers site)))
    (λ site lt. front-each n site lt (chain_from 0 kinds (buffers site))) sites (recursion_from_All (λ (site : PinNo). site.0 < n) sites below))))

pub puts-long : (puts : List Put) (all : List Insertion) → insertions_of puts ≡ all → length puts ≡ length all
puts-long puts all is = sym (length-map puts insertion_of) ∙ ap (λ (l : List Insertion). length l) is

-- a netlist before any buffer is put in
pub own-design : (d : Design) → design d.name d.ports d.wires (with_sources d.insts (sources_of d.insts) ++ []) d.assigns ≡ d
own-design d = ap (λ l. design d.name d.ports d.wires l d.assigns) (append-nil (with_sources d.insts (sources_of d.insts)) ∙ with-own d.insts)

lt-false : (a b : ℕ) → nat_lt a b ≡ false → b ≤ a
lt-false a b h = grind (arith, nat_tests)

pub bits-few : (d : Design) → IsValid d → bits_of d.wires ≤ bits_limit
bits-few d valid = lt-false bits_limit (bits_of d.wires) (cond-None (nat_lt bits_limit (bits_of d.wires)) _ _ valid.counts).0

-- the parts before any buffer is put in are the netlist's
pub start-design : (n d : Design) (wires named : List Wire) (sources : List Source) (insts buffers : List Inst) → n ≡ d → wires ≡ named → named ≡ n.wires → sources ≡ sources_of insts → insts ≡ n.insts → buffers ≡ []
    → design n.name n.ports wires (with_sources n.insts sources ++ buffers) n.assigns ≡ d
start-design n d wires named sources insts buffers is e_wires e_named e_sources e_insts e_buffers =
    ap (λ l. design n.name n.ports l (with_sources n.insts sources ++ buffers) n.assigns) (e_wires ∙ e_named)
    ∙ ap (λ l. design n.name n.ports n.wires (with_sources n.insts l ++ buffers) n.assigns) (e_sources ∙ ap sources_of e_insts)
    ∙ ap (λ l. design n.name n.ports n.wires (with_sources n.insts (sources_of n.insts) ++ l) n.assigns) e_buffers
    ∙ own-design n ∙ is

pub made-design : (number : ℕ) (slice puts : List Put) (start d w : Design) → w ≡ inserted number 0 (insertions_of slice) start → slice ≡ puts → start ≡ d → w ≡ inserted number 0 (insertions_of puts) d
made-design number slice puts start d w made e_slice e_start = made ∙ ap (λ l. inserted number 0 (insertions_of l) start) e_slice ∙ ap (inserted number 0 (insertions_of puts)) e_start

pub ok-then : {X E : Type 0} (P Q : X → Type 0) → ((x : X) → P x → Q x) → (r : Result X E) → IfOk r P → IfOk r Q
ok-then P Q then (Ok x) h = then x h
ok-then P Q then (Err e) h = tt

-- ---- a padding

module _ (b : Binding) (graph : Parts) (of : IsTimingGraphOf b graph) (no_loop : (pin : PinNo) → HasArc graph.arcs pin pin → ⊥) (valid : IsValid b.netlist) (sound : IsSound b.types b.netlist)
    (kinds : List Kind) (known : All (IsBufferKind b.types) kinds) (counts : List ℕ) (counted : AreChainCounts graph (length kinds) counts) (sites : List PinNo) (are : AreSites graph sites)
    (puts : List Put) (is : insertions_of puts ≡ insertions kinds sites (buffers_of (length kinds) sites counts)) where
  pub all-within : All (λ (put : Put). put.pin.0 < connection_count b.netlist.insts) puts
  all-within =
      puts-within (connection_count b.netlist.insts) sites kinds (buffers_of (length kinds) sites counts) puts
      (sites-below b graph of no_loop valid sound kinds known counts counted sites are) is

  pub all-few : length puts ≤ 16777216
  all-few = omega (arith, puts-long puts _ is, puts-few b graph of no_loop valid sound kinds known counts counted sites are)

  module _ (number : ℕ) (small : number < 2 ^ 64) (fresh : IsFresh b.netlist number) (w : Design) (made : w ≡ inserted number 0 (insertions_of puts) b.netlist) where
    as-defined : w ≡ inserted number 0 (insertions kinds sites (buffers_of (length kinds) sites counts)) b.netlist
    as-defined = made ∙ ap (λ l. inserted number 0 l b.netlist) is

    pub all-valid : IsValid w
    all-valid = subst IsValid (sym as-defined) (inserted-valid b.types kinds number 0 (insertions kinds sites (buffers_of (length kinds) sites counts)) b.netlist
        (padding-ready b graph of no_loop valid sound kinds known counts counted sites are number small fresh.free))

    pub all-Same : Same b.types kinds b.netlist w
    all-Same = subst (Same b.types kinds b.netlist) (sym as-defined) (inserted-Same b.types kinds number 0 (insertions kinds sites (buffers_of (length kinds) sites counts)) b.netlist
        (padding-ready b graph of no_loop valid sound kinds known counts counted sites are number small fresh.free))

    pub all-padding : IsPadding graph kinds counts b.netlist w
    all-padding = record { sites = sites; of_graph = are; number = number; fresh = fresh; is = as-defined }
