-- One buffer more, in the lists of what a netlist grows by; and one chain more, in the list of buffers.
use Rattle.std.proofs.Common.{◌≡◌, ℕ, ◌+◌, ◌*◌, ◌<◌, List, [], ◌∷◌, ◌++◌, length, get_or, set, drop, refl, sym, ap, ◌∙◌, arith, append_assoc}
use Rattle.std.specs.Prelude.{replicate}
use Rattle.std.proofs.lemmas.List.{drop_more}
use Rattle.std.proofs.lemmas.Option.{slice_get-get_or}
use Rattle.hold_base.specs.declared.number.NetNo.{NetNo}
use Rattle.hold_base.specs.declared.number.PinNo.{PinNo}
use Rattle.hold_graph.specs.Sites.{buffers_of}
use Rattle.hold_graph.proofs.SiteLists.{AreRising}
use Rattle.hold_netlist.specs.declared.inst.Inst.{Inst}
use Rattle.hold_netlist.specs.declared.inst.Source.{Source}
use Rattle.hold_netlist.specs.declared.inst.Source.TheVariants.{Net, Empty}
use Rattle.hold_netlist.specs.declared.kind.Kind.{Kind}
use Rattle.hold_netlist.specs.declared.wire.Wire.{Wire}
use Rattle.hold_netlist.specs.Bits.{bits_of}
use Rattle.hold_netlist.specs.Design.{Design, design}
use Rattle.hold_netlist.specs.Pins.{connection_count}
use Rattle.hold_insert.specs.declared.puts.Put.{Put}
use Rattle.hold_insert.specs.Chains.{Insertion, chain_from, in_front_of, insertions}
use Rattle.hold_insert.specs.Padded.{buffer, inserted, new_net, new_wire, source_at, tied, with_buffer}
use Rattle.hold_insert.specs.inner.Grown.{insertion_of, insertions_of}
use Rattle.hold_insert.specs.inner.Sources.{with_sources}
use Rattle.hold_insert.proofs.ChainLemmas.{buffers_of-at}
use Rattle.hold_insert.proofs.SourceLemmas.{count-with, read-source, source_at-append, tied-append, tied-set}

-- ---- one buffer more

abbrev made : Design → List Wire → List Source → List Inst → Design
made d wires sources buffers = design d.name d.ports wires (with_sources d.insts sources ++ buffers) d.assigns

step-made : (d : Design) (wires : List Wire) (sources : List Source) (buffers : List Inst) (n i : ℕ) (b : Insertion) (net : NetNo)
    → connection_count d.insts ≡ length sources → b.pin.0 < length sources → net.0 ≡ bits_of wires
    → made d (wires ++ new_wire n i ∷ []) (set sources b.pin.0 (Net net)) (buffers ++ buffer n i b.kind (get_or sources b.pin.0 Empty) net ∷ []) ≡ with_buffer n i b (made d wires sources buffers)
step-made d wires sources buffers n i b net many lt number =
    ap (λ l. design d.name d.ports (wires ++ new_wire n i ∷ []) l d.assigns)
    (sym (append_assoc (with_sources d.insts (set sources b.pin.0 (Net net))) buffers (buffer n i b.kind (get_or sources b.pin.0 Empty) net ∷ []))
    ∙ ap (λ l. l ++ buffer n i b.kind (get_or sources b.pin.0 Empty) net ∷ []) (sym tied-there)
    ∙ ap (λ s. tied whole b.pin.0 (Net net) ++ buffer n i b.kind s net ∷ []) (sym read-there)
    ∙ ap (λ (m : NetNo). tied whole b.pin.0 (Net m) ++ buffer n i b.kind (source_at whole b.pin.0) m ∷ []) same-net)
  where
    whole : List Inst
    whole = with_sources d.insts sources ++ buffers

    within : b.pin.0 < connection_count (with_sources d.insts sources)
    within = omega (arith, count-with d.insts sources (omega (arith, many)), many, lt)

    tied-there : tied whole b.pin.0 (Net net) ≡ with_sources d.insts (set sources b.pin.0 (Net net)) ++ buffers
    tied-there = tied-append (with_sources d.insts sources) buffers b.pin.0 (Net net) within
        ∙ ap (λ l. l ++ buffers) (tied-set d.insts sources b.pin.0 (Net net) (omega (arith, many)) (omega (arith, many, lt)))

    read-there : source_at whole b.pin.0 ≡ get_or sources b.pin.0 Empty
    read-there = source_at-append (with_sources d.insts sources) buffers b.pin.0 within ∙ read-source d.insts sources b.pin.0 (omega (arith, many)) (omega (arith, many, lt))

    same-net : net ≡ new_net (made d wires sources buffers)
    same-net = ap (λ k. let m : NetNo = record { 0 = k } in m) number

-- the buffers that are left, after one
pub next-made : (d : Design) (wires wires_after : List Wire) (sources sources_after : List Source) (buffers buffers_after : List Inst) (n i : ℕ) (puts : List Put) (put : Put) (net : NetNo)
    → connection_count d.insts ≡ length sources → i < length puts → get_or puts i put ≡ put → put.pin.0 < length sources → net.0 ≡ bits_of wires
    → wires_after ≡ wires ++ new_wire n i ∷ [] → sources_after ≡ set sources put.pin.0 (Net net)
    → buffers_after ≡ buffers ++ buffer n i put.kind.now (get_or sources put.pin.0 Empty) net ∷ []
    → inserted n (i + 1) (insertions_of (drop (i + 1) puts)) (made d wires_after sources_after buffers_after) ≡ inserted n i (insertions_of (drop i puts)) (made d wires sources buffers)
next-made d wires wires_after sources sources_after buffers buffers_after n i puts put net many inside here lt number e_wires e_sources e_buffers =
    ap (λ l. inserted n (i + 1) (insertions_of (drop (i + 1) puts)) (made d l sources_after buffers_after)) e_wires
    ∙ ap (λ l. inserted n (i + 1) (insertions_of (drop (i + 1) puts)) (made d (wires ++ new_wire n i ∷ []) l buffers_after)) e_sources
    ∙ ap (λ l. inserted n (i + 1) (insertions_of (drop (i + 1) puts)) (made d (wires ++ new_wire n i ∷ []) (set sources put.pin.0 (Net net)) l)) e_buffers
    ∙ ap (inserted n (i + 1) (insertions_of (drop (i + 1) puts))) (step-made d wires sources buffers n i (insertion_of put) net many lt number)
    ∙ ap (λ l. inserted n i (insertions_of l) (made d wires sources buffers)) (sym (drop_more puts i put inside ∙ ap (λ x. x ∷ drop (i + 1) puts) here))

-- ---- one chain more

chain-same : (place : ℕ) (kinds : List Kind) (f g : ℕ → ℕ) → ((k : ℕ) → f k ≡ g k) → chain_from place kinds f ≡ chain_from place kinds g
chain-same place [] f g same = refl
chain-same place (kind ∷ kinds) f g same =
    ap (λ n. replicate n kind ++ chain_from (place + 1) kinds f) (same place) ∙ ap (λ l. replicate (g place) kind ++ l) (chain-same (place + 1) kinds f g same)

pub next-chain : (kinds : List Kind) (sites : List PinNo) (counts : List ℕ) (before after : List Insertion) (j first : ℕ) (d : PinNo) → AreRising sites → j < length sites → first ≡ j * length kinds
    → after ≡ before ++ in_front_of (get_or sites j d) (chain_from 0 kinds (λ kind. get_or counts (first + kind) 0))
    → after ++ insertions kinds (drop (j + 1) sites) (buffers_of (length kinds) sites counts) ≡ before ++ insertions kinds (drop j sites) (buffers_of (length kinds) sites counts)
next-chain kinds sites counts before after j first d rising lt e_first e_after =
    ap (λ l. l ++ insertions kinds (drop (j + 1) sites) (buffers_of (length kinds) sites counts)) e_after
    ∙ append_assoc before (in_front_of (get_or sites j d) (chain_from 0 kinds (λ kind. get_or counts (first + kind) 0))) (insertions kinds (drop (j + 1) sites) (buffers_of (length kinds) sites counts))
    ∙ ap (λ l. before ++ (in_front_of (get_or sites j d) l ++ insertions kinds (drop (j + 1) sites) (buffers_of (length kinds) sites counts)))
    (chain-same 0 kinds (λ kind. get_or counts (first + kind) 0) (buffers_of (length kinds) sites counts (get_or sites j d))
    (λ k. ap (λ n. get_or counts (n + k) 0) e_first ∙ sym (buffers_of-at (length kinds) sites counts rising j (get_or sites j d) (slice_get-get_or sites j d lt) k)))
    ∙ ap (λ l. before ++ insertions kinds l (buffers_of (length kinds) sites counts)) (sym (drop_more sites j d lt))

pub drop-one : (sites : List PinNo) (j : ℕ) (d : PinNo) → j < length sites → length (drop j sites) ≡ length (drop (j + 1) sites) + 1
drop-one sites j d lt = ap (λ (l : List PinNo). length l) (drop_more sites j d lt) ∙ omega arith
