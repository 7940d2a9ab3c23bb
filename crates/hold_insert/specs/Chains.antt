-- The buffers that counts ask for, in the order in which they are put into a netlist.
--
-- Insertion: a buffer of that kind, to be put in front of that pin.
-- chain_from place kinds counts: the kinds of the buffers of one chain, of kinds of which the first has that place: each kind as often as it
--   is counted, and in the order of kinds from the source side on.
-- insertions kinds sites buffers: the buffers in front of these pins, pin by pin in their order, and the chain of each pin from the source
--   side on.
use Rattle.std.specs.Prelude.{ℕ, ◌+◌, List, [], ◌∷◌, ◌++◌, map, flat_map, replicate}
use Rattle.hold_base.specs.declared.number.PinNo.{PinNo}
use Rattle.hold_graph.specs.Sums.{Buffers}
use Rattle.hold_netlist.specs.declared.kind.Kind.{Kind}

pub record Insertion : Type 0 where
  pub pin : PinNo
  pub kind : Kind

abbrev pub chain_from : ℕ → List Kind → (ℕ → ℕ) → List Kind
chain_from place [] counts = []
chain_from place (kind ∷ kinds) counts = replicate (counts place) kind ++ chain_from (place + 1) kinds counts

abbrev pub in_front_of : PinNo → List Kind → List Insertion
in_front_of pin kinds = map (λ kind. record { pin = pin; kind = kind }) kinds

abbrev pub insertions : List Kind → List PinNo → Buffers → List Insertion
insertions kinds sites buffers = flat_map (λ site. in_front_of site (chain_from 0 kinds (buffers site))) sites
