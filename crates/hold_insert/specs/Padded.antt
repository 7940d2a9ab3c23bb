-- A netlist into which buffers are put, one after another, each in front of one pin.
--
-- source_in pins p, source_at insts p: what connection p is tied to, of these connections, or of these instances; Empty where there is none.
-- tied_pin pins p source, tied insts p source: the same connections or instances, with connection p tied to that source. Connections count
--   from 0, over all instances.
-- new_net d: the net bit that a wire put behind the others is.
-- buffer n i kind source net: the instance of buffer i, of that kind, that reads the source and drives the net bit.
-- with_buffer n i b d: the netlist with buffer i put in front of a pin: the buffer reads what the pin was tied to, and the pin is tied to
--   the buffer's new wire. No other pin of the net is moved. The wire and the instance stand last. So a second buffer at the same pin
--   reads the first one.
-- inserted n i bs d: the same for each of these buffers in turn, of which the first is buffer i.
-- IsPadding types graph kinds counts d w: w is the netlist d with a chain of buffers in front of each site of the graph, as these counts
--   of these kinds ask for. The new names have the least number that is free in d.
use Rattle.std.specs.Prelude.{◌≡◌, ℕ, zero, suc, ◌+◌, ◌-◌, List, [], ◌∷◌, ◌++◌, length, None, nat_lt, if◌then◌else◌}
use Rattle.hold_base.specs.declared.number.NetNo.{NetNo}
use Rattle.hold_base.specs.declared.number.PinNo.{PinNo}
use Rattle.hold_graph.specs.declared.graph.Parts.{Parts}
use Rattle.hold_graph.specs.Sites.{buffers_of}
use Rattle.hold_graph.specs.SitePins.{AreSites}
use Rattle.hold_netlist.specs.declared.inst.Source.{Source}
use Rattle.hold_netlist.specs.declared.inst.Source.TheVariants.{Net, Empty}
use Rattle.hold_netlist.specs.declared.inst.Pin.{Pin}
use Rattle.hold_netlist.specs.declared.inst.Inst.{Inst}
use Rattle.hold_netlist.specs.declared.kind.Kind.{Kind}
use Rattle.hold_netlist.specs.declared.wire.Wire.{Wire}
use Rattle.hold_netlist.specs.Bits.{bits_of}
use Rattle.hold_netlist.specs.Design.{Design, design}
use Rattle.hold_insert.specs.NewNames.{wire_name, inst_name, IsFresh}
use Rattle.hold_insert.specs.Chains.{Insertion, insertions}

abbrev pub source_in : List Pin → ℕ → Source
source_in [] p = Empty
source_in (pin ∷ pins) zero = pin.source
source_in (pin ∷ pins) (suc p) = source_in pins p

abbrev pub source_at : List Inst → ℕ → Source
source_at [] p = Empty
source_at (i ∷ is) p = if nat_lt p (length i.pins) then source_in i.pins p else source_at is (p - length i.pins)

abbrev pub tied_pin : List Pin → ℕ → Source → List Pin
tied_pin [] p source = []
tied_pin (pin ∷ pins) zero source = record { name = pin.name; source = source } ∷ pins
tied_pin (pin ∷ pins) (suc p) source = pin ∷ tied_pin pins p source

abbrev pub with_pins : Inst → List Pin → Inst
with_pins i pins = record { name = i.name; kind = i.kind; pins = pins }

abbrev pub tied : List Inst → ℕ → Source → List Inst
tied [] p source = []
tied (i ∷ is) p source = if nat_lt p (length i.pins) then with_pins i (tied_pin i.pins p source) ∷ is else i ∷ tied is (p - length i.pins) source

abbrev pub new_net : Design → NetNo
new_net d = record { 0 = bits_of d.wires }

abbrev pub new_wire : ℕ → ℕ → Wire
new_wire n i = record { name = wire_name n i; range = None }

abbrev pub buffer : ℕ → ℕ → Kind → Source → NetNo → Inst
buffer n i kind source net = record {
  name = inst_name n i;
  kind = kind.cell;
  pins = record { name = kind.input; source = source } ∷ record { name = kind.output; source = Net net } ∷ [];
}

abbrev pub with_buffer : ℕ → ℕ → Insertion → Design → Design
with_buffer n i b d = design d.name d.ports
    (d.wires ++ new_wire n i ∷ [])
    (tied d.insts b.pin.0 (Net (new_net d)) ++ buffer n i b.kind (source_at d.insts b.pin.0) (new_net d) ∷ [])
    d.assigns

abbrev pub inserted : ℕ → ℕ → List Insertion → Design → Design
inserted n i [] d = d
inserted n i (b ∷ bs) d = inserted n (i + 1) bs (with_buffer n i b d)

pub record IsPadding (graph : Parts) (kinds : List Kind) (counts : List ℕ) (d w : Design) : Type 0 where
  pub sites : List PinNo
  pub of_graph : AreSites graph sites
  pub number : ℕ
  pub fresh : IsFresh d number
  pub is : w ≡ inserted number 0 (insertions kinds sites (buffers_of (length kinds) sites counts)) d
