-- What the connections of instances are tied to, in one list.
--
-- sources_of insts: the sources of all connections, in the order of their numbers.
-- with_pin_sources pins sources, with_sources insts sources: the same connections or instances, tied to these sources in turn. Sources past the
--   last connection aren't used.
use Rattle.std.specs.Prelude.{List, [], ◌∷◌, drop, length, map, flat_map}
use Rattle.hold_netlist.specs.declared.inst.Inst.{Inst}
use Rattle.hold_netlist.specs.declared.inst.Pin.{Pin}
use Rattle.hold_netlist.specs.declared.inst.Source.{Source}
use Rattle.hold_insert.specs.Padded.{with_pins}

abbrev pub pin_sources : List Pin → List Source
pin_sources pins = map (λ p. p.source) pins

abbrev pub sources_of : List Inst → List Source
sources_of insts = flat_map (λ i. pin_sources i.pins) insts

abbrev pub with_pin_sources : List Pin → List Source → List Pin
with_pin_sources [] sources = []
with_pin_sources (pin ∷ pins) [] = []
with_pin_sources (pin ∷ pins) (source ∷ sources) = record { name = pin.name; source = source } ∷ with_pin_sources pins sources

abbrev pub with_sources : List Inst → List Source → List Inst
with_sources [] sources = []
with_sources (i ∷ is) sources = with_pins i (with_pin_sources i.pins sources) ∷ with_sources is (drop (length i.pins) sources)
