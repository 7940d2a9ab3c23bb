-- The parts of a netlist into which buffers are being put.
--
-- insertion_of put, insertions_of puts: the insertions that these stand for.
-- grown_design d g: the netlist d with these wires, its connections tied to these sources, and these buffers behind its instances.
use Rattle.std.specs.Prelude.{List, ◌++◌, map}
use Rattle.hold_netlist.specs.Design.{Design, design}
use Rattle.hold_insert.specs.declared.grown.Grown.{Grown}
use Rattle.hold_insert.specs.declared.puts.Put.{Put}
use Rattle.hold_insert.specs.Chains.{Insertion}
use Rattle.hold_insert.specs.inner.Sources.{with_sources}

abbrev pub insertion_of : Put → Insertion
insertion_of put = record { pin = put.pin; kind = put.kind.now }

abbrev pub insertions_of : List Put → List Insertion
insertions_of puts = map insertion_of puts

abbrev pub grown_design : Design → Grown → Design
grown_design d g = design d.name d.ports g.wires.items (with_sources d.insts g.sources.items ++ g.buffers.items) d.assigns
