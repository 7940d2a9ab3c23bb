-- What finds pins by their names.
--
-- is_pin t name: whether the type has a pin of that name.
-- inst_names insts: the names of instances, in order.
-- AreNames d names: the tables tell the places of the instances' and of the ports' names, and the numbers are those of the first
--   connections and of the first net bits of the wires.
-- IsNumberOf insts inst name: that instance has the name.
use Rattle.std.specs.Prelude.{◌≡◌, ℕ, List, map, Bool, ◌||◌}
use Rattle.hold_netlist.specs.declared.inst.Inst.{Inst}
use Rattle.hold_netlist.specs.Bits.{width_of}
use Rattle.hold_netlist.specs.Design.{Design}
use Rattle.hold_netlist.specs.Names.{is_among, port_names}
use Rattle.hold_netlist.specs.Pins.{pin_count}
use Rattle.hold_netlist.specs.inner.Numbering.{firsts_from}
use Rattle.hold_roles.specs.declared.role.CellType.{CellType}
use Rattle.hold_roles.specs.TypePins.{is_clock}
use Rattle.hold_roles.specs.inner.NamePlaces.{TellsPlaces}
use Rattle.hold_told.specs.declared.names.Names.{Names}

abbrev pub is_pin : CellType → List ℕ → Bool
is_pin t name = is_clock t.clock name || (is_among name t.inputs || (is_among name t.quiet || is_among name t.outputs))

abbrev pub inst_names : List Inst → List (List ℕ)
inst_names insts = map (λ i. i.name) insts

pub record AreNames (d : Design) (names : Names) : Type 0 where
  pub insts : TellsPlaces (inst_names d.insts) names.insts
  pub first_pins : names.first_pins.items ≡ firsts_from 0 pin_count d.insts
  pub ports : TellsPlaces (port_names d.ports) names.ports
  pub first_bits : names.first_bits.items ≡ firsts_from 0 width_of d.wires
