-- The arcs of a bound netlist, from pin to pin.
--
-- IsWireArc b from to: pin `to` reads a net bit whose root is pin `from`: the net bit's driver, or, through assignments, that of
--   another. What has its root in a constant or in nothing is the end of no wire arc.
-- IsCellArc b from to: both pins are connections of one combinational instance, `from` of an input that isn't written empty, and `to` of
--   an output, one that is written empty too. Registers and opaque instances have no such arc.
-- IsArcAs wire b from to: the one where `wire` is true, else the other. IsArc b arc: so it is of an arc, by what it says of itself.
use Rattle.std.specs.Prelude.{◌≡◌, ◌≢◌, ℕ, Bool, true, false, IsTrue}
use Rattle.hold_base.specs.declared.number.NetNo.{NetNo}
use Rattle.hold_base.specs.declared.number.PinNo.{PinNo}
use Rattle.hold_graph.specs.declared.graph.Arc.{Arc}
use Rattle.hold_netlist.specs.declared.inst.Pin.{Pin as Connection}
use Rattle.hold_netlist.specs.declared.inst.Source.TheVariants.{Empty}
use Rattle.hold_roles.specs.declared.role.CellType.{CellType}
use Rattle.hold_roles.specs.declared.role.Role.TheVariants.{Comb}
use Rattle.hold_roles.specs.declared.roots.Root.TheVariants.{Pin}
use Rattle.hold_roles.specs.Binding.{Binding}
use Rattle.hold_roles.specs.Drivers.{drivers}
use Rattle.hold_roles.specs.Roots.{IsRoot}
use Rattle.hold_roles.specs.TypePins.{is_output_pin}
use Rattle.hold_build.specs.Pins.{is_data_pin, IsPinOf, Reads}

pub record IsWireArc (b : Binding) (from to : PinNo) : Type 0 where
  pub net : NetNo
  pub reads : Reads b to net
  pub root : IsRoot (drivers b.types b.netlist) net.0 (Pin from)

pub record IsCellArc (b : Binding) (from to : PinNo) : Type 0 where
  pub inst : ℕ
  pub t : CellType
  pub comb : t.role ≡ Comb
  pub input : Connection
  pub begins : IsPinOf b from inst t input
  pub is_input : IsTrue (is_data_pin t input.name)
  pub written : input.source ≢ Empty
  pub output : Connection
  pub ends : IsPinOf b to inst t output
  pub is_output : IsTrue (is_output_pin t output.name)

abbrev pub IsArcAs : Bool → Binding → PinNo → PinNo → Type 0
IsArcAs true b from to = IsWireArc b from to
IsArcAs false b from to = IsCellArc b from to

abbrev pub IsArc : Binding → Arc → Type 0
IsArc b arc = IsArcAs arc.wire b arc.from arc.to
