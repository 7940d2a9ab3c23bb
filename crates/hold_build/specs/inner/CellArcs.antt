-- cell_arc to from: the arc through a cell between the two pins. arcs_to froms to: those from each of these pins.
-- arcs_between froms tos: those from each of the first pins to each of the second.
-- cell_arcs t p pins: those of an instance of the type, by its connections, the first of which is pin p; none where it isn't
--   combinational.
-- sort_count sort t pins: how many of the connections are of that sort. cell_count t pins: how many arcs the instance has.
-- over_count types insts: how many the instances have.
use Rattle.std.specs.Prelude.{ℕ, ◌+◌, ◌*◌, List, [], ◌∷◌, map, flat_map, count_by, Option, Some, None, false}
use Rattle.hold_base.specs.declared.number.PinNo.{PinNo}
use Rattle.hold_graph.specs.declared.graph.Arc.{Arc}
use Rattle.hold_netlist.specs.declared.inst.Inst.{Inst}
use Rattle.hold_netlist.specs.declared.inst.Pin.{Pin}
use Rattle.hold_roles.specs.declared.role.CellType.{CellType}
use Rattle.hold_roles.specs.declared.role.Role.{Role}
use Rattle.hold_roles.specs.declared.role.Role.TheVariants.{Comb, Register, Opaque}
use Rattle.hold_roles.specs.Types.{type_named}
use Rattle.hold_build.specs.declared.sort.Sort.{Sort}
use Rattle.hold_build.specs.declared.sort.Sort.TheVariants.{Output, Tied}
use Rattle.hold_build.specs.inner.Sorts.{is_of_sort, sort_pins}

abbrev pub cell_arc : PinNo → PinNo → Arc
cell_arc to from = record { from = from; to = to; wire = false }

abbrev pub arcs_to : List PinNo → PinNo → List Arc
arcs_to froms to = map (cell_arc to) froms

abbrev pub arcs_between : List PinNo → List PinNo → List Arc
arcs_between froms tos = flat_map (arcs_to froms) tos

abbrev pub role_arcs : Role → CellType → ℕ → List Pin → List Arc
role_arcs Comb t p pins = arcs_between (sort_pins Tied t p pins) (sort_pins Output t p pins)
role_arcs Register t p pins = []
role_arcs Opaque t p pins = []

abbrev pub cell_arcs : CellType → ℕ → List Pin → List Arc
cell_arcs t p pins = role_arcs t.role t p pins

abbrev pub sort_count : Sort → CellType → List Pin → ℕ
sort_count sort t pins = count_by (is_of_sort sort t) pins

abbrev pub role_count : Role → CellType → List Pin → ℕ
role_count Comb t pins = sort_count Tied t pins * sort_count Output t pins
role_count Register t pins = 0
role_count Opaque t pins = 0

abbrev pub cell_count : Option CellType → List Pin → ℕ
cell_count None pins = 0
cell_count (Some t) pins = role_count t.role t pins

abbrev pub over_count : List CellType → List Inst → ℕ
over_count types [] = 0
over_count types (i ∷ is) = cell_count (type_named i.kind types) i.pins + over_count types is
