-- cell_places types insts: the place of each instance's type among these, in order; 0 where the type isn't among them.
use Rattle.std.specs.Prelude.{ℕ, List, map, unwrap_or}
use Rattle.hold_netlist.specs.declared.inst.Inst.{Inst}
use Rattle.hold_roles.specs.declared.role.CellType.{CellType}
use Rattle.hold_roles.specs.Types.{type_names}
use Rattle.hold_roles.specs.inner.NamePlaces.{first_at}

abbrev pub cell_places : List CellType → List Inst → List ℕ
cell_places types insts = map (λ i. unwrap_or (first_at 0 i.kind (type_names types)) 0) insts
