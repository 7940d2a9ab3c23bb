-- cells_in types: the types themselves, without their arcs and checks.
use Rattle.std.specs.Prelude.{List, map}
use Rattle.hold_roles.specs.declared.role.CellType.{CellType}
use Rattle.hold_job.specs.declared.listed_type.ListedType.{ListedType}

abbrev pub cells_in : List ListedType → List CellType
cells_in types = map (λ t. t.cell) types
