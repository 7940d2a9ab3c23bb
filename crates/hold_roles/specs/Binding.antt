-- Binding: a netlist and the types of the library that it is bound to.
-- binding types d: the binding of these.
use Rattle.std.specs.Prelude.{List}
use Rattle.hold_netlist.specs.Design.{Design}
use Rattle.hold_roles.specs.declared.role.CellType.{CellType}

pub record Binding : Type 0 where
  pub netlist : Design
  pub types : List CellType

abbrev pub binding : List CellType → Design → Binding
binding types d = record { netlist = d; types = types }
