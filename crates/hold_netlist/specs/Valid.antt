-- IsValid d: a netlist: its parts fit together, no name stands twice, and no count passes its limit.
use Rattle.std.specs.Prelude.{◌≡◌, None}
use Rattle.hold_netlist.specs.Design.{Design}
use Rattle.hold_netlist.specs.WellFormed.{IsWellFormed}
use Rattle.hold_netlist.specs.Doubles.{first_double_name}
use Rattle.hold_netlist.specs.Limits.{first_passed_limit}

pub record IsValid (d : Design) : Type 0 where
  pub well_formed : IsWellFormed d
  pub names : first_double_name d ≡ None
  pub counts : first_passed_limit d ≡ None
