-- double_fault name, limit_fault what: the fault that names what was found; None where nothing was.
-- first_fault d: what a design is refused for: its first double name, else the first limit that it passes.
use Rattle.std.specs.Prelude.{ℕ, List, Option}
use Rattle.std.specs.Option.{option_map, option_or}
use Rattle.hold_base.specs.declared.stop.What.{What}
use Rattle.hold_netlist.specs.declared.fault.NetFault.{NetFault}
use Rattle.hold_netlist.specs.declared.fault.NetFault.TheVariants.{DoubleName, Limit}
use Rattle.hold_netlist.specs.Design.{Design}
use Rattle.hold_netlist.specs.Doubles.{first_double_name}
use Rattle.hold_netlist.specs.Limits.{first_passed_limit}

abbrev pub double_fault : Option (List ℕ) → Option NetFault
double_fault name = option_map DoubleName name

abbrev pub limit_fault : Option What → Option NetFault
limit_fault what = option_map Limit what

abbrev pub first_fault : Design → Option NetFault
first_fault d = option_or (double_fault (first_double_name d)) (limit_fault (first_passed_limit d))
