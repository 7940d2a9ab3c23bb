-- is_large_range r: whether a bound of the range is above its limit. has_large_bound w: whether one of the wire is.
-- first_limit m: the first limit that the module passes: of a bound, then of the netlist's counts.
-- name_fault f is: the fault at the one of these identifiers that stands first in the text.
-- first_name_fault m: what the module is refused for: a name that is declared twice, else a port that is declared
--   otherwise than it may, else a bit that isn't there or doesn't fit, each at the identifier that stands first in the
--   text; else a limit. None where it declares a netlist.
use Rattle.std.specs.Prelude.{ℕ, Bool, false, ◌||◌, nat_lt, List, if◌then◌else◌, Option, Some, None}
use Rattle.std.specs.List.{list_any}
use Rattle.std.specs.Option.{option_map, option_or}
use Rattle.hold_base.specs.Limits.{bound_limit}
use Rattle.hold_base.specs.declared.stop.What.{What}
use Rattle.hold_base.specs.declared.stop.What.TheVariants.{Bound}
use Rattle.hold_netlist.specs.declared.wire.Wire.{Wire}
use Rattle.hold_netlist.specs.Limits.{first_passed_limit}
use Rattle.hold_vsyntax.specs.declared.tree.Ident.{Ident}
use Rattle.hold_vsyntax.specs.declared.tree.Module.{Module}
use Rattle.hold_vparse.specs.declared.fault.VerilogFault.{VerilogFault}
use Rattle.hold_vparse.specs.declared.fault.VerilogFault.TheVariants.{DoubleName, BadPort, BadBit, Limit}
use Rattle.hold_vparse.specs.Soonest.{soonest}
use Rattle.hold_vparse.specs.Nets.{nets}
use Rattle.hold_vparse.specs.DoubleNames.{doubled}
use Rattle.hold_vparse.specs.PortFaults.{misdeclared}
use Rattle.hold_vparse.specs.BitFaults.{misfit}
use Rattle.hold_vparse.specs.Declares.{design_of}

abbrev pub is_large_range : Option (ℕ × ℕ) → Bool
is_large_range None = false
is_large_range (Some r) = nat_lt bound_limit r.0 || nat_lt bound_limit r.1

abbrev pub has_large_bound : Wire → Bool
has_large_bound w = is_large_range w.range

abbrev pub first_limit : Module → Option What
first_limit m = if list_any has_large_bound (nets m) then Some Bound else first_passed_limit (design_of m)

abbrev pub name_fault : (List ℕ → VerilogFault) → List Ident → Option VerilogFault
name_fault f is = option_map (λ (i : Ident). f i.name) (soonest is)

abbrev pub first_name_fault : Module → Option VerilogFault
first_name_fault m =
    option_or (name_fault DoubleName (doubled m))
    (option_or (name_fault BadPort (misdeclared m))
    (option_or (name_fault BadBit (misfit m))
    (option_map Limit (first_limit m))))
