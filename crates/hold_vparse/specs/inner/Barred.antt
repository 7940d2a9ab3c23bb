-- is_barred barred role: whether a name that these roles are barred to can't be mentioned in this role once more.
-- none_barred: no role is barred.
-- found_or_none found: the roles that were found for a name; none where none were.
-- barred_in table name: the roles that a table bars to a name; none where it doesn't have the name.
-- Bars m table seen: the table bars to each name the roles in which a mention would declare it again after the seen
--   ones.
use Rattle.std.specs.Prelude.{◌≡◌, ℕ, Bool, false, List, Option, Some, None, Vec, bytes_eq}
use Rattle.std.specs.declared.alloc.Global.{Global}
use Rattle.std.specs.List.{list_any}
use Rattle.std.specs.Map.{lookup}
use Rattle.hold_vsyntax.specs.declared.tree.Module.{Module}
use Rattle.hold_vparse.specs.declared.barred.Barred.{Barred}
use Rattle.hold_vparse.specs.declared.barred_names.BarredNames.{BarredNames}
use Rattle.hold_vparse.specs.DoubleNames.{Mention, Role, ListsPort, DeclaresPort, GivesDirection, DeclaresWire, DeclaresInstance, UsesNet, declares_again}

abbrev pub is_barred : Barred → Role → Bool
is_barred barred ListsPort = barred.lists_port
is_barred barred DeclaresPort = barred.declares_port
is_barred barred GivesDirection = barred.gives_direction
is_barred barred DeclaresWire = barred.declares_wire
is_barred barred DeclaresInstance = barred.declares_instance
is_barred barred UsesNet = barred.uses_net

abbrev pub none_barred : Barred
none_barred = record { lists_port = false; declares_port = false; gives_direction = false; declares_wire = false; declares_instance = false; uses_net = false }

abbrev pub found_or_none : Option Barred → Barred
found_or_none None = none_barred
found_or_none (Some barred) = barred

abbrev pub barred_in : BarredNames → List ℕ → Barred
barred_in table name = found_or_none (lookup (λ (k : Vec ℕ Global). bytes_eq name k.items) table.roles.entries)

pub record Bars (m : Module) (table : BarredNames) (seen : List Mention) : Type 0 where
  pub told : (x : Mention) → is_barred (barred_in table x.name.name) x.role ≡ list_any (declares_again m x) seen
