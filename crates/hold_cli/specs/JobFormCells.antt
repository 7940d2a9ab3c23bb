-- A table of a job's cell types.
--
-- arc_of, check_of: the arc, or the check, that a value gives: a table of all its keys and no others.
-- arc_in, check_in: the same of the members of such a table, whatever other keys there are.
-- comb_in, register_in: what a table gives by the keys of a role; a list that is left out is empty.
-- cell_as role ms: the cell of that role that a table gives, where it has only the role's keys; nothing for another role.
-- clock_pins clock: the clock pin as a list of one or none.
-- sources_as role cell, sources_of cell: the pins that arcs lead from: the inputs of a combinational cell, the clock of a register.
-- pins_of cell: all its pins.
-- leads_between sources outputs arc: the arc leads from one of the sources to one of the outputs.
-- pair_name arc: the names of both ends, with a space between. A name holds no space, so two arcs have the same pair name only where both ends
--   agree.
-- has_whole_arcs cell, has_whole_checks cell: the parts of the following that speak of arcs and of checks.
-- is_whole cell: the cell's pins differ; each arc leads from a source to an output, and no two from the same pin to the same pin; each check is
--   of a data pin, and no two are of the same.
-- cell_of: the cell type that a value gives: a table whose `role` is `comb` or `register`, which has only that role's keys, and
--   whose cell is whole. cell_in: the same of a table's members.
-- are_cells cells: at most 4,096, with different names. cells_at: the cell types of a job, where they are so.
use Rattle.std.specs.Prelude.{ℕ, List, [], ◌∷◌, ◌++◌, map, length, codes, Bool, ◌&&◌, nat_le, bytes_eq, if◌then◌else◌, Option, Some, None}
use Rattle.std.specs.List.{list_all}
use Rattle.hold_base.specs.Limits.{types_limit}
use Rattle.toml.specs.Data.{Data, Members, as_table}
use Rattle.hold_netlist.specs.Names.{is_among}
use Rattle.hold_plain.specs.declared.cell.Cell.{Cell}
use Rattle.hold_plain.specs.declared.cell.CellArc.{CellArc}
use Rattle.hold_plain.specs.declared.cell.CellCheck.{CellCheck}
use Rattle.hold_plain.specs.declared.cell.Role.{Role}
use Rattle.hold_plain.specs.declared.cell.Role.TheVariants.{Comb, Register}
use Rattle.hold_cli.specs.declared.job_form.key.JobTable.TheVariants.{Comb as CombTable, Register as RegisterTable, Arc as ArcTable, Check as CheckTable}
use Rattle.hold_cli.specs.JobFormKeys.{◌>>=◌, kept, keys_of, has_only, text_at, each_at}
use Rattle.hold_cli.specs.JobFormNames.{name_of, name_at, names_differ}
use Rattle.hold_cli.specs.JobFormTimes.{span_at, time_at}

unfoldable pub arc_in : Members → Option CellArc
arc_in ms = do
  from ← name_at (codes "from") ms
  to ← name_at (codes "to") ms
  span ← span_at (codes "spans") ms
  Some (record { from = from; to = to; span = span })

abbrev pub arc_of : Data → Option CellArc
arc_of d = as_table d >>= λ ms. if has_only (keys_of ArcTable) ms then arc_in ms else None

unfoldable pub check_in : Members → Option CellCheck
check_in ms = do
  pin ← name_at (codes "pin") ms
  setup ← time_at (codes "setup") ms
  hold ← time_at (codes "hold") ms
  Some (record { pin = pin; check = record { setup = setup; hold = hold } })

abbrev pub check_of : Data → Option CellCheck
check_of d = as_table d >>= λ ms. if has_only (keys_of CheckTable) ms then check_in ms else None

unfoldable pub comb_in : Members → Option Cell
comb_in ms = do
  name ← name_at (codes "name") ms
  inputs ← each_at name_of (codes "inputs") ms
  outputs ← each_at name_of (codes "outputs") ms
  arcs ← each_at arc_of (codes "arcs") ms
  Some (record { name = name; role = Comb; inputs = inputs; clock = None; outputs = outputs; arcs = arcs; checks = [] })

unfoldable pub register_in : Members → Option Cell
register_in ms = do
  name ← name_at (codes "name") ms
  clock ← name_at (codes "clock") ms
  data_pins ← each_at name_of (codes "data") ms
  outputs ← each_at name_of (codes "outputs") ms
  arcs ← each_at arc_of (codes "arcs") ms
  checks ← each_at check_of (codes "checks") ms
  Some (record { name = name; role = Register; inputs = data_pins; clock = Some clock; outputs = outputs; arcs = arcs; checks = checks })

abbrev pub cell_as : List ℕ → Members → Option Cell
cell_as role ms =
    if bytes_eq role (codes "comb") then (if has_only (keys_of CombTable) ms then comb_in ms else None)
    else if bytes_eq role (codes "register") then (if has_only (keys_of RegisterTable) ms then register_in ms else None)
    else None

abbrev pub clock_pins : Option (List ℕ) → List (List ℕ)
clock_pins None = []
clock_pins (Some clock) = clock ∷ []

abbrev pub sources_as : Role → Cell → List (List ℕ)
sources_as Comb cell = cell.inputs
sources_as Register cell = clock_pins cell.clock

abbrev pub sources_of : Cell → List (List ℕ)
sources_of cell = sources_as cell.role cell

abbrev pub pins_of : Cell → List (List ℕ)
pins_of cell = clock_pins cell.clock ++ (cell.inputs ++ cell.outputs)

abbrev pub pair_name : CellArc → List ℕ
pair_name arc = arc.from ++ 32 ∷ arc.to

abbrev pub leads_between : List (List ℕ) → List (List ℕ) → CellArc → Bool
leads_between sources outputs arc = is_among arc.from sources && is_among arc.to outputs

abbrev pub has_whole_arcs : Cell → Bool
has_whole_arcs cell = list_all (leads_between (sources_of cell) cell.outputs) cell.arcs && names_differ (map pair_name cell.arcs)

abbrev pub has_whole_checks : Cell → Bool
has_whole_checks cell = list_all (λ entry. is_among entry.pin cell.inputs) cell.checks && names_differ (map (λ entry. entry.pin) cell.checks)

abbrev pub is_whole : Cell → Bool
is_whole cell = names_differ (pins_of cell) && (has_whole_arcs cell && has_whole_checks cell)

abbrev pub cell_in : Members → Option Cell
cell_in ms = kept is_whole (text_at (codes "role") ms >>= λ role. cell_as role ms)

abbrev pub cell_of : Data → Option Cell
cell_of d = as_table d >>= cell_in

abbrev pub are_cells : List Cell → Bool
are_cells cells = nat_le (length cells) types_limit && names_differ (map (λ cell. cell.name) cells)

abbrev pub cells_at : Members → Option (List Cell)
cells_at ms = kept are_cells (each_at cell_of (codes "type") ms)
