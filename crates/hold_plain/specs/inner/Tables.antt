-- A table from names to numbers is seen as its pairs.
--
-- first_at place name names: the place of the first of these names that is the name, where the first of all stands at `place`. None
--   where none is.
-- TellsPlaces names table: the table gives each name the place at which it stands first, counted from 0.
-- cell_names, clock_names: the names of cells, and of the registers that have a clock entry, in order.
-- inst_names: the names of instances, in order.
-- AreTables timing cell_places clock_places: the two tables tell the places of cells and of clock entries.
-- is_register timing i: whether the instance's cell is known and is a register. is_register_cell cell, is_register_role role: the
--   same by a cell, which may be unknown, and by a role.
-- TellsRegisters timing insts table: the table has exactly the names of register instances.
use Rattle.std.specs.Prelude.{◌≡◌, ◌↔◌, ℕ, ◌+◌, List, [], ◌∷◌, map, Option, Some, None, IsSome, Bool, true, false, bytes_eq, if◌then◌else◌}
use Rattle.hold_netlist.specs.declared.inst.Inst.{Inst}
use Rattle.hold_netlist.specs.NameTable.{number_of}
use Rattle.hold_plain.specs.declared.cell.Cell.{Cell}
use Rattle.hold_plain.specs.declared.cell.Role.{Role}
use Rattle.hold_plain.specs.declared.cell.Role.TheVariants.{Comb, Register}
use Rattle.hold_plain.specs.declared.timing.Clock.{Clock as ClockEntry}
use Rattle.hold_plain.specs.declared.timing.Timing.{Timing}
use Rattle.hold_plain.specs.Cells.{cell_named}
use Rattle.hold_plain.specs.Served.{IsRegister}

abbrev pub first_at : ℕ → List ℕ → List (List ℕ) → Option ℕ
first_at place name [] = None
first_at place name (n ∷ names) = if bytes_eq name n then Some place else first_at (place + 1) name names

pub record TellsPlaces (names : List (List ℕ)) (table : List (List ℕ × ℕ)) : Type 0 where
  pub each : (name : List ℕ) → number_of name table ≡ first_at 0 name names

abbrev pub cell_names : List Cell → List (List ℕ)
cell_names cells = map (λ cell. cell.name) cells

abbrev pub clock_names : List ClockEntry → List (List ℕ)
clock_names entries = map (λ entry. entry.inst) entries

abbrev pub inst_names : List Inst → List (List ℕ)
inst_names insts = map (λ i. i.name) insts

pub record AreTables (timing : Timing) (cell_places clock_places : List (List ℕ × ℕ)) : Type 0 where
  pub cells : TellsPlaces (cell_names timing.cells) cell_places
  pub clocks : TellsPlaces (clock_names timing.clocks) clock_places

abbrev pub is_register_role : Role → Bool
is_register_role Comb = false
is_register_role Register = true

abbrev pub is_register_cell : Option Cell → Bool
is_register_cell None = false
is_register_cell (Some cell) = is_register_role cell.role

abbrev pub is_register : Timing → Inst → Bool
is_register timing i = is_register_cell (cell_named i.kind timing.cells)

pub record TellsRegisters (timing : Timing) (insts : List Inst) (table : List (List ℕ × ℕ)) : Type 0 where
  pub each : (name : List ℕ) → IsSome (number_of name table) ↔ IsRegister timing insts name
