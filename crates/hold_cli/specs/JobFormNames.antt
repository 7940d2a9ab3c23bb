-- Names of files, of the corner, and of cell types, instances and pins, in a job.
--
-- is_file_name text: whether it has 1 to 4,096 bytes. file_name_at: the text at a key, where it is so.
-- is_name name: whether it is such a text, of bytes that print and are no space. is_corner_name name: the same with at most 64 bytes.
-- name_of, name_at: the text that a value is, or that stands at a key, where it may name a cell type, an instance or a pin: 1 to 4,096 bytes
--   that print and are no space.
-- corner_name_at: the name of the one corner. Nothing where `corner` is no list of exactly one table, where that table has another key than
--   `name`, or where the name isn't 1 to 64 such bytes.
-- corner_name_of corner: the same of that corner's table.
-- names_differ: whether no two of the names are equal.
use Rattle.std.specs.Prelude.{ℕ, List, [], length, codes, Bool, ◌&&◌, nat_le, if◌then◌else◌, Option, None, is_none}
use Rattle.std.specs.List.{list_all}
use Rattle.hold_base.specs.Limits.{name_limit, corner_name_limit}
use Rattle.hold_base.specs.NameBytes.{is_printed}
use Rattle.toml.specs.Data.{Data, Members, as_str, as_table}
use Rattle.hold_netlist.specs.Doubles.{first_repeat}
use Rattle.hold_cli.specs.declared.job_form.key.JobTable.TheVariants.{Corner}
use Rattle.hold_cli.specs.JobFormKeys.{◌>>=◌, kept, keys_of, has_only, text_at, array_at, only_item}

abbrev pub is_file_name : List ℕ → Bool
is_file_name text = nat_le 1 (length text) && nat_le (length text) name_limit

abbrev pub file_name_at : List ℕ → Members → Option (List ℕ)
file_name_at key ms = kept is_file_name (text_at key ms)

abbrev pub is_name : List ℕ → Bool
is_name name = is_file_name name && list_all is_printed name

abbrev pub name_of : Data → Option (List ℕ)
name_of d = kept is_name (as_str d)

abbrev pub name_at : List ℕ → Members → Option (List ℕ)
name_at key ms = kept is_name (text_at key ms)

abbrev pub is_corner_name : List ℕ → Bool
is_corner_name name = (nat_le 1 (length name) && nat_le (length name) corner_name_limit) && list_all is_printed name

abbrev pub corner_name_of : Members → Option (List ℕ)
corner_name_of corner = if has_only (keys_of Corner) corner then kept is_corner_name (text_at (codes "name") corner) else None

unfoldable pub corner_name_at : Members → Option (List ℕ)
corner_name_at ms = do
  corners ← array_at (codes "corner") ms
  corner ← only_item corners
  table ← as_table corner
  corner_name_of table

abbrev pub names_differ : List (List ℕ) → Bool
names_differ names = is_none (first_repeat [] names)
