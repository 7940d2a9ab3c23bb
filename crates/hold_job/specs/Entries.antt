-- The other tables of a job: corners, kinds of buffers, clock arrivals and kept pins.
--
-- corner_of so_far: the form of a corner that doesn't share its name with one of those before it.
-- corners_of: the form of the list of all corners: 1 to 8.
-- is_buffer t: whether a type is combinational with one input and one output.
-- buffer_named types t: the first type of that name that is so.
-- buffer types: the form of the name of such a type, which gives the type.
-- kind_of corners types: the form of a kind of buffer.
-- clock_of corners, keep_of: the forms of a clock arrival and of a kept pin.
use Rattle.std.specs.Prelude.{ℕ, pos, List, [], ◌∷◌, map, codes, bytes_eq, Bool, true, false, ◌&&◌, Option, Some, None, Ok, Err}
use Rattle.std.specs.List.{find}
use Rattle.hold_base.specs.Limits.{corners_limit, cost_limit}
use Rattle.hold_netlist.specs.declared.kind.Kind.{Kind}
use Rattle.hold_roles.specs.declared.role.Role.{Role}
use Rattle.hold_roles.specs.declared.role.Role.TheVariants.{Comb}
use Rattle.hold_roles.specs.declared.role.CellType.{CellType}
use Rattle.hold_job.specs.declared.corner.Corner.{Corner}
use Rattle.hold_job.specs.declared.inst_times.Clock.{Clock}
use Rattle.hold_job.specs.declared.inst_times.Keep.{Keep}
use Rattle.hold_job.specs.declared.fault.JobFault.TheVariants.{Range}
use Rattle.hold_job.specs.Outcome.{Outcome, ◌>>=◌}
use Rattle.hold_job.specs.Keys.{Form, table_of, required, if_any}
use Rattle.hold_job.specs.Lists.{list_within, in_turn}
use Rattle.hold_job.specs.Names.{text, file_name, name, corner_name}
use Rattle.hold_job.specs.Numbers.{number, earliest, spans}

unfoldable pub corner_of : List Corner → Form Corner
corner_of so_far d = do
  ms ← table_of (codes "name" ∷ codes "sdf" ∷ []) d
  called ← required (corner_name (map (λ c. c.name) so_far)) (codes "name") ms
  sdf ← if_any file_name (codes "sdf") ms
  Ok (record { name = called; sdf = sdf })

abbrev pub corners_of : Form (List Corner)
corners_of d = list_within 1 corners_limit d >>= in_turn corner_of []

abbrev pub is_one : List (List ℕ) → Bool
is_one (x ∷ []) = true
is_one _ = false

abbrev pub is_comb : Role → Bool
is_comb Comb = true
is_comb _ = false

abbrev pub is_buffer : CellType → Bool
is_buffer t = is_comb t.role && (is_one t.inputs && is_one t.outputs)

abbrev pub buffer_named : List CellType → List ℕ → Option CellType
buffer_named types called = find (λ t. bytes_eq called t.name && is_buffer t) types

abbrev pub given_buffer : Option CellType → Outcome CellType
given_buffer (Some t) = Ok t
given_buffer None = Err (Range [])

abbrev pub buffer : List CellType → Form CellType
buffer types d = text d >>= λ called. given_buffer (buffer_named types called)

abbrev pub only : List (List ℕ) → List ℕ
only (x ∷ []) = x
only _ = []

unfoldable pub kind_of : ℕ → List CellType → Form Kind
kind_of corners types d = do
  ms ← table_of (codes "type" ∷ codes "cost" ∷ codes "spans" ∷ []) d
  cell ← required (buffer types) (codes "type") ms
  cost ← required (number 1 cost_limit) (codes "cost") ms
  delays ← required (spans (pos 0) corners) (codes "spans") ms
  Ok (record { cell = cell.name; input = only cell.inputs; output = only cell.outputs; cost = cost; spans = delays })

unfoldable pub clock_of : ℕ → Form Clock
clock_of corners d = do
  ms ← table_of (codes "inst" ∷ codes "arrivals" ∷ []) d
  inst ← required name (codes "inst") ms
  arrivals ← required (spans earliest corners) (codes "arrivals") ms
  Ok (record { inst = inst; arrivals = arrivals })

unfoldable pub keep_of : Form Keep
keep_of d = do
  ms ← table_of (codes "inst" ∷ codes "pin" ∷ []) d
  inst ← required name (codes "inst") ms
  pin ← required name (codes "pin") ms
  Ok (record { inst = inst; pin = pin })
