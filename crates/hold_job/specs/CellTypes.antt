-- The types of cells that a job lists, with their arcs and checks.
--
-- ListedType: a type, and its arcs and checks.
-- role_named t: the role that a text names. role_in ms: the role of a type's table, where it has one.
-- type_keys role: the keys that the table of a type may have. Where it has no role, those of all roles.
-- pin_names taken: the form of a list of names of pins, of which none is taken and none stands twice.
-- arc_of corners kind sources outputs: the form of an arc of the type of that name, from one of the sources to one of the outputs.
-- check_of corners kind pins: the form of a check of the type of that name, at one of these data pins.
-- comb_in, register_in, opaque_in corners name ms: what a table lists of a type of that role and name.
-- type_of corners: the form of what a job lists of a type.
use Rattle.std.specs.Prelude.{ℕ, List, [], ◌∷◌, ◌++◌, codes, bytes_eq, if◌then◌else◌, Option, Some, None, Ok, Err}
use Rattle.toml.specs.Data.{Data, Members, get_member, as_str, as_table}
use Rattle.hold_roles.specs.declared.role.Role.{Role}
use Rattle.hold_roles.specs.declared.role.Role.TheVariants.{Comb, Register, Opaque}
use Rattle.hold_job.specs.declared.cell_times.TypeArc.{TypeArc}
use Rattle.hold_job.specs.declared.cell_times.TypeCheck.{TypeCheck}
use Rattle.hold_job.specs.declared.listed_type.ListedType.{ListedType}
use Rattle.hold_job.specs.declared.fault.JobFault.TheVariants.{Range}
use Rattle.hold_job.specs.Outcome.{Outcome, ◌>>=◌, of_kind}
use Rattle.hold_job.specs.Keys.{Form, known, table_of, required, or_else}
use Rattle.hold_job.specs.Lists.{list_of, in_turn, every}
use Rattle.hold_job.specs.Names.{text, name, new_name, one_of}
use Rattle.hold_job.specs.Numbers.{earliest, spans, values}

abbrev pub role_named : List ℕ → Option Role
role_named t =
    if bytes_eq t (codes "comb") then Some Comb
    else if bytes_eq t (codes "register") then Some Register
    else if bytes_eq t (codes "opaque") then Some Opaque
    else None

abbrev pub given_role : Option Role → Outcome Role
given_role (Some r) = Ok r
given_role None = Err (Range [])

abbrev pub role : Form Role
role d = text d >>= λ t. given_role (role_named t)

abbrev pub role_of_text : Option (List ℕ) → Option Role
role_of_text None = None
role_of_text (Some t) = role_named t

abbrev pub role_of_value : Option Data → Option Role
role_of_value None = None
role_of_value (Some d) = role_of_text (as_str d)

abbrev pub role_in : Members → Option Role
role_in ms = role_of_value (get_member (codes "role") ms)

abbrev pub type_keys : Option Role → List (List ℕ)
type_keys (Some Comb) = codes "name" ∷ codes "role" ∷ codes "inputs" ∷ codes "outputs" ∷ codes "arcs" ∷ []
type_keys (Some Register) = codes "name" ∷ codes "role" ∷ codes "clock" ∷ codes "data" ∷ codes "quiet" ∷ codes "outputs" ∷ codes "arcs" ∷ codes "checks" ∷ []
type_keys (Some Opaque) = codes "name" ∷ codes "role" ∷ codes "inputs" ∷ codes "outputs" ∷ []
type_keys None = codes "name" ∷ codes "role" ∷ codes "inputs" ∷ codes "clock" ∷ codes "data" ∷ codes "quiet" ∷ codes "outputs" ∷ codes "arcs" ∷ codes "checks" ∷ []

abbrev pub pin_names : List (List ℕ) → Form (List (List ℕ))
pin_names taken d = list_of d >>= in_turn (λ so_far. new_name (taken ++ so_far)) []

unfoldable pub arc_of : ℕ → List ℕ → List (List ℕ) → List (List ℕ) → Form TypeArc
arc_of corners kind sources outputs d = do
  ms ← table_of (codes "from" ∷ codes "to" ∷ codes "spans" ∷ []) d
  from ← required (one_of sources) (codes "from") ms
  to ← required (one_of outputs) (codes "to") ms
  delays ← required (spans earliest corners) (codes "spans") ms
  Ok (record { kind = kind; from = from; to = to; spans = delays })

unfoldable pub check_of : ℕ → List ℕ → List (List ℕ) → Form TypeCheck
check_of corners kind pins d = do
  ms ← table_of (codes "pin" ∷ codes "setup" ∷ codes "hold" ∷ []) d
  pin ← required (one_of pins) (codes "pin") ms
  setup ← required (values corners) (codes "setup") ms
  hold ← required (values corners) (codes "hold") ms
  Ok (record { kind = kind; pin = pin; setup = setup; hold = hold })

unfoldable pub comb_in : ℕ → List ℕ → Members → Outcome ListedType
comb_in corners kind ms = do
  inputs ← or_else [] (pin_names []) (codes "inputs") ms
  outputs ← or_else [] (pin_names inputs) (codes "outputs") ms
  arcs ← or_else [] (every (arc_of corners kind inputs outputs)) (codes "arcs") ms
  Ok (record {
    cell = record { name = kind; role = Comb; inputs = inputs; clock = None; quiet = []; outputs = outputs };
    arcs = arcs;
    checks = [];
  })

unfoldable pub register_in : ℕ → List ℕ → Members → Outcome ListedType
register_in corners kind ms = do
  clock ← required (new_name []) (codes "clock") ms
  checked ← or_else [] (pin_names (clock ∷ [])) (codes "data") ms
  quiet ← or_else [] (pin_names (clock ∷ checked)) (codes "quiet") ms
  outputs ← or_else [] (pin_names (clock ∷ checked ++ quiet)) (codes "outputs") ms
  arcs ← or_else [] (every (arc_of corners kind (clock ∷ []) outputs)) (codes "arcs") ms
  checks ← or_else [] (every (check_of corners kind checked)) (codes "checks") ms
  Ok (record {
    cell = record { name = kind; role = Register; inputs = checked; clock = Some clock; quiet = quiet; outputs = outputs };
    arcs = arcs;
    checks = checks;
  })

unfoldable pub opaque_in : List ℕ → Members → Outcome ListedType
opaque_in kind ms = do
  inputs ← or_else [] (pin_names []) (codes "inputs") ms
  outputs ← or_else [] (pin_names inputs) (codes "outputs") ms
  Ok (record {
    cell = record { name = kind; role = Opaque; inputs = inputs; clock = None; quiet = []; outputs = outputs };
    arcs = [];
    checks = [];
  })

abbrev pub type_in : ℕ → List ℕ → Members → Role → Outcome ListedType
type_in corners kind ms Comb = comb_in corners kind ms
type_in corners kind ms Register = register_in corners kind ms
type_in corners kind ms Opaque = opaque_in kind ms

unfoldable pub type_of : ℕ → Form ListedType
type_of corners d = do
  ms ← of_kind (as_table d)
  _ ← known (type_keys (role_in ms)) ms
  kind ← required name (codes "name") ms
  r ← required role (codes "role") ms
  type_in corners kind ms r
