-- What stands a second time in a job.
--
-- again same so_far xs: the place of the first of xs that is the same as one of those so far or as one of those before it; those so
--   far have the places in front. None where there is none.
-- second key place: the fault of an entry of a list that stands a second time, told of that key of it. Nothing of note where none does.
-- once key names: the same of entries of which each has its name at that key.
-- same_ends a b: the arcs lead from one pin to one pin. arcs_once, checks_once t: the same of the arcs of a type, of which no two have the
--   same ends, and of its checks, of which no two are at one pin.
-- of_each form place types: the first fault within one of the types, of which the first has that place.
-- no_doubles types kinds clocks: the first fault of these, in this order: two types of one name, two kinds of one type, two clock arrivals
--   of one instance, two arcs of one type with the same ends, two checks of one type at one pin.
use Rattle.std.specs.Prelude.{ℕ, ◌+◌, List, [], ◌∷◌, ◌++◌, length, map, codes, bytes_eq, Bool, ◌&&◌, if◌then◌else◌, Option, Some, None, Ok, Err}
use Rattle.std.specs.List.{list_any}
use Rattle.std.specs.Fmt.{decimal}
use Rattle.hold_netlist.specs.declared.kind.Kind.{Kind}
use Rattle.hold_job.specs.declared.cell_times.TypeArc.{TypeArc}
use Rattle.hold_job.specs.declared.listed_type.ListedType.{ListedType}
use Rattle.hold_job.specs.declared.inst_times.Clock.{Clock}
use Rattle.hold_job.specs.declared.fault.JobFault.TheVariants.{Double}
use Rattle.hold_job.specs.Outcome.{Outcome, ◌>>=◌, at}

abbrev pub again : {A : Type 0} → (A → A → Bool) → List A → List A → Option ℕ
again same so_far [] = None
again same so_far (x ∷ xs) = if list_any (same x) so_far then Some (length so_far) else again same (so_far ++ x ∷ []) xs

abbrev pub second : List ℕ → Option ℕ → Outcome Unit
second key None = Ok tt
second key (Some place) = at (decimal place) (at key (Err (Double [])))

abbrev pub once : List ℕ → List (List ℕ) → Outcome Unit
once key names = second key (again bytes_eq [] names)

abbrev pub same_ends : TypeArc → TypeArc → Bool
same_ends a b = bytes_eq a.from b.from && bytes_eq a.to b.to

abbrev pub arcs_once : ListedType → Outcome Unit
arcs_once t = at (codes "arcs") (second (codes "from") (again same_ends [] t.arcs))

abbrev pub checks_once : ListedType → Outcome Unit
checks_once t = at (codes "checks") (once (codes "pin") (map (λ c. c.pin) t.checks))

abbrev pub of_each : (ListedType → Outcome Unit) → ℕ → List ListedType → Outcome Unit
of_each form place [] = Ok tt
of_each form place (t ∷ ts) = at (decimal place) (form t) >>= λ _. of_each form (place + 1) ts

unfoldable pub no_doubles : List ListedType → List Kind → List Clock → Outcome Unit
no_doubles types kinds clocks = do
  _ ← at (codes "type") (once (codes "name") (map (λ t. t.cell.name) types))
  _ ← at (codes "kind") (once (codes "type") (map (λ k. k.cell) kinds))
  _ ← at (codes "clock") (once (codes "inst") (map (λ c. c.inst) clocks))
  _ ← at (codes "type") (of_each arcs_once 0 types)
  at (codes "type") (of_each checks_once 0 types)
