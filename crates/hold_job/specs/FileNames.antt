-- Files that share a name.
--
-- optional o: a name that there may be, as a list. sdf_names corners: the names of the corners' SDF files; two corners may share one.
-- kept_apart own netlist output certificate plan corners: the fault of the output where another file has its name, else of the certificate
--   where another file has its name. Nothing of note where neither does. own is the name of the job's own file.
use Rattle.std.specs.Prelude.{ℕ, List, [], ◌∷◌, ◌++◌, flat_map, if◌then◌else◌, Option, Some, None, Ok, Err}
use Rattle.hold_netlist.specs.Names.{is_among}
use Rattle.hold_job.specs.declared.corner.Corner.{Corner}
use Rattle.hold_job.specs.declared.fault.JobFault.TheVariants.{SameName}
use Rattle.hold_job.specs.Outcome.{Outcome}

abbrev pub optional : Option (List ℕ) → List (List ℕ)
optional None = []
optional (Some t) = t ∷ []

abbrev pub sdf_names : List Corner → List (List ℕ)
sdf_names corners = flat_map (λ c. optional c.sdf) corners

abbrev pub kept_apart : List ℕ → List ℕ → List ℕ → List ℕ → Option (List ℕ) → List Corner → Outcome Unit
kept_apart own netlist output certificate plan corners =
    if is_among output (own ∷ netlist ∷ certificate ∷ optional plan ++ sdf_names corners) then Err (SameName output)
    else if is_among certificate (own ∷ netlist ∷ optional plan ++ sdf_names corners) then Err (SameName certificate)
    else Ok tt
