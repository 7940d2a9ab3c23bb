-- Texts that tell names from others, joined to one.
--
-- ended name: the name with a 1 before each byte, and a 0 at its end; none is the front of another one.
-- arc_text kind from to, check_text kind pin: the text of a type's name and those of its pins. arc_texts arcs, check_texts checks: those of a
--   job's lists, in order. clock_names clocks: the instances that clock entries name.
use Rattle.std.specs.Prelude.{ℕ, List, [], ◌∷◌, ◌++◌, map}
use Rattle.hold_job.specs.declared.cell_times.TypeArc.{TypeArc}
use Rattle.hold_job.specs.declared.cell_times.TypeCheck.{TypeCheck}
use Rattle.hold_job.specs.declared.inst_times.Clock.{Clock}

abbrev pub ended : List ℕ → List ℕ
ended [] = 0 ∷ []
ended (b ∷ bytes) = 1 ∷ b ∷ ended bytes

abbrev pub arc_text : List ℕ → List ℕ → List ℕ → List ℕ
arc_text kind from to = (ended kind ++ ended from) ++ ended to

abbrev pub check_text : List ℕ → List ℕ → List ℕ
check_text kind pin = ended kind ++ ended pin

abbrev pub arc_texts : List TypeArc → List (List ℕ)
arc_texts arcs = map (λ arc. arc_text arc.kind arc.from arc.to) arcs

abbrev pub check_texts : List TypeCheck → List (List ℕ)
check_texts checks = map (λ check. check_text check.kind check.pin) checks

abbrev pub clock_names : List Clock → List (List ℕ)
clock_names clocks = map (λ clock. clock.inst) clocks
