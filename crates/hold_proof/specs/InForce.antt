-- InForce: what is in force at a node of a proof: the box that its counts are within, and `below`, the bound that their cost is
--   to be shown to be at least. Without a bound it is to be shown that none of them meets.
-- Obeys force counts: the counts obey what is in force, so they are a point of the box.
-- IsShown below cost: what is to be shown of counts that meet and have this cost. Without a bound there are to be none.
-- at_root problem sites below: what is in force at the root, the box of all counts and this bound, if any.
-- in_lower var at force, in_upper var at force: what is in force at the trees of a split, the halves of the box and the same bound.
use Rattle.std.specs.Prelude.{ℕ, ◌≤◌, List, Option, Some, None}
use Rattle.hold_base.specs.declared.number.PinNo.{PinNo}
use Rattle.hold_base.specs.declared.number.VarNo.{VarNo}
use Rattle.hold_graph.specs.declared.problem.Problem.{Problem}
use Rattle.hold_graph.specs.declared.boxed.Boxed.{Boxed}
use Rattle.hold_graph.specs.Boxes.{IsPoint, root_box, lower_half, upper_half}

pub record InForce : Type 0 where
  pub within : Boxed
  pub below : Option ℕ

abbrev pub Obeys : InForce → List ℕ → Type 0
Obeys force counts = IsPoint force.within counts

abbrev pub IsShown : Option ℕ → ℕ → Type 0
IsShown (Some bound) cost = bound ≤ cost
IsShown None cost = ⊥

abbrev pub at_root : Problem → List PinNo → Option ℕ → InForce
at_root problem sites below = record { within = root_box problem sites; below = below }

abbrev pub in_lower : VarNo → ℕ → InForce → InForce
in_lower var at force = record { within = lower_half var at force.within; below = force.below }

abbrev pub in_upper : VarNo → ℕ → InForce → InForce
in_upper var at force = record { within = upper_half var at force.within; below = force.below }
