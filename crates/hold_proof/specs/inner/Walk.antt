-- box_at lows highs: the box of these lows and highs.
-- waiting lows highs turns: the boxes that wait, after the one of these lows and highs, once one has been to the lower trees of some
--   splits; of the turns the last one comes first.
-- boxes_of walk: the box where one stands and those that wait, and none at the end.
-- AreTurns vars turns: the turns are of variables that are there.
-- IsWalk costs vars walk: the box of the walk has so many variables, the turns are of these, and the cost is that of the lows.
use Rattle.std.specs.Prelude.{◌≡◌, ℕ, ◌<◌, length, Bool, true, false, List, [], ◌∷◌, reverse, slice_set}
use Rattle.std.specs.List.{AllByRecursion}
use Rattle.hold_graph.specs.Sites.{cost_of}
use Rattle.hold_graph.specs.declared.boxed.Boxed.{Boxed}
use Rattle.hold_proof.specs.declared.walk.Turn.{Turn}
use Rattle.hold_proof.specs.declared.walk.Turn.TheVariants.{Lower, Upper}
use Rattle.hold_proof.specs.declared.walk.Walk.{Walk}

abbrev pub box_at : List ℕ → List ℕ → Boxed
box_at lows highs = record { low = lows; high = highs }

abbrev pub waiting : List ℕ → List ℕ → List Turn → List Boxed
waiting lows highs [] = []
waiting lows highs (Lower var low high ∷ turns) =
    box_at (slice_set lows var.0 low) (slice_set highs var.0 high) ∷ waiting lows (slice_set highs var.0 high) turns
waiting lows highs (Upper var low ∷ turns) = waiting (slice_set lows var.0 low) highs turns

abbrev pub boxes_when : Bool → List ℕ → List ℕ → List Turn → List Boxed
boxes_when true lows highs turns = []
boxes_when false lows highs turns = box_at lows highs ∷ waiting lows highs turns

abbrev pub boxes_of : Walk → List Boxed
boxes_of walk = boxes_when walk.ended walk.low.items walk.high.items (reverse walk.turns.items)

abbrev pub turn_var : Turn → ℕ
turn_var (Lower var low high) = var.0
turn_var (Upper var low) = var.0

abbrev pub AreTurns : ℕ → List Turn → Type 0
AreTurns vars turns = AllByRecursion (λ turn. turn_var turn < vars) turns

pub record IsWalk (costs : List ℕ) (vars : ℕ) (walk : Walk) : Type 0 where
  pub low_each : length walk.low.items ≡ vars
  pub high_each : length walk.high.items ≡ vars
  pub turns : AreTurns vars (reverse walk.turns.items)
  pub cost : walk.cost ≡ cost_of costs walk.low.items
