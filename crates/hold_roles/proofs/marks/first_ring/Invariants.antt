use Rattle.std.proofs.Common.{◌<◌, ℕ}
use Rattle.hold_roles.specs.declared.marks.Mark.TheVariants.{Ring}
use Rattle.hold_roles.specs.inner.Marks.{IsAt}
use Rattle.hold_roles.proofs.marks.first_ring.Given as goal

-- no ring before the place
abbrev pub invariant-loop-place : goal.invariant-loop-place
invariant-loop-place l = (m : ℕ) → m < l.place → IsAt l.marks m Ring → ⊥
