use Rattle.std.proofs.Common.{◌≡◌, ℕ, ◌<◌, get_or}
use Rattle.std.specs.Prelude.{Some}
use Rattle.hold_timing.specs.inner.Pass.{offer}
use Rattle.hold_timing.proofs.back.first_bringing.Given as goal

abbrev pub invariant-loop-place : goal.invariant-loop-place
invariant-loop-place l = (k : ℕ) → k < l.place-index → offer l.side l.arcs l.spans l.arrivals l.pad (get_or l.places k 0) ≡ Some l.time → ⊥
