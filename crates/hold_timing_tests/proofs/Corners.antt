-- What is within the limit of times is within that of launches; a fact of each item and of one more.
use Rattle.std.proofs.Common.{◌≡◌, List, ◌++◌, ◌∷◌, [], arith, subst, sym}
use Rattle.std.specs.Prelude.{All}
use Rattle.std.proofs.lemmas.Int.{ints}
use Rattle.std.proofs.lemmas.List.Elements.{All-push, All-weaker}
use Rattle.hold_base.specs.Limits.{time_limit, launch_limit}
use Rattle.hold_base.specs.declared.time.Interval.{Interval}
use Rattle.hold_graph.specs.Problem.{IsSpan}

launch-span : (span : Interval) → IsSpan time_limit span → IsSpan launch_limit span
launch-span span fits = record {
  ordered = fits.ordered;
  least = record { low = omega (arith, ints); high = omega (arith, ints) };
  greatest = record { low = omega (arith, ints); high = omega (arith, ints) };
}

pub launch_spans : (spans : List Interval) → All (IsSpan time_limit) spans → All (IsSpan launch_limit) spans
launch_spans spans all = All-weaker (IsSpan time_limit) (IsSpan launch_limit) launch-span spans all

pub all_pushed : {A : Type 0} (P : A → Type 0) (xs ys : List A) (x : A) → ys ≡ xs ++ x ∷ [] → All P xs → P x → All P ys
all_pushed P xs ys x same all is = subst (All P) (sym same) (All-push P xs x all is)
