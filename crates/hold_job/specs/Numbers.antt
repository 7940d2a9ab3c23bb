-- Whole numbers and times in a job. Times are in fs.
--
-- number least most: the form of a whole number from least to most, both at least 0.
-- earliest: the least time, -10^10; the greatest is 10^10.
-- time least: the form of a time that is at least so much.
-- span least: the form of a list of two times, of which the first is at least so much and at most the second.
-- spans least corners: the form of a list of one such span for each of so many corners.
-- values corners: the form of a list of one time for each corner.
use Rattle.std.specs.Prelude.{ℕ, ℤ, pos, negsuc, neg_ℤ, int_le, List, [], codes, ◌&&◌, nat_le, Err}
use Rattle.toml.specs.Data.{Data, Items, no_items, item, as_integer}
use Rattle.hold_base.specs.Limits.{time_limit}
use Rattle.hold_base.specs.declared.time.Interval.{Interval}
use Rattle.hold_job.specs.declared.fault.JobFault.TheVariants.{Range}
use Rattle.hold_job.specs.Outcome.{Outcome, ◌>>=◌, of_kind, in_rule, at}
use Rattle.hold_job.specs.Keys.{Form}
use Rattle.hold_job.specs.Lists.{list_of, every_within}

abbrev pub from_to : ℕ → ℕ → ℤ → Outcome ℕ
from_to least most (pos n) = in_rule (λ m. nat_le least m && nat_le m most) n
from_to least most (negsuc n) = Err (Range [])

abbrev pub number : ℕ → ℕ → Form ℕ
number least most d = of_kind (as_integer d) >>= from_to least most

abbrev pub earliest : ℤ
earliest = neg_ℤ (pos time_limit)

abbrev pub time : ℤ → Form ℤ
time least d = of_kind (as_integer d) >>= in_rule (λ z. int_le least z && int_le z (pos time_limit))

unfoldable pub span_between : ℤ → Data → Data → Outcome Interval
span_between least first second = do
  low ← at (codes "0") (time least first)
  high ← at (codes "1") (time earliest second)
  in_rule (λ s. int_le s.least s.greatest) (record { least = low; greatest = high })

abbrev pub span_of_two : ℤ → Items → Outcome Interval
span_of_two least (item first (item second no_items)) = span_between least first second
span_of_two least _ = Err (Range [])

abbrev pub span : ℤ → Form Interval
span least d = list_of d >>= span_of_two least

abbrev pub spans : ℤ → ℕ → Form (List Interval)
spans least corners = every_within corners corners (span least)

abbrev pub values : ℕ → Form (List ℤ)
values corners = every_within corners corners (time earliest)
