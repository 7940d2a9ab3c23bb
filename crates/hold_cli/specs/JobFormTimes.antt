-- The times in a job, in fs. There is one corner, so each list of spans or values has exactly one item.
--
-- is_time z: whether it is at most 10^10 in magnitude; it may be below 0. time_of: the whole number that a value is, where it is
--   so. is_in_order span: whether its least end is at most its greatest.
-- span_of: the span that a list of spans gives: a list of one pair of times, of which the first is at most the second.
-- span_between first second, span_in_pair pair: the span of two values, and of a list of exactly two.
-- span_at: the span in the list of spans at a key.
-- known_span value: the span that a value gives; that there is none where there is no value.
-- span_if_any: the same where the key may be missing: then it gives that there is no span.
-- time_at: the time in the list of values at a key, which has one item.
-- is_period z: whether it is from 1 to 10^10.
-- period_at: the whole number at `period`, where it is from 1 to 10^10.
use Rattle.std.specs.Prelude.{ℕ, ℤ, pos, neg_ℤ, int_le, List, codes, Bool, ◌&&◌, Option, Some, None, option_map}
use Rattle.hold_base.specs.Limits.{time_limit}
use Rattle.hold_base.specs.declared.time.Interval.{Interval}
use Rattle.toml.specs.Data.{Data, Items, no_items, item, Members, get_member, as_integer, as_array}
use Rattle.hold_cli.specs.JobFormKeys.{◌>>=◌, kept, integer_at, array_at, only_item}

abbrev pub is_time : ℤ → Bool
is_time z = int_le (neg_ℤ (pos time_limit)) z && int_le z (pos time_limit)

abbrev pub time_of : Data → Option ℤ
time_of d = kept is_time (as_integer d)

abbrev pub is_in_order : Interval → Bool
is_in_order span = int_le span.least span.greatest

-- two times as a span
unfoldable pub span_between : Data → Data → Option Interval
span_between first second = do
  least ← time_of first
  greatest ← time_of second
  kept is_in_order (Some (record { least = least; greatest = greatest }))

abbrev pub span_in_pair : Items → Option Interval
span_in_pair (item first (item second no_items)) = span_between first second
span_in_pair _ = None

unfoldable pub span_of : Data → Option Interval
span_of d = do
  spans ← as_array d
  only ← only_item spans
  pair ← as_array only
  span_in_pair pair

abbrev pub span_at : List ℕ → Members → Option Interval
span_at key ms = get_member key ms >>= span_of

abbrev pub known_span : Option Data → Option (Option Interval)
known_span None = Some None
known_span (Some d) = option_map Some (span_of d)

abbrev pub span_if_any : List ℕ → Members → Option (Option Interval)
span_if_any key ms = known_span (get_member key ms)

unfoldable pub time_at : List ℕ → Members → Option ℤ
time_at key ms = do
  values ← array_at key ms
  only ← only_item values
  time_of only

abbrev pub is_period : ℤ → Bool
is_period z = int_le (pos 1) z && int_le z (pos time_limit)

abbrev pub period_at : Members → Option ℤ
period_at ms = kept is_period (integer_at (codes "period") ms)
