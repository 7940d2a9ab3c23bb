-- The times in the entries of a text are in range.
use Rattle.std.proofs.Common.{◌≡◌, ℕ, ◌≤◌, Bool, true, false, List, [], ◌∷◌, Option, Some, None, refl, sym, ap, ◌∙◌, subst, arith, cond}
use Rattle.std.specs.Prelude.{Result, Ok, Err, ℤ, IfSome, if◌then◌else◌, not, ◌&&◌, nat_le, int_lt}
use Rattle.std.specs.List.{AllByRecursion, fold}
use Rattle.std.proofs.lemmas.Int.{ints, int_min_is, int_max_is}
use Rattle.hold_base.specs.declared.time.Interval.{Interval}
use Rattle.hold_base.specs.Limits.{time_limit}
use Rattle.hold_base.specs.Interval.{IsOrdered, hull}
use Rattle.hold_base.proofs.Lists.{AllByRecursion-append}
use Rattle.hold_base.proofs.Options.{option_and_then-Some}
use Rattle.hold_sdflex.specs.declared.piece.Piece.{Piece}
use Rattle.hold_sdflex.specs.Groups.{group_of as group_of_text}
use Rattle.hold_sdflex.specs.Items.{Word, Token, Group, Item, items_in, first_group, group_of, behind, tokens_of}
use Rattle.hold_sdf.specs.declared.entry.Entry.{Entry}
use Rattle.hold_sdf.specs.declared.fault.SdfFault.{SdfFault}
use Rattle.hold_sdf.specs.declared.keyword.TimingKind.{TimingKind}
use Rattle.hold_sdf.specs.declared.keyword.TimingKind.TheVariants.{Delay, TimingCheck, ReadPast as TimingPast, Other as NoTiming}
use Rattle.hold_sdf.specs.declared.keyword.DelayKind.{DelayKind}
use Rattle.hold_sdf.specs.declared.keyword.DelayKind.TheVariants.{Absolute, ReadPast as DelayPast, LeftOut as DelayLeftOut, Other as NoDelay}
use Rattle.hold_sdf.specs.declared.keyword.PathKind.{PathKind}
use Rattle.hold_sdf.specs.declared.keyword.PathKind.TheVariants.{IoPath as IoPathKind, Cond, CondElse, Interconnect, LeftOut as PathLeftOut, Other as NoPath}
use Rattle.hold_sdf.specs.declared.keyword.CheckKind.{CheckKind}
use Rattle.hold_sdf.specs.declared.keyword.CheckKind.TheVariants.{Setup, Hold, SetupHold, ReadPast as CheckPast, Other as NoCheck}
use Rattle.hold_sdf.specs.Times.{numeral_of, magnitude_of, denominator_of, interval_of, numeral_time, time_of}
use Rattle.hold_sdf.specs.Keywords.{is_word, timing_kind, delay_kind, path_kind, check_kind, file_words, cell_words, path_words}
use Rattle.hold_sdf.specs.Shapes.{keyword_in, is_empty, are_groups, last_of, IoPath, iopath_of, wire_of, retain_among, Check, check_of, has_star, head_of}
use Rattle.hold_sdf.specs.Settings.{Settings, settings_of, nothing_set}
use Rattle.hold_sdf.specs.Entries.{Scene, Answer, and_then, joined, each_by, each, with_time, times, span_of, spanned, arc_entries, wire_entries, unless_retained, iopath_entries, group_last, conditional_by, conditional_entries, path_by, path_entries, greatest_of, latest, check_entry, check_by, check_entries, inner_entries, delay_by, delay_entries, timing_by, timing_entries, scene_of, cell_by, cell_entries, file_entries, only_group, of_groups, entries_of}
use Rattle.hold_sdf.specs.Range.{IsTimely, IsSpan, IsInRange}
use Rattle.hold_sdf.specs.inner.Adds.{after}
use Rattle.hold_sdf.proofs.AddLemmas.{nothing_ok}
use Rattle.hold_sdf.proofs.Numbers.{signed, floor-ceiling, time_of-IsTime}

-- what a number's text gives is a span
signed-ordered : (negative : Bool) (f c : ℕ) → f ≤ c → IsOrdered (signed negative f c)
signed-ordered true f c low = omega (arith, ints)
signed-ordered false f c low = omega (arith, ints)

interval_of-ordered : (negative : Bool) (f c : ℕ) (i : Interval) → f ≤ c → interval_of negative f c ≡ Some i → IsOrdered i
interval_of-ordered negative f c i low is = by_limit (nat_le c time_limit) is
  where
    by_limit : (t : Bool) → (if t then Some (signed negative f c) else None) ≡ Some i → IsOrdered i
    by_limit true e = let same : signed negative f c ≡ i = cc in subst IsOrdered same (signed-ordered negative f c low)
    by_limit false e = cc

time_of-span : (power : ℕ) (text : List ℕ) (i : Interval) → time_of power text ≡ Some i → IsSpan i
unfolding time_of
time_of-span power text i is =
    let time = time_of-IsTime text power i is in
    let found = option_and_then-Some (numeral_time power) (numeral_of text) i is in
    record {
      ordered = interval_of-ordered found.0.negative _ _ i (floor-ceiling (magnitude_of found.0 power) (denominator_of found.0)) found.2;
      least = time.least_within;
      greatest = time.greatest_within;
    }

-- a hull of spans is one
either : (P : ℤ → Type 0) (t : Bool) (x y : ℤ) → P x → P y → P (cond t x y)
either P true x y p q = p
either P false x y p q = q

hull-span : (a b : Interval) → IsSpan a → IsSpan b → IsSpan (hull a b)
hull-span a b p q = record {
  ordered = omega (arith, ints, p.ordered, q.ordered, int_min_is a.least b.least, int_max_is a.greatest b.greatest);
  least = either IsTimely (int_lt b.least a.least) b.least a.least q.least p.least;
  greatest = either IsTimely (int_lt b.greatest a.greatest) a.greatest b.greatest p.greatest q.greatest;
}

fold-span : (a : Interval) (rest : List Interval) → IsSpan a → AllByRecursion IsSpan rest → IsSpan (fold hull a rest)
fold-span a [] p all = p
fold-span a (b ∷ rest) p all = fold-span (hull a b) rest (hull-span a b p all.0) all.1

span_of-span : (found : List Interval) → AllByRecursion IsSpan found → IfSome (span_of found) IsSpan
span_of-span [] all = tt
span_of-span (a ∷ rest) all = fold-span a rest all.0 all.1

-- what a result of times holds
abbrev IfFound : {X : Type 0} → Result X SdfFault → (X → Type 0) → Type 0
IfFound (Ok x) P = P x
IfFound (Err fault) P = Unit {0}

times-spans : (power : ℕ) (numbers : List Word) → IfFound (times power numbers) (AllByRecursion IsSpan)
times-spans power [] = tt
times-spans power (w ∷ rest) = by_time (time_of power w.bytes) refl (times power rest) (times-spans power rest)
  where
    by_time : (o : Option Interval) → time_of power w.bytes ≡ o → (more : Result (List Interval) SdfFault) → IfFound more (AllByRecursion IsSpan) → IfFound (with_time o w.at more) (AllByRecursion IsSpan)
    by_time None is more all = tt
    by_time (Some i) is (Err fault) all = tt
    by_time (Some i) is (Ok found) all = (time_of-span power w.bytes i is, all)

spanned-span : (power : ℕ) (numbers : List Word) → IfFound (spanned power numbers) (λ span. IfSome span IsSpan)
unfolding spanned
spanned-span power numbers = by_times (times power numbers) (times-spans power numbers)
  where
    by_times : (r : Result (List Interval) SdfFault) → IfFound r (AllByRecursion IsSpan) → IfFound (and_then r (λ found. Ok (span_of found))) (λ span. IfSome span IsSpan)
    by_times (Err fault) all = tt
    by_times (Ok found) all = span_of-span found all

-- answers in range
abbrev InRange : Answer → Type 0
InRange answer = IfFound answer (AllByRecursion IsInRange)

and_then-range : {X : Type 0} (P : X → Type 0) (r : Result X SdfFault) (next : X → Answer) → IfFound r P → ((x : X) → P x → InRange (next x)) → InRange (and_then r next)
and_then-range P (Err fault) next p go = tt
and_then-range P (Ok x) next p go = go x p

if-range : (t : Bool) (a b : Answer) → InRange a → InRange b → InRange (if t then a else b)
if-range true a b p q = p
if-range false a b p q = q

joined-range : (a b : Answer) → InRange a → InRange b → InRange (joined a b)
joined-range (Err fault) b p q = tt
joined-range (Ok xs) (Err fault) p q = tt
joined-range (Ok xs) (Ok ys) p q = AllByRecursion-append IsInRange xs ys p q

each-range : (judge : Group → Answer) → ((g : Group) → InRange (judge g)) → (items : List Item) → InRange (each judge items)
each-range judge fine [] = tt
each-range judge fine (item ∷ rest) = by_group (group_of item) (each judge rest) (each-range judge fine rest)
  where
    by_group : (o : Option Group) (more : Answer) → InRange more → InRange (each_by judge o more)
    by_group None more p = tt
    by_group (Some g) more p = joined-range (judge g) more (fine g) p

arc-range : (scene : Scene) (blamed at : ℕ) (path : Option IoPath) → InRange (arc_entries scene blamed at path)
arc-range scene blamed at None = tt
arc-range scene blamed at (Some path) = and_then-range (λ span. IfSome span IsSpan) (spanned scene.power path.numbers) _ (spanned-span scene.power path.numbers) (λ span p. (p, tt))

wire-range : (scene : Scene) (at : ℕ) (path : Option IoPath) → InRange (wire_entries scene at path)
wire-range scene at None = tt
wire-range scene at (Some path) = and_then-range (λ span. IfSome span IsSpan) (spanned scene.power path.numbers) _ (spanned-span scene.power path.numbers) (λ span p. (p, tt))

iopath-range : (scene : Scene) (blamed : ℕ) (right : Bool) (g : Group) → InRange (iopath_entries scene blamed right g)
unfolding iopath_entries
iopath-range scene blamed right g = by_retain (retain_among (items_in g.inner)) _ (if-range right _ _ (arc-range scene blamed g.at (iopath_of (items_in g.inner))) tt)
  where
    by_retain : (o : Option (List ℕ)) (a : Answer) → InRange a → InRange (unless_retained o blamed a)
    by_retain None a p = p
    by_retain (Some word) a p = tt

conditional-range : (scene : Scene) (right : Bool) (g : Group) → InRange (conditional_entries scene right g)
unfolding conditional_entries
conditional-range scene right g = by_last (group_last (last_of (items_in g.inner)))
  where
    by_last : (o : Option Group) → InRange (conditional_by scene g.at right o)
    by_last None = tt
    by_last (Some h) = if-range (is_word path_words (keyword_in h)) _ _ (iopath-range scene g.at right h) tt

path-range : (scene : Scene) (g : Group) → InRange (path_entries scene g)
unfolding path_entries
path-range scene g = by_kind (path_kind (keyword_in g))
  where
    by_kind : (kind : PathKind) → InRange (path_by kind scene g)
    by_kind IoPathKind = iopath-range scene g.at true g
    by_kind Cond = conditional-range scene true g
    by_kind CondElse = conditional-range scene (is_empty (behind (behind (items_in g.inner)))) g
    by_kind Interconnect = wire-range scene g.at (wire_of (items_in g.inner))
    by_kind PathLeftOut = tt
    by_kind NoPath = tt

greatest-timely : (span : Option Interval) → IfSome span IsSpan → IfSome (greatest_of span) IsTimely
greatest-timely None p = tt
greatest-timely (Some i) p = p.greatest

latest-timely : (power : ℕ) (numbers : Option (List Word)) → IfFound (latest power numbers) (λ time. IfSome time IsTimely)
latest-timely power None = tt
latest-timely power (Some numbers) = by_span (spanned power numbers) (spanned-span power numbers)
  where
    by_span : (r : Result (Option Interval) SdfFault) → IfFound r (λ span. IfSome span IsSpan) → IfFound (and_then r (λ span. Ok (greatest_of span))) (λ time. IfSome time IsTimely)
    by_span (Err fault) p = tt
    by_span (Ok span) p = greatest-timely span p

check_entry-range : (scene : Scene) (at : ℕ) (check : Option Check) → InRange (check_entry scene at check)
check_entry-range scene at None = tt
check_entry-range scene at (Some check) =
    and_then-range (λ time. IfSome time IsTimely) (latest scene.power check.setup) _ (latest-timely scene.power check.setup) (λ setup p.
    and_then-range (λ time. IfSome time IsTimely) (latest scene.power check.hold) _ (latest-timely scene.power check.hold) (λ hold q. ((p, q), tt)))

check-range : (scene : Scene) (g : Group) → InRange (check_entries scene g)
unfolding check_entries
check-range scene g = by_kind (check_kind (keyword_in g))
  where
    by_kind : (kind : CheckKind) → InRange (check_by kind scene g)
    by_kind Setup = check_entry-range scene g.at (check_of Setup (items_in g.inner))
    by_kind Hold = check_entry-range scene g.at (check_of Hold (items_in g.inner))
    by_kind SetupHold = check_entry-range scene g.at (check_of SetupHold (items_in g.inner))
    by_kind CheckPast = tt
    by_kind NoCheck = tt

inner-range : (judge : Group → Answer) → ((g : Group) → InRange (judge g)) → (g : Group) → InRange (inner_entries judge g)
unfolding inner_entries
inner-range judge fine g = if-range (are_groups (behind (items_in g.inner))) _ _ (each-range judge fine (behind (items_in g.inner))) tt

delay-range : (scene : Scene) (g : Group) → InRange (delay_entries scene g)
unfolding delay_entries
delay-range scene g = by_kind (delay_kind (keyword_in g))
  where
    by_kind : (kind : DelayKind) → InRange (delay_by kind scene g)
    by_kind Absolute = inner-range (path_entries scene) (path-range scene) g
    by_kind DelayPast = tt
    by_kind DelayLeftOut = tt
    by_kind NoDelay = tt

timing-range : (scene : Scene) (g : Group) → InRange (timing_entries scene g)
unfolding timing_entries
timing-range scene g = by_kind (timing_kind (keyword_in g))
  where
    by_kind : (kind : TimingKind) → InRange (timing_by kind scene g)
    by_kind Delay = inner-range (delay_entries scene) (delay-range scene) g
    by_kind TimingCheck = inner-range (check_entries scene) (check-range scene) g
    by_kind TimingPast = tt
    by_kind NoTiming = tt

cell-range : (s : Settings) (g : Group) → InRange (cell_entries s g)
unfolding cell_entries
cell-range s g =
    if-range (not (is_word cell_words (keyword_in g))) _ _ tt
    (if-range (has_star (items_in g.inner)) _ _ tt (by_head (head_of (items_in g.inner))))
  where
    by_head : (o : Option (Option Word)) → InRange (cell_by s g.at o (behind (behind (behind (items_in g.inner)))))
    by_head None = tt
    by_head (Some inst) = each-range (timing_entries (scene_of s inst)) (timing-range (scene_of s inst)) (behind (behind (behind (items_in g.inner))))

file-range : (g : Group) → InRange (file_entries g)
unfolding file_entries
file-range g =
    if-range (is_word file_words (keyword_in g) && are_groups (behind (items_in g.inner))) _ _
    (by_settings (settings_of nothing_set (behind (items_in g.inner)))) tt
  where
    by_settings : (r : Result (Settings × List Item) SdfFault) → InRange (and_then r (λ read. each (cell_entries read.0) read.1))
    by_settings (Err fault) = tt
    by_settings (Ok read) = each-range (cell_entries read.0) (cell-range read.0) read.1

entries_of-range : (text : List ℕ) → InRange (entries_of text)
unfolding entries_of
entries_of-range text = by_groups (group_of_text text)
  where
    by_group : (o : Option Group) → InRange (only_group o)
    by_group None = tt
    by_group (Some g) = file-range g

    by_groups : (r : Result (List Piece) ℕ) → InRange (of_groups r text)
    by_groups (Err at) = tt
    by_groups (Ok pieces) = by_group (first_group (items_in (tokens_of text pieces)))

-- a text that is one group has the entries of its file
pub entries_of-file : (text : List ℕ) (pieces : List Piece) (ts : List Token) (g : Group) (front entries : List Entry) → group_of_text text ≡ Ok pieces → ts ≡ tokens_of text pieces → Some g ≡ first_group (items_in ts) →
    front ≡ [] → after front (file_entries g) ≡ Ok entries → entries_of text ≡ Ok entries
unfolding entries_of
entries_of-file text pieces ts g front entries groups tokens whole none is =
    ap (λ r. of_groups r text) groups ∙ ap (λ us. only_group (first_group (items_in us))) (sym tokens) ∙ ap only_group (sym whole)
    ∙ nothing_ok (file_entries g) entries (rw none at is)

-- the entries of a text are in range
pub entries_in_range : (text : List ℕ) (entries : List Entry) → entries_of text ≡ Ok entries → AllByRecursion IsInRange entries
entries_in_range text entries is = let all = entries_of-range text in rw is at all
