-- The entries of an SDF text, or its first fault.
--
-- Scene: what holds in a cell: the instance that it names, None for the design itself, the divider of paths and the power of ten
--     of the unit. scene_of s inst: that of a cell under these settings.
-- Answer: entries in the order of the text, or the first fault among them. Groups are judged in the order of their opening places, so
--     a group's own fault goes before those of the groups within it.
-- and_then r next: what comes next of the result, or its fault. joined a b: the entries of both, or the first fault.
-- each judge items: what the groups give that the items begin with. each_by judge g rest: the same of the first and the rest.
--
-- times power numbers: the times of these atoms at that scale; the fault at the first that has none. with_time time at rest: the
--     time and the rest, or the fault at this place.
-- span_of found: the hull of times; None of none. spanned power numbers: the hull of these atoms' times. greatest_of span: its
--     greatest end. latest power numbers: the greatest end of the hull of a value's times, where there is such a value.
--
-- path_in divider bytes: the pin that an atom names: an instance and its pin, cut at the last divider that no backslash made plain, or
--     without such a divider a port. path_at cut bytes: the same by the place of that divider.
-- arc_entries scene blamed at path, wire_entries scene at path: the entry of an IOPATH, of an INTERCONNECT, that opens at `at`; the
--     fault at `blamed`, or at `at`, where it has another shape.
-- unless_retained word blamed answer: the answer, or that the word is left out.
-- iopath_entries scene blamed right g: the entry of an IOPATH. A RETAIN in it is left out, which goes before its shape; `right` says
--     whether what stands around it has the right shape.
-- group_last item: the group that the last item is. conditional_entries scene right g: the entry of a COND or CONDELSE, whose last item
--     is the IOPATH and which takes the blame for it; conditional_by: the same by that item.
-- check_entry scene at check: the entry of a check.
-- path_entries, check_entries, delay_entries, timing_entries scene g: those of a group in ABSOLUTE, in TIMINGCHECK, in DELAY, in a
--     cell; path_by, check_by, delay_by, timing_by: the same by what its keyword makes it.
-- inner_entries judge g: those of a group of which nothing but its keyword and groups is asked.
-- cell_entries s g: those of a group behind the file's headers, which has to be a cell. An `(INSTANCE *)` among its own groups is
--     left out, which goes before its shape. cell_by: the same by the instance.
-- file_entries g: those of the file's group. only_group g: those of a text of that one group; of_groups pieces text: of a text whose
--     pieces are these.
-- entries_of text: those of a text: of its one group, if it is one whole group and nothing else.
use Rattle.std.specs.Prelude.{ℕ, ◌+◌, Bool, true, not, ◌&&◌, if◌then◌else◌, List, [], ◌∷◌, ◌++◌, take, drop, Option, Some, None, option_map, Result, Ok, Err, ℤ, codes}
use Rattle.hold_base.specs.declared.time.Interval.{Interval}
use Rattle.hold_base.specs.Interval.{hull_of}
use Rattle.hold_sdflex.specs.Backslashes.{plain, last_bare}
use Rattle.hold_sdflex.specs.Groups.{group_of as group_of_text}
use Rattle.hold_sdflex.specs.Items.{Word, Group, Item, items_in, first_group, group_of, behind, tokens_of}
use Rattle.hold_sdflex.specs.declared.piece.Piece.{Piece}
use Rattle.hold_sdf.specs.declared.entry.Entry.{Entry}
use Rattle.hold_sdf.specs.declared.entry.Entry.TheVariants.{Cell, Wire, Check as CheckEntry}
use Rattle.hold_sdf.specs.declared.entry.PinPath.{PinPath}
use Rattle.hold_sdf.specs.declared.fault.SdfFault.{SdfFault}
use Rattle.hold_sdf.specs.declared.fault.SdfFault.TheVariants.{Syntax, LeftOut, Number}
use Rattle.hold_sdf.specs.declared.keyword.TimingKind.{TimingKind}
use Rattle.hold_sdf.specs.declared.keyword.TimingKind.TheVariants.{Delay, TimingCheck, ReadPast as TimingPast, Other as NoTiming}
use Rattle.hold_sdf.specs.declared.keyword.DelayKind.{DelayKind}
use Rattle.hold_sdf.specs.declared.keyword.DelayKind.TheVariants.{Absolute, ReadPast as DelayPast, LeftOut as DelayLeftOut, Other as NoDelay}
use Rattle.hold_sdf.specs.declared.keyword.PathKind.{PathKind}
use Rattle.hold_sdf.specs.declared.keyword.PathKind.TheVariants.{IoPath as IoPathKind, Cond, CondElse, Interconnect, LeftOut as PathLeftOut, Other as NoPath}
use Rattle.hold_sdf.specs.declared.keyword.CheckKind.{CheckKind}
use Rattle.hold_sdf.specs.declared.keyword.CheckKind.TheVariants.{Setup, Hold, SetupHold, ReadPast as CheckPast, Other as NoCheck}
use Rattle.hold_sdf.specs.Times.{time_of}
use Rattle.hold_sdf.specs.Keywords.{is_word, timing_kind, delay_kind, path_kind, check_kind, file_words, cell_words, path_words}
use Rattle.hold_sdf.specs.Shapes.{keyword_in, is_empty, are_groups, last_of, IoPath, iopath_of, wire_of, retain_among, Check, check_of, has_star, head_of}
use Rattle.hold_sdf.specs.Settings.{Settings, settings_of, nothing_set, divider_of, unit_of}

pub record Scene : Type 0 where
  pub inst : Option (List ℕ)
  pub divider : ℕ
  pub power : ℕ

abbrev pub Answer : Type 0
Answer = Result (List Entry) SdfFault

abbrev pub and_then : {X Y : Type 0} → Result X SdfFault → (X → Result Y SdfFault) → Result Y SdfFault
and_then (Ok x) next = next x
and_then (Err fault) next = Err fault

abbrev pub joined : Answer → Answer → Answer
joined a b = and_then a (λ first. and_then b (λ rest. Ok (first ++ rest)))

abbrev pub each_by : (Group → Answer) → Option Group → Answer → Answer
each_by judge None rest = Ok []
each_by judge (Some g) rest = joined (judge g) rest

abbrev pub each : (Group → Answer) → List Item → Answer
each judge [] = Ok []
each judge (item ∷ rest) = each_by judge (group_of item) (each judge rest)

abbrev pub with_time : Option Interval → ℕ → Result (List Interval) SdfFault → Result (List Interval) SdfFault
with_time None at rest = Err (Number at)
with_time (Some time) at rest = and_then rest (λ more. Ok (time ∷ more))

abbrev pub times : ℕ → List Word → Result (List Interval) SdfFault
times power [] = Ok []
times power (w ∷ rest) = with_time (time_of power w.bytes) w.at (times power rest)

abbrev pub span_of : List Interval → Option Interval
span_of [] = None
span_of (time ∷ rest) = Some (hull_of (time ∷ rest))

unfoldable pub spanned : ℕ → List Word → Result (Option Interval) SdfFault
spanned power numbers = and_then (times power numbers) (λ found. Ok (span_of found))

abbrev pub path_at : Option ℕ → List ℕ → PinPath
path_at None bytes = record { inst = None; pin = plain bytes }
path_at (Some cut) bytes = record { inst = Some (plain (take cut bytes)); pin = plain (drop (cut + 1) bytes) }

unfoldable pub path_in : ℕ → List ℕ → PinPath
path_in divider bytes = path_at (last_bare divider bytes) bytes

abbrev pub arc_entries : Scene → ℕ → ℕ → Option IoPath → Answer
arc_entries scene blamed at None = Err (Syntax blamed)
arc_entries scene blamed at (Some path) =
    and_then (spanned scene.power path.numbers) (λ span. Ok (Cell at scene.inst (plain path.from.bytes) (plain path.to.bytes) span ∷ []))

abbrev pub wire_entries : Scene → ℕ → Option IoPath → Answer
wire_entries scene at None = Err (Syntax at)
wire_entries scene at (Some path) =
    and_then (spanned scene.power path.numbers) (λ span. Ok (Wire at scene.inst (path_in scene.divider path.from.bytes) (path_in scene.divider path.to.bytes) span ∷ []))

abbrev pub unless_retained : Option (List ℕ) → ℕ → Answer → Answer
unless_retained None blamed answer = answer
unless_retained (Some word) blamed answer = Err (LeftOut word blamed)

unfoldable pub iopath_entries : Scene → ℕ → Bool → Group → Answer
iopath_entries scene blamed right g =
    unless_retained (retain_among (items_in g.inner)) blamed (if right then arc_entries scene blamed g.at (iopath_of (items_in g.inner)) else Err (Syntax blamed))

abbrev pub group_last : Option Item → Option Group
group_last None = None
group_last (Some item) = group_of item

abbrev pub conditional_by : Scene → ℕ → Bool → Option Group → Answer
conditional_by scene blamed right None = Err (Syntax blamed)
conditional_by scene blamed right (Some g) = if is_word path_words (keyword_in g) then iopath_entries scene blamed right g else Err (Syntax blamed)

unfoldable pub conditional_entries : Scene → Bool → Group → Answer
conditional_entries scene right g = conditional_by scene g.at right (group_last (last_of (items_in g.inner)))

abbrev pub path_by : PathKind → Scene → Group → Answer
path_by IoPathKind scene g = iopath_entries scene g.at true g
path_by Cond scene g = conditional_entries scene true g
path_by CondElse scene g = conditional_entries scene (is_empty (behind (behind (items_in g.inner)))) g
path_by Interconnect scene g = wire_entries scene g.at (wire_of (items_in g.inner))
path_by PathLeftOut scene g = Err (LeftOut (keyword_in g) g.at)
path_by NoPath scene g = Err (Syntax g.at)

unfoldable pub path_entries : Scene → Group → Answer
path_entries scene g = path_by (path_kind (keyword_in g)) scene g

abbrev pub greatest_of : Option Interval → Option ℤ
greatest_of span = option_map (λ i. i.greatest) span

abbrev pub latest : ℕ → Option (List Word) → Result (Option ℤ) SdfFault
latest power None = Ok None
latest power (Some numbers) = and_then (spanned power numbers) (λ span. Ok (greatest_of span))

abbrev pub check_entry : Scene → ℕ → Option Check → Answer
check_entry scene at None = Err (Syntax at)
check_entry scene at (Some check) =
    and_then (latest scene.power check.setup) (λ setup. and_then (latest scene.power check.hold) (λ hold.
    Ok (CheckEntry at scene.inst (plain check.data_pin.bytes) (plain check.clock_pin.bytes) setup hold ∷ [])))

abbrev pub check_by : CheckKind → Scene → Group → Answer
check_by Setup scene g = check_entry scene g.at (check_of Setup (items_in g.inner))
check_by Hold scene g = check_entry scene g.at (check_of Hold (items_in g.inner))
check_by SetupHold scene g = check_entry scene g.at (check_of SetupHold (items_in g.inner))
check_by CheckPast scene g = Ok []
check_by NoCheck scene g = Err (Syntax g.at)

unfoldable pub check_entries : Scene → Group → Answer
check_entries scene g = check_by (check_kind (keyword_in g)) scene g

unfoldable pub inner_entries : (Group → Answer) → Group → Answer
inner_entries judge g = if are_groups (behind (items_in g.inner)) then each judge (behind (items_in g.inner)) else Err (Syntax g.at)

abbrev pub delay_by : DelayKind → Scene → Group → Answer
delay_by Absolute scene g = inner_entries (path_entries scene) g
delay_by DelayPast scene g = Ok []
delay_by DelayLeftOut scene g = Err (LeftOut (keyword_in g) g.at)
delay_by NoDelay scene g = Err (Syntax g.at)

unfoldable pub delay_entries : Scene → Group → Answer
delay_entries scene g = delay_by (delay_kind (keyword_in g)) scene g

abbrev pub timing_by : TimingKind → Scene → Group → Answer
timing_by Delay scene g = inner_entries (delay_entries scene) g
timing_by TimingCheck scene g = inner_entries (check_entries scene) g
timing_by TimingPast scene g = Ok []
timing_by NoTiming scene g = Err (Syntax g.at)

unfoldable pub timing_entries : Scene → Group → Answer
timing_entries scene g = timing_by (timing_kind (keyword_in g)) scene g

abbrev pub scene_of : Settings → Option Word → Scene
scene_of s inst = record { inst = option_map (λ w. plain w.bytes) inst; divider = divider_of s; power = unit_of s }

abbrev pub cell_by : Settings → ℕ → Option (Option Word) → List Item → Answer
cell_by s at None timings = Err (Syntax at)
cell_by s at (Some inst) timings = each (timing_entries (scene_of s inst)) timings

unfoldable pub cell_entries : Settings → Group → Answer
cell_entries s g =
    if not (is_word cell_words (keyword_in g)) then Err (Syntax g.at)
    else if has_star (items_in g.inner) then Err (LeftOut (codes "*") g.at)
    else cell_by s g.at (head_of (items_in g.inner)) (behind (behind (behind (items_in g.inner))))

unfoldable pub file_entries : Group → Answer
file_entries g =
    if is_word file_words (keyword_in g) && are_groups (behind (items_in g.inner)) then
    and_then (settings_of nothing_set (behind (items_in g.inner))) (λ read. each (cell_entries read.0) read.1)
    else Err (Syntax g.at)

-- a text that is one group has that one item
abbrev pub only_group : Option Group → Answer
only_group None = Err (Syntax 0)
only_group (Some g) = file_entries g

abbrev pub of_groups : Result (List Piece) ℕ → List ℕ → Answer
of_groups (Ok pieces) text = only_group (first_group (items_in (tokens_of text pieces)))
of_groups (Err at) text = Err (Syntax at)

unfoldable pub entries_of : List ℕ → Answer
entries_of text = of_groups (group_of_text text) text
