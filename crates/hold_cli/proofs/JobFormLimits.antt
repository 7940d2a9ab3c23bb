-- All that a job says of time keeps the limits.
use Rattle.std.proofs.Common.{◌≡◌, ℕ, ℤ, List, [], ◌∷◌, Bool, true, false, cond, Option, Some, None, All, T, pos, neg_ℤ, ◌≤ℤ◌, int_le, codes, bytes_eq, refl, ap, sym, ◌∙◌, subst, option_map}
use Rattle.std.specs.List.{AllByRecursion}
use Rattle.std.proofs.lemmas.Bool.{and_parts}
use Rattle.std.proofs.lemmas.List.Elements.{All-from_recursion}
use Rattle.std.proofs.lemmas.Option.{same_Some}
use Rattle.std.specs.Int.Signed.{le_z_yes}
use Rattle.hold_base.proofs.Bools.{cond-Some}
use Rattle.hold_base.specs.declared.time.Interval.{Interval}
use Rattle.hold_graph.specs.Problem.{IsSpan, IsWithin}
use Rattle.hold_base.specs.Limits.{time_limit}
use Rattle.toml.specs.Data.{Data, Items, no_items, item, Members, get_member, as_array, as_table, as_integer}
use Rattle.hold_plain.specs.declared.cell.Cell.{Cell}
use Rattle.hold_plain.specs.declared.cell.CellArc.{CellArc}
use Rattle.hold_plain.specs.declared.cell.CellCheck.{CellCheck}
use Rattle.hold_plain.specs.declared.cell.Role.TheVariants.{Comb, Register}
use Rattle.hold_plain.specs.declared.timing.Clock.{Clock}
use Rattle.hold_plain.specs.declared.timing.Timing.{Timing}
use Rattle.hold_plain.specs.Limits.{IsCheckInLimit, IfKnown, KeepsCellLimits, KeepsLimits}
use Rattle.hold_cli.specs.declared.job_form.Job.{Job}
use Rattle.hold_cli.specs.JobForm.{job_of, job_values, keeps_files, timing_of}
use Rattle.hold_cli.specs.JobFormKeys.{◌>>=◌, kept, has_only, keys_of, text_at, integer_at, array_at, only_item, each_of, each_at, items_or_none}
use Rattle.hold_cli.specs.declared.job_form.key.JobTable.TheVariants.{Job as JobTable, Comb as CombTable, Register as RegisterTable, Arc as ArcTable, Check as CheckTable, Clock as ClockTable}
use Rattle.hold_cli.specs.JobFormNames.{name_of, name_at, file_name_at, corner_name_at}
use Rattle.hold_cli.specs.JobFormTimes.{is_time, time_of, is_in_order, span_between, span_in_pair, span_of, span_at, known_span, span_if_any, time_at, is_period, period_at}
use Rattle.hold_cli.specs.JobFormCells.{arc_in, arc_of, check_in, check_of, comb_in, register_in, cell_as, is_whole, cell_in, cell_of, are_cells, cells_at}
use Rattle.hold_cli.specs.JobFormClocks.{clock_in, clock_of, have_different_insts, clocks_at}
use Rattle.hold_cli.proofs.JobFormKept.{kept_passes, kept_came}

-- what led to a value
through : {A B : Type 0} {P : Type 0} (o : Option A) (f : A → Option B) (b : B) → (o >>= f) ≡ Some b → ((a : A) → f a ≡ Some b → P) → P
through (Some a) f b e then = then a e
through None f b e then = cc

in_order : (a b : ℤ) → int_le a b ≡ true → a ≤ℤ b
in_order a b e = le_z_yes (subst T (sym e) tt)

time_within : (z : ℤ) → is_time z ≡ true → IsWithin time_limit z
time_within z e =
    let (low, high) = and_parts (int_le (neg_ℤ (pos time_limit)) z) (int_le z (pos time_limit)) e in
    record { low = in_order (neg_ℤ (pos time_limit)) z low; high = in_order z (pos time_limit) high }

time_of_within : (d : Data) (z : ℤ) → time_of d ≡ Some z → IsWithin time_limit z
time_of_within d z e = time_within z (kept_passes is_time (as_integer d) z e)

record AreEnds (first second : Data) (span : Interval) : Type 0 where
  least : time_of first ≡ Some span.least
  greatest : time_of second ≡ Some span.greatest
  ordered : is_in_order span ≡ true

ends_from : (first second : Data) (a b : Option ℤ) (span : Interval) → time_of first ≡ a → time_of second ≡ b
    → (a >>= λ least. b >>= λ greatest. kept is_in_order (Some (record { least = least; greatest = greatest }))) ≡ Some span → AreEnds first second span
ends_from first second None b span one two e = cc
ends_from first second (Some a) None span one two e = cc
ends_from first second (Some a) (Some b) span one two e =
    let made : Interval = record { least = a; greatest = b } in
    let same : made ≡ span = same_Some made span (kept_came is_in_order (Some made) span e) in
    record {
      least = one ∙ ap (λ (s : Interval). Some s.least) same;
      greatest = two ∙ ap (λ (s : Interval). Some s.greatest) same;
      ordered = kept_passes is_in_order (Some made) span e;
    }

between_span : (first second : Data) (span : Interval) → span_between first second ≡ Some span → IsSpan time_limit span
unfolding span_between
between_span first second span e =
    let ends : AreEnds first second span = ends_from first second (time_of first) (time_of second) span refl refl e in
    record {
      ordered = in_order span.least span.greatest ends.ordered;
      least = time_of_within first span.least ends.least;
      greatest = time_of_within second span.greatest ends.greatest;
    }

pair_span : (pair : Items) (span : Interval) → span_in_pair pair ≡ Some span → IsSpan time_limit span
pair_span no_items span e = cc
pair_span (item a no_items) span e = cc
pair_span (item a (item b no_items)) span e = between_span a b span e
pair_span (item a (item b (item c ds))) span e = cc

span_of_span : (d : Data) (span : Interval) → span_of d ≡ Some span → IsSpan time_limit span
unfolding span_of
span_of_span d span e =
    through (as_array d) (λ spans. only_item spans >>= λ only. as_array only >>= span_in_pair) span e
    (λ spans e1. through (only_item spans) (λ only. as_array only >>= span_in_pair) span e1
    (λ only e2. through (as_array only) span_in_pair span e2 (λ pair e3. pair_span pair span e3)))

span_at_span : (key : List ℕ) (ms : Members) (span : Interval) → span_at key ms ≡ Some span → IsSpan time_limit span
span_at_span key ms span e = through (get_member key ms) span_of span e (λ d e1. span_of_span d span e1)

known_span_span : (d : Data) (o : Option Interval) (found : Option Interval) → span_of d ≡ o → option_map Some o ≡ Some found → IfKnown (IsSpan time_limit) found
known_span_span d None found is e = cc
known_span_span d (Some span) None is e = tt
known_span_span d (Some span) (Some other) is e =
    let same : Some span ≡ Some other = same_Some (Some span) (Some other) e in
    span_of_span d other (is ∙ same)

span_if_any_span : (o : Option Data) (found : Option Interval) → known_span o ≡ Some found → IfKnown (IsSpan time_limit) found
span_if_any_span None None e = tt
span_if_any_span None (Some span) e = cc
span_if_any_span (Some d) found e = known_span_span d (span_of d) found refl e

time_at_within : (key : List ℕ) (ms : Members) (z : ℤ) → time_at key ms ≡ Some z → IsWithin time_limit z
unfolding time_at
time_at_within key ms z e =
    through (array_at key ms) (λ values. only_item values >>= time_of) z e
    (λ values e1. through (only_item values) time_of z e1 (λ only e2. time_of_within only z e2))

-- what holds of all that a reader gives holds of each of a list that was read by it
each_holds : {A : Type 0} (P : A → Type 0) (read : Data → Option A) → ((d : Data) (x : A) → read d ≡ Some x → P x)
    → (ds : Items) (xs : List A) → each_of read ds ≡ Some xs → AllByRecursion P xs
each_holds P read holds no_items xs e = subst (AllByRecursion P) (same_Some [] xs e) tt
each_holds {A} P read holds (item d ds) xs e = by (read d) (each_of read ds) refl refl (each_holds P read holds ds) e
  where
    by : (o : Option A) (os : Option (List A)) → read d ≡ o → each_of read ds ≡ os → ((ys : List A) → each_of read ds ≡ Some ys → AllByRecursion P ys)
        → (o >>= λ x. os >>= λ ys. Some (x ∷ ys)) ≡ Some xs → AllByRecursion P xs
    by None os one rest later e = cc
    by (Some x) None one rest later e = cc
    by (Some x) (Some ys) one rest later e = subst (AllByRecursion P) (same_Some (x ∷ ys) xs e) (holds d x one, later ys rest)

each_at_all : {A : Type 0} (P : A → Type 0) (read : Data → Option A) → ((d : Data) (x : A) → read d ≡ Some x → P x)
    → (key : List ℕ) (ms : Members) (xs : List A) → each_at read key ms ≡ Some xs → All P xs
each_at_all P read holds key ms xs e =
    through (items_or_none (get_member key ms)) (each_of read) xs e (λ ds e1. All-from_recursion P xs (each_holds P read holds ds xs e1))

arc_span_from : (from to : Option (List ℕ)) (span : Option Interval) (arc : CellArc)
    → (from >>= λ f. to >>= λ t. span >>= λ s. Some (record { from = f; to = t; span = s })) ≡ Some arc → span ≡ Some arc.span
arc_span_from None to span arc e = cc
arc_span_from (Some f) None span arc e = cc
arc_span_from (Some f) (Some t) None arc e = cc
arc_span_from (Some f) (Some t) (Some s) arc e = ap (λ (o : Option CellArc). o >>= λ a. Some a.span) e

arc_limits : (d : Data) (arc : CellArc) → arc_of d ≡ Some arc → IsSpan time_limit arc.span
unfolding arc_in
arc_limits d arc e =
    through (as_table d) (λ ms. cond (has_only (keys_of ArcTable) ms) (arc_in ms) None) arc e
    (λ ms e1. span_at_span (codes "spans") ms arc.span
    (arc_span_from (name_at (codes "from") ms) (name_at (codes "to") ms) (span_at (codes "spans") ms) arc
    (cond-Some (has_only (keys_of ArcTable) ms) (arc_in ms) arc e1)))

record AreCheckTimes (setup hold : Option ℤ) (entry : CellCheck) : Type 0 where
  setup_is : setup ≡ Some entry.check.setup
  hold_is : hold ≡ Some entry.check.hold

check_times_from : (pin : Option (List ℕ)) (setup hold : Option ℤ) (entry : CellCheck)
    → (pin >>= λ p. setup >>= λ s. hold >>= λ h. Some (record { pin = p; check = record { setup = s; hold = h } })) ≡ Some entry → AreCheckTimes setup hold entry
check_times_from None setup hold entry e = cc
check_times_from (Some p) None hold entry e = cc
check_times_from (Some p) (Some s) None entry e = cc
check_times_from (Some p) (Some s) (Some h) entry e = record {
  setup_is = ap (λ (o : Option CellCheck). o >>= λ c. Some c.check.setup) e;
  hold_is = ap (λ (o : Option CellCheck). o >>= λ c. Some c.check.hold) e;
}

check_limits : (d : Data) (entry : CellCheck) → check_of d ≡ Some entry → IsCheckInLimit entry.check
unfolding check_in
check_limits d entry e =
    through (as_table d) (λ ms. cond (has_only (keys_of CheckTable) ms) (check_in ms) None) entry e
    (λ ms e1.
    let times : AreCheckTimes (time_at (codes "setup") ms) (time_at (codes "hold") ms) entry =
    check_times_from (name_at (codes "pin") ms) (time_at (codes "setup") ms) (time_at (codes "hold") ms) entry
    (cond-Some (has_only (keys_of CheckTable) ms) (check_in ms) entry e1) in
    record {
      setup = time_at_within (codes "setup") ms entry.check.setup times.setup_is;
      hold = time_at_within (codes "hold") ms entry.check.hold times.hold_is;
    })

record AreCombLists (arcs : Option (List CellArc)) (cell : Cell) : Type 0 where
  arcs_are : arcs ≡ Some cell.arcs
  checks_are : [] ≡ cell.checks

comb_from : (name : Option (List ℕ)) (inputs outputs : Option (List (List ℕ))) (arcs : Option (List CellArc)) (cell : Cell)
    → (name >>= λ n. inputs >>= λ i. outputs >>= λ o. arcs >>= λ a.
    Some (record { name = n; role = Comb; inputs = i; clock = None; outputs = o; arcs = a; checks = [] })) ≡ Some cell → AreCombLists arcs cell
comb_from None inputs outputs arcs cell e = cc
comb_from (Some n) None outputs arcs cell e = cc
comb_from (Some n) (Some i) None arcs cell e = cc
comb_from (Some n) (Some i) (Some o) None cell e = cc
comb_from (Some n) (Some i) (Some o) (Some a) cell e =
    let made : Cell = record { name = n; role = Comb; inputs = i; clock = None; outputs = o; arcs = a; checks = [] } in
    let same : made ≡ cell = same_Some made cell e in
    record { arcs_are = ap (λ (c : Cell). Some c.arcs) same; checks_are = ap (λ (c : Cell). c.checks) same }

comb_limits : (ms : Members) (cell : Cell) → comb_in ms ≡ Some cell → KeepsCellLimits cell
unfolding comb_in
comb_limits ms cell e =
    let lists : AreCombLists (each_at arc_of (codes "arcs") ms) cell =
    comb_from (name_at (codes "name") ms) (each_at name_of (codes "inputs") ms) (each_at name_of (codes "outputs") ms) (each_at arc_of (codes "arcs") ms) cell e in
    record {
      arcs = each_at_all (λ (arc : CellArc). IsSpan time_limit arc.span) arc_of arc_limits (codes "arcs") ms cell.arcs lists.arcs_are;
      checks = subst (All (λ (entry : CellCheck). IsCheckInLimit entry.check)) lists.checks_are
          (All-from_recursion (λ (entry : CellCheck). IsCheckInLimit entry.check) [] tt);
    }

record AreRegisterLists (arcs : Option (List CellArc)) (checks : Option (List CellCheck)) (cell : Cell) : Type 0 where
  arcs_are : arcs ≡ Some cell.arcs
  checks_are : checks ≡ Some cell.checks

register_from : (name clock : Option (List ℕ)) (inputs outputs : Option (List (List ℕ))) (arcs : Option (List CellArc)) (checks : Option (List CellCheck)) (cell : Cell)
    → (name >>= λ n. clock >>= λ k. inputs >>= λ i. outputs >>= λ o. arcs >>= λ a. checks >>= λ c.
    Some (record { name = n; role = Register; inputs = i; clock = Some k; outputs = o; arcs = a; checks = c })) ≡ Some cell → AreRegisterLists arcs checks cell
register_from None clock inputs outputs arcs checks cell e = cc
register_from (Some n) None inputs outputs arcs checks cell e = cc
register_from (Some n) (Some k) None outputs arcs checks cell e = cc
register_from (Some n) (Some k) (Some i) None arcs checks cell e = cc
register_from (Some n) (Some k) (Some i) (Some o) None checks cell e = cc
register_from (Some n) (Some k) (Some i) (Some o) (Some a) None cell e = cc
register_from (Some n) (Some k) (Some i) (Some o) (Some a) (Some c) cell e =
    let made : Cell = record { name = n; role = Register; inputs = i; clock = Some k; outputs = o; arcs = a; checks = c } in
    let same : made ≡ cell = same_Some made cell e in
    record { arcs_are = ap (λ (x : Cell). Some x.arcs) same; checks_are = ap (λ (x : Cell). Some x.checks) same }

register_limits : (ms : Members) (cell : Cell) → register_in ms ≡ Some cell → KeepsCellLimits cell
unfolding register_in
register_limits ms cell e =
    let lists : AreRegisterLists (each_at arc_of (codes "arcs") ms) (each_at check_of (codes "checks") ms) cell =
    register_from (name_at (codes "name") ms) (name_at (codes "clock") ms) (each_at name_of (codes "data") ms) (each_at name_of (codes "outputs") ms)
    (each_at arc_of (codes "arcs") ms) (each_at check_of (codes "checks") ms) cell e in
    record {
      arcs = each_at_all (λ (arc : CellArc). IsSpan time_limit arc.span) arc_of arc_limits (codes "arcs") ms cell.arcs lists.arcs_are;
      checks = each_at_all (λ (entry : CellCheck). IsCheckInLimit entry.check) check_of check_limits (codes "checks") ms cell.checks lists.checks_are;
    }

-- by the role: what either reader gives keeps the limits
by_role : (comb comb_keys register register_keys : Bool) (one other : Option Cell) (cell : Cell) → (one ≡ Some cell → KeepsCellLimits cell) → (other ≡ Some cell → KeepsCellLimits cell)
    → cond comb (cond comb_keys one None) (cond register (cond register_keys other None) None) ≡ Some cell → KeepsCellLimits cell
by_role true true register register_keys one other cell first second e = first e
by_role true false register register_keys one other cell first second e = cc
by_role false comb_keys true true one other cell first second e = second e
by_role false comb_keys true false one other cell first second e = cc
by_role false comb_keys false register_keys one other cell first second e = cc

cell_as_limits : (role : List ℕ) (ms : Members) (cell : Cell) → cell_as role ms ≡ Some cell → KeepsCellLimits cell
cell_as_limits role ms cell e =
    by_role (bytes_eq role (codes "comb")) (has_only (keys_of CombTable) ms) (bytes_eq role (codes "register")) (has_only (keys_of RegisterTable) ms)
    (comb_in ms) (register_in ms) cell (comb_limits ms cell) (register_limits ms cell) e

cell_limits : (d : Data) (cell : Cell) → cell_of d ≡ Some cell → KeepsCellLimits cell
cell_limits d cell e =
    through (as_table d) cell_in cell e
    (λ ms e1. through (text_at (codes "role") ms) (λ role. cell_as role ms) cell
    (kept_came is_whole (text_at (codes "role") ms >>= λ role. cell_as role ms) cell e1)
    (λ role e2. cell_as_limits role ms cell e2))

clock_arrival_from : (inst : Option (List ℕ)) (arrival : Option Interval) (clock : Clock)
    → (inst >>= λ i. arrival >>= λ a. Some (record { inst = i; arrival = a })) ≡ Some clock → arrival ≡ Some clock.arrival
clock_arrival_from None arrival clock e = cc
clock_arrival_from (Some i) None clock e = cc
clock_arrival_from (Some i) (Some a) clock e = ap (λ (o : Option Clock). o >>= λ c. Some c.arrival) e

clock_limits : (d : Data) (clock : Clock) → clock_of d ≡ Some clock → IsSpan time_limit clock.arrival
unfolding clock_in
clock_limits d clock e =
    through (as_table d) (λ ms. cond (has_only (keys_of ClockTable) ms) (clock_in ms) None) clock e
    (λ ms e1. span_at_span (codes "arrivals") ms clock.arrival
    (clock_arrival_from (name_at (codes "inst") ms) (span_at (codes "arrivals") ms) clock
    (cond-Some (has_only (keys_of ClockTable) ms) (clock_in ms) clock e1)))

record AreTimingParts (period : Option ℤ) (arrival : Option (Option Interval)) (cells : Option (List Cell)) (clocks : Option (List Clock)) (timing : Timing) : Type 0 where
  period_is : period ≡ Some timing.period
  arrival_is : arrival ≡ Some timing.arrival
  cells_are : cells ≡ Some timing.cells
  clocks_are : clocks ≡ Some timing.clocks

timing_from : (period : Option ℤ) (arrival : Option (Option Interval)) (cells : Option (List Cell)) (clocks : Option (List Clock)) (timing : Timing)
    → (period >>= λ p. arrival >>= λ a. cells >>= λ c. clocks >>= λ k. Some (record { period = p; arrival = a; cells = c; clocks = k })) ≡ Some timing
    → AreTimingParts period arrival cells clocks timing
timing_from None arrival cells clocks timing e = cc
timing_from (Some p) None cells clocks timing e = cc
timing_from (Some p) (Some a) None clocks timing e = cc
timing_from (Some p) (Some a) (Some c) None timing e = cc
timing_from (Some p) (Some a) (Some c) (Some k) timing e =
    let made : Timing = record { period = p; arrival = a; cells = c; clocks = k } in
    let same : made ≡ timing = same_Some made timing e in
    record {
      period_is = ap (λ (t : Timing). Some t.period) same;
      arrival_is = ap (λ (t : Timing). Some t.arrival) same;
      cells_are = ap (λ (t : Timing). Some t.cells) same;
      clocks_are = ap (λ (t : Timing). Some t.clocks) same;
    }

timing_limits : (ms : Members) (timing : Timing) → timing_of ms ≡ Some timing → KeepsLimits timing
unfolding timing_of
timing_limits ms timing e =
    let parts : AreTimingParts (period_at ms) (span_if_any (codes "arrival") ms) (cells_at ms) (clocks_at ms) timing =
    timing_from (period_at ms) (span_if_any (codes "arrival") ms) (cells_at ms) (clocks_at ms) timing e in
    let (low, high) = and_parts (int_le (pos 1) timing.period) (int_le timing.period (pos time_limit))
    (kept_passes is_period (integer_at (codes "period") ms) timing.period parts.period_is) in
    record {
      period_least = in_order (pos 1) timing.period low;
      period_greatest = in_order timing.period (pos time_limit) high;
      arrival = span_if_any_span (get_member (codes "arrival") ms) timing.arrival parts.arrival_is;
      cells = each_at_all KeepsCellLimits cell_of cell_limits (codes "type") ms timing.cells
          (kept_came are_cells (each_at cell_of (codes "type") ms) timing.cells parts.cells_are);
      clocks = each_at_all (λ (clock : Clock). IsSpan time_limit clock.arrival) clock_of clock_limits (codes "clock") ms timing.clocks
          (kept_came have_different_insts (each_at clock_of (codes "clock") ms) timing.clocks parts.clocks_are);
    }

job_timing_from : (netlist output certificate corner : Option (List ℕ)) (timing : Option Timing) (job : Job)
    → (netlist >>= λ n. output >>= λ o. certificate >>= λ c. corner >>= λ k. timing >>= λ t.
    Some (record { netlist = n; output = o; certificate = c; corner = k; timing = t })) ≡ Some job → timing ≡ Some job.timing
job_timing_from None output certificate corner timing job e = cc
job_timing_from (Some n) None certificate corner timing job e = cc
job_timing_from (Some n) (Some o) None corner timing job e = cc
job_timing_from (Some n) (Some o) (Some c) None timing job e = cc
job_timing_from (Some n) (Some o) (Some c) (Some k) None job e = cc
job_timing_from (Some n) (Some o) (Some c) (Some k) (Some t) job e = ap (λ (o : Option Job). o >>= λ j. Some j.timing) e

values_limits : (ms : Members) (job : Job) → job_values ms ≡ Some job → KeepsLimits job.timing
unfolding job_values
values_limits ms job e =
    timing_limits ms job.timing
    (job_timing_from (file_name_at (codes "netlist") ms) (file_name_at (codes "output") ms) (file_name_at (codes "certificate") ms) (corner_name_at ms) (timing_of ms) job e)

pub job_keeps_limits : (ms : Members) (own : List ℕ) (job : Job) → job_of ms own ≡ Some job → KeepsLimits job.timing
job_keeps_limits ms own job e =
    values_limits ms job
    (kept_came (keeps_files own) (job_values ms) job (cond-Some (has_only (keys_of JobTable) ms) (kept (keeps_files own) (job_values ms)) job e))
