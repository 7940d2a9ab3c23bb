-- A job that a text gives keeps the rules.
use Rattle.std.proofs.Common.{◌≡◌, ℕ, pos, ◌≤ℤ◌, ◌≤◌, List, [], ◌∷◌, length, map, All, IfSome, Some, codes, sym, ◌∙◌, subst, arith, inl, inr}
use Rattle.std.specs.Prelude.{Ok, Err, flat_map}
use Rattle.std.specs.List.{AllByRecursion}
use Rattle.std.specs.Int.Signed.{≤ℤ_refl}
use Rattle.std.proofs.lemmas.Int.{ints}
use Rattle.std.proofs.lemmas.List.Elements.{All-from_recursion}
use Rattle.hold_base.specs.Limits.{time_limit, chain_limit, types_limit, kinds_limit, corners_limit, cost_limit}
use Rattle.hold_base.specs.declared.time.Interval.{Interval}
use Rattle.hold_base.proofs.Lists.{AllByRecursion-weaken, AllByRecursion-map, AllByRecursion-flat_map}
use Rattle.hold_netlist.specs.declared.kind.Kind.{Kind}
use Rattle.hold_roles.specs.Types.{type_names, type_named}
use Rattle.toml.specs.Data.{Members}
use Rattle.hold_job.specs.declared.cell_times.TypeArc.{TypeArc}
use Rattle.hold_job.specs.declared.cell_times.TypeCheck.{TypeCheck}
use Rattle.hold_job.specs.declared.listed_type.ListedType.{ListedType}
use Rattle.hold_job.specs.declared.inst_times.Clock.{Clock}
use Rattle.hold_job.specs.declared.job.Job.{Job}
use Rattle.hold_job.specs.declared.files.Files.{Files}
use Rattle.hold_job.specs.declared.settings.Settings.{Settings}
use Rattle.hold_job.specs.declared.listing.Listing.{Listing}
use Rattle.hold_job.specs.Limits.{nodes_limit, searchers_limit, order_limit, usual_chain, usual_nodes, usual_searchers, usual_order}
use Rattle.hold_job.specs.Outcome.{Outcome}
use Rattle.hold_job.specs.Keys.{known, required, or_else, if_any}
use Rattle.hold_job.specs.Lists.{every, every_within}
use Rattle.hold_job.specs.Numbers.{number, earliest, spans}
use Rattle.hold_job.specs.CellTypes.{type_of}
use Rattle.hold_job.specs.Entries.{corners_of, kind_of, clock_of, keep_of}
use Rattle.hold_job.specs.Doubles.{no_doubles}
use Rattle.hold_job.specs.FileNames.{kept_apart}
use Rattle.hold_job.specs.Job.{job_keys, job_in, at_top, Gives}
use Rattle.hold_job.specs.inner.Listed.{cells_in}
use Rattle.hold_job.specs.inner.Parts.{files_in, settings_in, listing_in, job_from, job_by_parts}
use Rattle.hold_job.proofs.Once.{led_on}
use Rattle.hold_job.proofs.PartLemmas.{job_by_parts_is}
use Rattle.hold_job.specs.Rules.{IsInRange, AreSpans, AreValues, KeepsTypeRules, IsArcIn, IsCheckIn, IsKindIn, KeepsNumbers, KeepsLengths, KeepsTimes, KeepsNames, KeepsOnce, KeepsRules, arc_key, check_key}
use Rattle.hold_job.proofs.FormLemmas.{same_Ok, required_Ok, or_else_Ok, if_any_Ok, every_Ok, every_within_Ok, IsListWithin, number_Ok, spans_Ok}
use Rattle.hold_job.proofs.DifferLemmas.{Differ-once}
use Rattle.hold_job.proofs.TypeRules.{IsListedArc, IsListedCheck, KeepsListedRules, type_of_Ok}
use Rattle.hold_job.proofs.EntryRules.{corners_of_Ok, IsListedKind, kind_of_Ok, clock_of_Ok}
use Rattle.hold_job.proofs.OnceRules.{AllDiffer, all_differ, type_named_at, each_named}

record SettingsKeep (s : Settings) : Type 0 where
  pub period_least : pos 1 ≤ℤ s.period
  pub period_most : s.period ≤ℤ pos time_limit
  pub max_chain : s.max_chain ≤ chain_limit
  pub nodes : IsInRange 1 nodes_limit s.nodes
  pub searchers : IsInRange 1 searchers_limit s.searchers
  pub order : s.order ≤ order_limit

usually : (least most usual n : ℕ) (key : List ℕ) (ms : Members) → IsInRange least most usual → or_else usual (number least most) key ms ≡ Ok n → IsInRange least most n
usually least most usual n key ms fits e = or_else_Ok (number least most) (IsInRange least most) (number_Ok least most) usual fits key ms n e

settings_Ok : (ms : Members) (s : Settings) → settings_in ms ≡ Ok s → SettingsKeep s
unfolding settings_in
settings_Ok ms s e =
    let (period, one, rest) = led_on (required (number 1 time_limit) (codes "period") ms) _ s e in
    let (max_chain, two, rest2) = led_on (or_else usual_chain (number 0 chain_limit) (codes "max_chain") ms) _ s rest in
    let (nodes, three, rest3) = led_on (or_else usual_nodes (number 1 nodes_limit) (codes "nodes") ms) _ s rest2 in
    let (searchers, four, rest4) = led_on (or_else usual_searchers (number 1 searchers_limit) (codes "searchers") ms) _ s rest3 in
    let (order, five, is) = led_on (or_else usual_order (number 0 order_limit) (codes "order") ms) _ s rest4 in
    let made : Settings = record { period = pos period; max_chain = max_chain; nodes = nodes; searchers = searchers; order = order } in
    let range = required_Ok (number 1 time_limit) (IsInRange 1 time_limit) (number_Ok 1 time_limit) (codes "period") ms period one in
    let low = range.low in
    let high = range.high in
    let chain = usually 0 chain_limit usual_chain max_chain (codes "max_chain") ms (record { low = omega arith; high = omega arith }) two in
    let drawn = usually 0 order_limit usual_order order (codes "order") ms (record { low = omega arith; high = omega arith }) five in
    subst SettingsKeep (same_Ok made s is) (record {
      period_least = omega (arith, ints, low);
      period_most = omega (arith, ints, high);
      max_chain = chain.high;
      nodes = usually 1 nodes_limit usual_nodes nodes (codes "nodes") ms (record { low = omega arith; high = omega arith }) three;
      searchers = usually 1 searchers_limit usual_searchers searchers (codes "searchers") ms (record { low = omega arith; high = omega arith }) four;
      order = drawn.high;
    })

record ListingKeep (l : Listing) : Type 0 where
  pub corners : IsInRange 1 corners_limit (length l.corners)
  pub arrival : IfSome l.arrival (λ spans. AreSpans (length l.corners) spans)
  pub types : AllByRecursion (KeepsListedRules (length l.corners)) l.types
  pub kind_count : length l.kinds ≤ kinds_limit
  pub kinds : AllByRecursion (IsListedKind (length l.corners) (cells_in l.types)) l.kinds
  pub clocks : AllByRecursion (λ clock. AreSpans (length l.corners) clock.arrivals) l.clocks

arrival_Ok : (n : ℕ) (ms : Members) → (o : _) → if_any (spans earliest n) (codes "arrival") ms ≡ Ok o → IfSome o (λ spans. AreSpans n spans)
arrival_Ok n ms o e = if_any_Ok (spans earliest n) (λ xs. AreSpans n xs) (λ d xs given. (spans_Ok earliest (≤ℤ_refl earliest) n d xs given).are_spans) (codes "arrival") ms o e

listing_Ok : (ms : Members) (l : Listing) → listing_in ms ≡ Ok l → ListingKeep l
unfolding listing_in
listing_Ok ms l e =
    let (corners, one, rest) = led_on (required corners_of (codes "corner") ms) _ l e in
    let (arrival, two, rest2) = led_on (if_any (spans earliest (length corners)) (codes "arrival") ms) _ l rest in
    let (types, three, rest3) = led_on (or_else [] (every_within 0 types_limit (type_of (length corners))) (codes "type") ms) _ l rest2 in
    let (kinds, four, rest4) = led_on (or_else [] (every_within 0 kinds_limit (kind_of (length corners) (map (λ (t : ListedType). t.cell) types))) (codes "kind") ms) _ l rest3 in
    let (clocks, five, rest5) = led_on (or_else [] (every (clock_of (length corners))) (codes "clock") ms) _ l rest4 in
    let (keeps, six, is) = led_on (or_else [] (every keep_of) (codes "keep") ms) _ l rest5 in
    let n = length corners in
    let made : Listing = record { corners = corners; arrival = arrival; types = types; kinds = kinds; clocks = clocks; keeps = keeps } in
    let typed = or_else_Ok (every_within 0 types_limit (type_of n)) (IsListWithin 0 types_limit (KeepsListedRules n))
    (every_within_Ok 0 types_limit (type_of n) (KeepsListedRules n) (type_of_Ok n)) []
    (record { count = record { low = omega arith; high = omega arith }; all = tt }) (codes "type") ms types three in
    let buffers = or_else_Ok (every_within 0 kinds_limit (kind_of n (cells_in types))) (IsListWithin 0 kinds_limit (IsListedKind n (cells_in types)))
    (every_within_Ok 0 kinds_limit (kind_of n (cells_in types)) (IsListedKind n (cells_in types)) (kind_of_Ok n (cells_in types))) []
    (record { count = record { low = omega arith; high = omega arith }; all = tt }) (codes "kind") ms kinds four in
    subst ListingKeep (same_Ok made l is) (record {
      corners = required_Ok corners_of (λ cs. IsInRange 1 corners_limit (length cs)) corners_of_Ok (codes "corner") ms corners one;
      arrival = arrival_Ok n ms arrival two;
      types = typed.all;
      kind_count = buffers.count.high;
      kinds = buffers.all;
      clocks = or_else_Ok (every (clock_of n)) (AllByRecursion (λ c. AreSpans n c.arrivals)) (every_Ok (clock_of n) (λ c. AreSpans n c.arrivals) (clock_of_Ok n)) [] tt
          (codes "clock") ms clocks five;
    })

both : {A : Type 0} (P Q : A → Type 0) (xs : List A) → AllByRecursion P xs → AllByRecursion Q xs → AllByRecursion (λ x. P x × Q x) xs
both P Q [] h g = tt
both P Q (x ∷ xs) h g = ((h.0, g.0), both P Q xs h.1 g.1)

-- what holds of each arc or check of each type holds of all of them in one list
each_part : {A : Type 0} (Q : ListedType → Type 0) (P : A → Type 0) (parts : ListedType → List A) → ((t : ListedType) → Q t → AllByRecursion P (parts t))
    → (types : List ListedType) → AllByRecursion Q types → All P (flat_map parts types)
each_part Q P parts gives types all = All-from_recursion P (flat_map parts types) (AllByRecursion-flat_map Q P parts gives types all)

each_kind : {A : Type 0} (Q P : A → Type 0) → ((x : A) → Q x → P x) → (xs : List A) → AllByRecursion Q xs → All P xs
each_kind Q P gives xs all = All-from_recursion P xs (AllByRecursion-weaken Q P gives xs all)

module _ (f : Files) (s : Settings) (l : Listing) (set : SettingsKeep s) (list : ListingKeep l) (differ : AllDiffer l.types l.kinds l.clocks) where
  n : ℕ
  n = length l.corners

  numbers : KeepsNumbers (job_from f s l)
  numbers = record {
    period_least = set.period_least;
    period_most = set.period_most;
    max_chain = set.max_chain;
    nodes = set.nodes;
    searchers = set.searchers;
    order = set.order;
    costs = each_kind (IsListedKind (length l.corners) (cells_in l.types)) (λ k. IsInRange 1 cost_limit k.cost) (λ k h. h.cost) l.kinds list.kinds;
  }

  lengths : KeepsLengths (job_from f s l)
  lengths = record { corners = list.corners; kinds = list.kind_count }

  times : KeepsTimes (job_from f s l)
  times = record {
    arcs = each_part (KeepsListedRules (length l.corners)) (λ (a : TypeArc). AreSpans (length l.corners) a.spans) (λ t. t.arcs)
        (λ t h. AllByRecursion-weaken (IsListedArc (length l.corners) t.cell) (λ a. AreSpans (length l.corners) a.spans) (λ a i. i.spans) t.arcs h.arcs) l.types list.types;
    setups = each_part (KeepsListedRules (length l.corners)) (λ (c : TypeCheck). AreValues (length l.corners) c.setup) (λ t. t.checks)
        (λ t h. AllByRecursion-weaken (IsListedCheck (length l.corners) t.cell) (λ c. AreValues (length l.corners) c.setup) (λ c i. i.setup) t.checks h.checks) l.types list.types;
    holds = each_part (KeepsListedRules (length l.corners)) (λ (c : TypeCheck). AreValues (length l.corners) c.hold) (λ t. t.checks)
        (λ t h. AllByRecursion-weaken (IsListedCheck (length l.corners) t.cell) (λ c. AreValues (length l.corners) c.hold) (λ c i. i.hold) t.checks h.checks) l.types list.types;
    kinds = each_kind (IsListedKind (length l.corners) (cells_in l.types)) (λ k. AreSpans (length l.corners) k.spans) (λ k h. h.spans.are_spans) l.kinds list.kinds;
    kinds_least = each_kind (IsListedKind (length l.corners) (cells_in l.types)) (λ k. All (λ (span : Interval). pos 0 ≤ℤ span.least) k.spans) (λ k h. h.spans.low) l.kinds list.kinds;
    arrival = list.arrival;
    clocks = All-from_recursion (λ (c : Clock). AreSpans (length l.corners) c.arrivals) l.clocks list.clocks;
  }

  known_types : AllByRecursion (λ t. KeepsListedRules (length l.corners) t × (type_named t.cell.name (cells_in l.types) ≡ Some t.cell)) l.types
  known_types = both (KeepsListedRules (length l.corners)) (λ t. type_named t.cell.name (cells_in l.types) ≡ Some t.cell) l.types list.types (each_named l.types differ.by_name)

  arc_in : (t : ListedType) → KeepsListedRules (length l.corners) t × (type_named t.cell.name (cells_in l.types) ≡ Some t.cell) → AllByRecursion (IsArcIn (cells_in l.types)) t.arcs
  arc_in t h = AllByRecursion-weaken (IsListedArc (length l.corners) t.cell) (IsArcIn (cells_in l.types)) (λ a i. record {
    cell = t.cell;
    named = subst (λ name. type_named name (cells_in l.types) ≡ Some t.cell) (sym i.named) h.1;
    from = i.from;
    to = i.to;
  }) t.arcs h.0.arcs

  check_in : (t : ListedType) → KeepsListedRules (length l.corners) t × (type_named t.cell.name (cells_in l.types) ≡ Some t.cell) → AllByRecursion (IsCheckIn (cells_in l.types)) t.checks
  check_in t h = AllByRecursion-weaken (IsListedCheck (length l.corners) t.cell) (IsCheckIn (cells_in l.types)) (λ c i. record {
    cell = t.cell;
    named = subst (λ name. type_named name (cells_in l.types) ≡ Some t.cell) (sym i.named) h.1;
    role = i.role;
    pin = i.pin;
  }) t.checks h.0.checks

  names : KeepsNames (job_from f s l)
  names = record {
    types = All-from_recursion KeepsTypeRules (cells_in l.types) (AllByRecursion-map KeepsTypeRules (λ (t : ListedType). t.cell) l.types
        (AllByRecursion-weaken (KeepsListedRules (length l.corners)) (λ t. KeepsTypeRules t.cell) (λ t h. h.cell) l.types list.types));
    arcs = each_part (λ t. KeepsListedRules (length l.corners) t × (type_named t.cell.name (cells_in l.types) ≡ Some t.cell)) (IsArcIn (cells_in l.types)) (λ t. t.arcs) arc_in l.types known_types;
    checks = each_part (λ t. KeepsListedRules (length l.corners) t × (type_named t.cell.name (cells_in l.types) ≡ Some t.cell)) (IsCheckIn (cells_in l.types)) (λ t. t.checks) check_in l.types known_types;
    kinds = each_kind (IsListedKind (length l.corners) (cells_in l.types)) (IsKindIn (cells_in l.types)) (λ k h. record {
      cell = h.cell;
      named = subst (λ name. type_named name (cells_in l.types) ≡ Some h.cell) (sym h.named) (type_named_at (cells_in l.types) h.place h.cell differ.by_name h.at);
      role = h.role;
      input = h.input;
      output = h.output;
    }) l.kinds list.kinds;
  }

  once : KeepsOnce (job_from f s l)
  once = record {
    types = Differ-once (type_names (cells_in l.types)) differ.by_name;
    kinds = Differ-once (map (λ (k : Kind). k.cell) l.kinds) differ.by_type;
    clocks = Differ-once (map (λ (c : Clock). c.inst) l.clocks) differ.by_inst;
    arcs = Differ-once (map arc_key (flat_map (λ (t : ListedType). t.arcs) l.types)) differ.by_ends;
    checks = Differ-once (map check_key (flat_map (λ (t : ListedType). t.checks) l.types)) differ.by_pin;
  }

  from_parts : KeepsRules (job_from f s l)
  from_parts = record { numbers = numbers; lengths = lengths; times = times; names = names; once = once }

pub by_parts_keep : (own : List ℕ) (ms : Members) (job : Job) → job_by_parts own ms ≡ Ok job → KeepsRules job
unfolding job_by_parts
by_parts_keep own ms job e =
    let (u, keys, rest) = led_on (known job_keys ms) _ job e in
    let (f, files, rest2) = led_on (files_in ms) _ job rest in
    let (s, numbers, rest3) = led_on (settings_in ms) _ job rest2 in
    let (l, lists, rest4) = led_on (listing_in ms) _ job rest3 in
    let (v, doubles, rest5) = led_on (no_doubles l.types l.kinds l.clocks) _ job rest4 in
    let (w, apart, is) = led_on (kept_apart own f.netlist f.output f.certificate f.plan l.corners) _ job rest5 in
    let list = listing_Ok ms l lists in
    subst KeepsRules (same_Ok (job_from f s l) job is)
    (from_parts f s l (settings_Ok ms s numbers) list (all_differ (length l.corners) l.types l.kinds l.clocks list.types doubles))

at_top_Ok : (o : Outcome Job) (job : Job) → at_top o ≡ Ok job → o ≡ Ok job
at_top_Ok (Ok given) job e = e
at_top_Ok (Err fault) job e = cc

pub given_keeps : (own text : List ℕ) (job : Job) → Gives own text (Ok job) → KeepsRules job
given_keeps own text job (inl (none, e)) = cc
given_keeps own text job (inr (tree, is, e)) = by_parts_keep own tree job (job_by_parts_is own tree ∙ at_top_Ok (job_in own tree) job (sym e))
