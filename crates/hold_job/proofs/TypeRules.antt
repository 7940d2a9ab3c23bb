-- What a type keeps that is read.
use Rattle.std.proofs.Common.{◌≡◌, ℕ, List, [], ◌∷◌, ◌++◌, Bool, true, false, not, ◌&&◌, bytes_eq, Some, None, codes, refl, ap, sym, ◌∙◌, subst}
use Rattle.std.specs.Prelude.{Ok, Contains}
use Rattle.std.specs.List.{AllByRecursion}
use Rattle.std.specs.Int.Signed.{≤ℤ_refl}
use Rattle.std.proofs.lemmas.Bool.{and_parts, not-true}
use Rattle.std.proofs.lemmas.List.{append-nil, append_assoc}
use Rattle.std.proofs.Math.Bool.{or-false}
use Rattle.hold_base.proofs.Bytes.{bytes_eq-same}
use Rattle.hold_base.proofs.Lists.{AllByRecursion-weaken}
use Rattle.hold_netlist.specs.Names.{is_among}
use Rattle.hold_roles.specs.declared.role.Role.{Role}
use Rattle.hold_roles.specs.declared.role.Role.TheVariants.{Comb, Register, Opaque}
use Rattle.hold_roles.specs.declared.role.CellType.{CellType}
use Rattle.toml.specs.Data.{Members, as_table}
use Rattle.hold_job.specs.declared.cell_times.TypeArc.{TypeArc}
use Rattle.hold_job.specs.declared.cell_times.TypeCheck.{TypeCheck}
use Rattle.hold_job.specs.declared.listed_type.ListedType.{ListedType}
use Rattle.hold_job.specs.Outcome.{of_kind, in_rule}
use Rattle.hold_job.specs.Keys.{table_of, known, required, or_else}
use Rattle.hold_job.specs.Lists.{list_of, in_turn, every}
use Rattle.hold_job.specs.Names.{text, name, is_name, new_name, one_of}
use Rattle.hold_job.specs.Numbers.{earliest, spans, values}
use Rattle.hold_job.specs.CellTypes.{role, role_in, type_keys, pin_names, arc_of, check_of, comb_in, register_in, opaque_in, type_in, type_of}
use Rattle.hold_job.proofs.Once.{led_on}
use Rattle.hold_job.specs.Rules.{AreSpans, AreValues, IsArcSource, KeepsTypeRules}
use Rattle.hold_job.proofs.FormLemmas.{Always, same_Ok, in_rule_Ok, required_Ok, or_else_Ok, in_turn_keeps, every_Ok, AreSpansFrom, spans_Ok, values_Ok, one_of_Ok, among_Contains}
use Rattle.hold_job.proofs.DifferLemmas.{Differ, Differ-once, Differ-push}

-- ---- pins

new_name_Ok : (taken : List (List ℕ)) → Always (new_name taken) (λ t. is_among t taken ≡ false)
new_name_Ok taken d t e =
    let test : List ℕ → Bool = λ u. is_name u && not (is_among u taken) in
    let (given, is_text, ruled) = led_on (text d) (in_rule test) t e in
    let (named, new) = and_parts (is_name t) (not (is_among t taken)) (in_rule_Ok test given t ruled).0 in
    not-true (is_among t taken) new

pin_names_Ok : (taken : List (List ℕ)) → Differ taken → Always (pin_names taken) (λ xs. Differ (taken ++ xs))
pin_names_Ok taken differ d xs e =
    let form = λ (so_far : List (List ℕ)). new_name (taken ++ so_far) in
    let (items, listed, read) = led_on (list_of d) (in_turn form []) xs e in
    in_turn_keeps form (λ ys. Differ (taken ++ ys))
    (λ so_far value x holds given. subst Differ (append_assoc taken so_far (x ∷ [])) (Differ-push (taken ++ so_far) x holds (new_name_Ok (taken ++ so_far) value x given)))
    items [] xs (subst Differ (sym (append-nil taken)) differ) read

-- pins that are read differ from those before them, and from one another
more_pins : (taken : List (List ℕ)) → Differ taken → (key : List ℕ) (ms : Members) (xs : List (List ℕ)) → or_else [] (pin_names taken) key ms ≡ Ok xs → Differ (taken ++ xs)
more_pins taken differ key ms xs e =
    or_else_Ok (pin_names taken) (λ ys. Differ (taken ++ ys)) (pin_names_Ok taken differ) [] (subst Differ (sym (append-nil taken)) differ) key ms xs e

-- ---- arcs and checks

record IsArcBetween (corners : ℕ) (kind : List ℕ) (sources outputs : List (List ℕ)) (arc : TypeArc) : Type 0 where
  pub named : arc.kind ≡ kind
  pub from : is_among arc.from sources ≡ true
  pub to : is_among arc.to outputs ≡ true
  pub spans : AreSpans corners arc.spans

arc_of_Ok : (corners : ℕ) (kind : List ℕ) (sources outputs : List (List ℕ)) → Always (arc_of corners kind sources outputs) (IsArcBetween corners kind sources outputs)
unfolding arc_of
arc_of_Ok corners kind sources outputs d arc e =
    let (ms, table, rest) = led_on (table_of (codes "from" ∷ codes "to" ∷ codes "spans" ∷ []) d) _ arc e in
    let (from, one, rest2) = led_on (required (one_of sources) (codes "from") ms) _ arc rest in
    let (to, two, rest3) = led_on (required (one_of outputs) (codes "to") ms) _ arc rest2 in
    let (delays, three, is) = led_on (required (spans earliest corners) (codes "spans") ms) _ arc rest3 in
    let made : TypeArc = record { kind = kind; from = from; to = to; spans = delays } in
    let read = required_Ok (spans earliest corners) (AreSpansFrom earliest corners) (spans_Ok earliest (≤ℤ_refl earliest) corners) (codes "spans") ms delays three in
    subst (IsArcBetween corners kind sources outputs) (same_Ok made arc is) (record {
      named = refl {a = kind};
      from = required_Ok (one_of sources) (λ t. is_among t sources ≡ true) (one_of_Ok sources) (codes "from") ms from one;
      to = required_Ok (one_of outputs) (λ t. is_among t outputs ≡ true) (one_of_Ok outputs) (codes "to") ms to two;
      spans = read.are_spans;
    })

record IsCheckAt (corners : ℕ) (kind : List ℕ) (pins : List (List ℕ)) (check : TypeCheck) : Type 0 where
  pub named : check.kind ≡ kind
  pub pin : Contains pins check.pin
  pub setup : AreValues corners check.setup
  pub hold : AreValues corners check.hold

check_of_Ok : (corners : ℕ) (kind : List ℕ) (pins : List (List ℕ)) → Always (check_of corners kind pins) (IsCheckAt corners kind pins)
unfolding check_of
check_of_Ok corners kind pins d check e =
    let (ms, table, rest) = led_on (table_of (codes "pin" ∷ codes "setup" ∷ codes "hold" ∷ []) d) _ check e in
    let (pin, one, rest2) = led_on (required (one_of pins) (codes "pin") ms) _ check rest in
    let (setup, two, rest3) = led_on (required (values corners) (codes "setup") ms) _ check rest2 in
    let (hold, three, is) = led_on (required (values corners) (codes "hold") ms) _ check rest3 in
    let made : TypeCheck = record { kind = kind; pin = pin; setup = setup; hold = hold } in
    subst (IsCheckAt corners kind pins) (same_Ok made check is) (record {
      named = refl {a = kind};
      pin = among_Contains pin pins (required_Ok (one_of pins) (λ t. is_among t pins ≡ true) (one_of_Ok pins) (codes "pin") ms pin one);
      setup = required_Ok (values corners) (AreValues corners) (values_Ok corners) (codes "setup") ms setup two;
      hold = required_Ok (values corners) (AreValues corners) (values_Ok corners) (codes "hold") ms hold three;
    })

-- ---- types

pub record IsListedArc (corners : ℕ) (cell : CellType) (arc : TypeArc) : Type 0 where
  pub named : arc.kind ≡ cell.name
  pub from : IsArcSource cell.role cell arc.from
  pub to : Contains cell.outputs arc.to
  pub spans : AreSpans corners arc.spans

pub record IsListedCheck (corners : ℕ) (cell : CellType) (check : TypeCheck) : Type 0 where
  pub named : check.kind ≡ cell.name
  pub role : cell.role ≡ Register
  pub pin : Contains cell.inputs check.pin
  pub setup : AreValues corners check.setup
  pub hold : AreValues corners check.hold

pub record KeepsListedRules (corners : ℕ) (t : ListedType) : Type 0 where
  pub cell : KeepsTypeRules t.cell
  pub arcs : AllByRecursion (IsListedArc corners t.cell) t.arcs
  pub checks : AllByRecursion (IsListedCheck corners t.cell) t.checks

comb_in_Ok : (corners : ℕ) (kind : List ℕ) (ms : Members) (t : ListedType) → comb_in corners kind ms ≡ Ok t → KeepsListedRules corners t
unfolding comb_in
comb_in_Ok corners kind ms t e =
    let (inputs, one, rest) = led_on (or_else [] (pin_names []) (codes "inputs") ms) _ t e in
    let (outputs, two, rest2) = led_on (or_else [] (pin_names inputs) (codes "outputs") ms) _ t rest in
    let (arcs, three, is) = led_on (or_else [] (every (arc_of corners kind inputs outputs)) (codes "arcs") ms) _ t rest2 in
    let cell : CellType = record { name = kind; role = Comb; inputs = inputs; clock = None; quiet = []; outputs = outputs } in
    let made : ListedType = record { cell = cell; arcs = arcs; checks = [] } in
    let differ : Differ (inputs ++ outputs) = more_pins inputs (more_pins [] tt (codes "inputs") ms inputs one) (codes "outputs") ms outputs two in
    let read = or_else_Ok (every (arc_of corners kind inputs outputs)) (AllByRecursion (IsArcBetween corners kind inputs outputs))
    (every_Ok (arc_of corners kind inputs outputs) (IsArcBetween corners kind inputs outputs) (arc_of_Ok corners kind inputs outputs)) [] tt (codes "arcs") ms arcs three in
    subst (KeepsListedRules corners) (same_Ok made t is) (record {
      cell = record { role = (refl {a = None}, refl {a = []}); pins = Differ-once (inputs ++ outputs) differ };
      arcs = AllByRecursion-weaken (IsArcBetween corners kind inputs outputs) (IsListedArc corners cell) (λ arc h. record {
        named = h.named;
        from = among_Contains arc.from inputs h.from;
        to = among_Contains arc.to outputs h.to;
        spans = h.spans;
      }) arcs read;
      checks = tt;
    })

the_clock : (t clock : List ℕ) → is_among t (clock ∷ []) ≡ true → Some clock ≡ Some t
the_clock t clock e = ap Some (sym (bytes_eq-same t clock (sym (or-false (bytes_eq t clock)) ∙ e)))

register_in_Ok : (corners : ℕ) (kind : List ℕ) (ms : Members) (t : ListedType) → register_in corners kind ms ≡ Ok t → KeepsListedRules corners t
unfolding register_in
register_in_Ok corners kind ms t e =
    let (clock, zero, rest) = led_on (required (new_name []) (codes "clock") ms) _ t e in
    let (checked, one, rest1) = led_on (or_else [] (pin_names (clock ∷ [])) (codes "data") ms) _ t rest in
    let (quiet, two, rest2) = led_on (or_else [] (pin_names (clock ∷ checked)) (codes "quiet") ms) _ t rest1 in
    let (outputs, three, rest3) = led_on (or_else [] (pin_names (clock ∷ checked ++ quiet)) (codes "outputs") ms) _ t rest2 in
    let (arcs, four, rest4) = led_on (or_else [] (every (arc_of corners kind (clock ∷ []) outputs)) (codes "arcs") ms) _ t rest3 in
    let (checks, five, is) = led_on (or_else [] (every (check_of corners kind checked)) (codes "checks") ms) _ t rest4 in
    let cell : CellType = record { name = kind; role = Register; inputs = checked; clock = Some clock; quiet = quiet; outputs = outputs } in
    let made : ListedType = record { cell = cell; arcs = arcs; checks = checks } in
    let with_data : Differ (clock ∷ checked) = more_pins (clock ∷ []) (tt, tt) (codes "data") ms checked one in
    let with_quiet : Differ (clock ∷ (checked ++ quiet)) = more_pins (clock ∷ checked) with_data (codes "quiet") ms quiet two in
    let with_outputs : Differ (clock ∷ (checked ++ quiet ++ outputs)) = more_pins (clock ∷ (checked ++ quiet)) with_quiet (codes "outputs") ms outputs three in
    let differ : Differ (clock ∷ (checked ++ (quiet ++ outputs))) = subst (λ ys. Differ (clock ∷ ys)) (append_assoc checked quiet outputs) with_outputs in
    let read = or_else_Ok (every (arc_of corners kind (clock ∷ []) outputs)) (AllByRecursion (IsArcBetween corners kind (clock ∷ []) outputs))
    (every_Ok (arc_of corners kind (clock ∷ []) outputs) (IsArcBetween corners kind (clock ∷ []) outputs) (arc_of_Ok corners kind (clock ∷ []) outputs))
    [] tt (codes "arcs") ms arcs four in
    let tested = or_else_Ok (every (check_of corners kind checked)) (AllByRecursion (IsCheckAt corners kind checked))
    (every_Ok (check_of corners kind checked) (IsCheckAt corners kind checked) (check_of_Ok corners kind checked)) [] tt (codes "checks") ms checks five in
    subst (KeepsListedRules corners) (same_Ok made t is) (record {
      cell = record { role = refl {a = true}; pins = Differ-once (clock ∷ (checked ++ (quiet ++ outputs))) differ };
      arcs = AllByRecursion-weaken (IsArcBetween corners kind (clock ∷ []) outputs) (IsListedArc corners cell) (λ arc h. record {
        named = h.named;
        from = the_clock arc.from clock h.from;
        to = among_Contains arc.to outputs h.to;
        spans = h.spans;
      }) arcs read;
      checks = AllByRecursion-weaken (IsCheckAt corners kind checked) (IsListedCheck corners cell) (λ check h. record {
        named = h.named;
        role = refl {a = Register};
        pin = h.pin;
        setup = h.setup;
        hold = h.hold;
      }) checks tested;
    })

opaque_in_Ok : (corners : ℕ) (kind : List ℕ) (ms : Members) (t : ListedType) → opaque_in kind ms ≡ Ok t → KeepsListedRules corners t
unfolding opaque_in
opaque_in_Ok corners kind ms t e =
    let (inputs, one, rest) = led_on (or_else [] (pin_names []) (codes "inputs") ms) _ t e in
    let (outputs, two, is) = led_on (or_else [] (pin_names inputs) (codes "outputs") ms) _ t rest in
    let cell : CellType = record { name = kind; role = Opaque; inputs = inputs; clock = None; quiet = []; outputs = outputs } in
    let made : ListedType = record { cell = cell; arcs = []; checks = [] } in
    let differ : Differ (inputs ++ outputs) = more_pins inputs (more_pins [] tt (codes "inputs") ms inputs one) (codes "outputs") ms outputs two in
    subst (KeepsListedRules corners) (same_Ok made t is) (record {
      cell = record { role = (refl {a = None}, refl {a = []}); pins = Differ-once (inputs ++ outputs) differ };
      arcs = tt;
      checks = tt;
    })

type_in_Ok : (corners : ℕ) (kind : List ℕ) (ms : Members) (r : Role) (t : ListedType) → type_in corners kind ms r ≡ Ok t → KeepsListedRules corners t
type_in_Ok corners kind ms Comb t e = comb_in_Ok corners kind ms t e
type_in_Ok corners kind ms Register t e = register_in_Ok corners kind ms t e
type_in_Ok corners kind ms Opaque t e = opaque_in_Ok corners kind ms t e

pub type_of_Ok : (corners : ℕ) → Always (type_of corners) (KeepsListedRules corners)
unfolding type_of
type_of_Ok corners d t e =
    let (ms, table, rest) = led_on (of_kind (as_table d)) _ t e in
    let (u, keys, rest2) = led_on (known (type_keys (role_in ms)) ms) _ t rest in
    let (kind, named, rest3) = led_on (required name (codes "name") ms) _ t rest2 in
    let (r, has, is) = led_on (required role (codes "role") ms) _ t rest3 in
    type_in_Ok corners kind ms r t is
