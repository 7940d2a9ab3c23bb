-- What the other entries of a job keep that are read: corners, kinds of buffers and clock arrivals.
use Rattle.std.proofs.Common.{◌≡◌, ℕ, suc, pos, ◌≤ℤ◌, List, [], ◌∷◌, length, Bool, true, false, ◌&&◌, cond, bytes_eq, Option, Some, None, codes, refl, ap, sym, ◌∙◌, subst, arith}
use Rattle.std.specs.Prelude.{Ok, slice_get}
use Rattle.std.specs.List.{find}
use Rattle.std.specs.Int.Signed.{≤ℤ_refl, le_z_yes}
use Rattle.std.proofs.lemmas.Bool.{and_parts}
use Rattle.std.proofs.lemmas.Option.{same_Some}
use Rattle.hold_base.specs.Limits.{corners_limit, cost_limit}
use Rattle.hold_netlist.specs.declared.kind.Kind.{Kind}
use Rattle.hold_roles.specs.declared.role.Role.{Role}
use Rattle.hold_roles.specs.declared.role.Role.TheVariants.{Comb, Register, Opaque}
use Rattle.hold_roles.specs.declared.role.CellType.{CellType}
use Rattle.hold_job.specs.declared.inst_times.Clock.{Clock}
use Rattle.hold_job.specs.Keys.{table_of, required}
use Rattle.hold_job.specs.Lists.{list_within, in_turn}
use Rattle.hold_job.specs.Names.{text, name}
use Rattle.hold_job.specs.Numbers.{number, earliest, spans}
use Rattle.hold_job.specs.Entries.{corner_of, corners_of, is_one, is_comb, is_buffer, buffer_named, given_buffer, buffer, only, kind_of, clock_of}
use Rattle.hold_job.proofs.Once.{led_on}
use Rattle.hold_job.specs.Rules.{IsInRange, AreSpans}
use Rattle.hold_job.proofs.FormLemmas.{Always, same_Ok, required_Ok, in_turn_length, list_within_Ok, number_Ok, AreSpansFrom, spans_Ok}

pub corners_of_Ok : Always corners_of (λ corners. IsInRange 1 corners_limit (length corners))
corners_of_Ok d corners e =
    let (items, listed, read) = led_on (list_within 1 corners_limit d) (in_turn corner_of []) corners e in
    let range = list_within_Ok 1 corners_limit d items listed in
    let low = range.low in
    let high = range.high in
    let long = in_turn_length corner_of items [] corners read in
    record { low = omega (arith, low, long); high = omega (arith, high, long) }

find_place : {A : Type 0} (p : A → Bool) (xs : List A) (x : A) → find p xs ≡ Some x → (k : ℕ) × (slice_get xs k ≡ Some x) × (p x ≡ true)
find_place p [] x e = cc
find_place {A} p (y ∷ ys) x e = by (p y) refl e (find_place p ys x)
  where
    by : (b : Bool) → p y ≡ b → cond b (Some y) (find p ys) ≡ Some x → (find p ys ≡ Some x → (k : ℕ) × (slice_get ys k ≡ Some x) × (p x ≡ true))
        → (k : ℕ) × (slice_get (y ∷ ys) k ≡ Some x) × (p x ≡ true)
    by true is h rest = (0, h, ap p (sym (same_Some y x h)) ∙ is)
    by false is h rest = let (k, at, passes) = rest h in (suc k, at, passes)

-- a buffer that is listed among the types
record IsListedBuffer (types : List CellType) (cell : CellType) : Type 0 where
  pub place : ℕ
  pub at : slice_get types place ≡ Some cell
  pub role : cell.role ≡ Comb
  pub input : cell.inputs ≡ only cell.inputs ∷ []
  pub output : cell.outputs ≡ only cell.outputs ∷ []

comb_is : (r : Role) → is_comb r ≡ true → r ≡ Comb
comb_is Comb e = refl
comb_is Register e = cc
comb_is Opaque e = cc

one_is : (names : List (List ℕ)) → is_one names ≡ true → names ≡ only names ∷ []
one_is [] e = cc
one_is (x ∷ []) e = refl
one_is (x ∷ y ∷ ys) e = cc

given_buffer_Ok : (o : Option CellType) (cell : CellType) → given_buffer o ≡ Ok cell → o ≡ Some cell
given_buffer_Ok None cell e = cc
given_buffer_Ok (Some t) cell e = ap Some (same_Ok t cell e)

buffer_Ok : (types : List CellType) → Always (buffer types) (IsListedBuffer types)
buffer_Ok types d cell e =
    let (called, is_text, given) = led_on (text d) (λ called. given_buffer (buffer_named types called)) cell e in
    let (k, at, passes) = find_place (λ (t : CellType). bytes_eq called t.name && is_buffer t) types cell (given_buffer_Ok (buffer_named types called) cell given) in
    let (named, fits) = and_parts (bytes_eq called cell.name) (is_buffer cell) passes in
    let (role, ends) = and_parts (is_comb cell.role) (is_one cell.inputs && is_one cell.outputs) fits in
    let (input, output) = and_parts (is_one cell.inputs) (is_one cell.outputs) ends in
    record { place = k; at = at; role = comb_is cell.role role; input = one_is cell.inputs input; output = one_is cell.outputs output }

-- a kind of buffer that is read, with its type's place among the types
pub record IsListedKind (corners : ℕ) (types : List CellType) (kind : Kind) : Type 0 where
  pub cell : CellType
  pub place : ℕ
  pub at : slice_get types place ≡ Some cell
  pub named : kind.cell ≡ cell.name
  pub role : cell.role ≡ Comb
  pub input : cell.inputs ≡ kind.input ∷ []
  pub output : cell.outputs ≡ kind.output ∷ []
  pub cost : IsInRange 1 cost_limit kind.cost
  pub spans : AreSpansFrom (pos 0) corners kind.spans

not_early : earliest ≤ℤ pos 0
not_early = le_z_yes tt

pub kind_of_Ok : (corners : ℕ) (types : List CellType) → Always (kind_of corners types) (IsListedKind corners types)
unfolding kind_of
kind_of_Ok corners types d kind e =
    let (ms, table, rest) = led_on (table_of (codes "type" ∷ codes "cost" ∷ codes "spans" ∷ []) d) _ kind e in
    let (cell, one, rest2) = led_on (required (buffer types) (codes "type") ms) _ kind rest in
    let (cost, two, rest3) = led_on (required (number 1 cost_limit) (codes "cost") ms) _ kind rest2 in
    let (delays, three, is) = led_on (required (spans (pos 0) corners) (codes "spans") ms) _ kind rest3 in
    let made : Kind = record { cell = cell.name; input = only cell.inputs; output = only cell.outputs; cost = cost; spans = delays } in
    let listed = required_Ok (buffer types) (IsListedBuffer types) (buffer_Ok types) (codes "type") ms cell one in
    subst (IsListedKind corners types) (same_Ok made kind is) (record {
      cell = cell;
      place = listed.place;
      at = listed.at;
      named = refl {a = cell.name};
      role = listed.role;
      input = listed.input;
      output = listed.output;
      cost = required_Ok (number 1 cost_limit) (IsInRange 1 cost_limit) (number_Ok 1 cost_limit) (codes "cost") ms cost two;
      spans = required_Ok (spans (pos 0) corners) (AreSpansFrom (pos 0) corners) (spans_Ok (pos 0) not_early corners) (codes "spans") ms delays three;
    })

pub clock_of_Ok : (corners : ℕ) → Always (clock_of corners) (λ clock. AreSpans corners clock.arrivals)
unfolding clock_of
clock_of_Ok corners d clock e =
    let (ms, table, rest) = led_on (table_of (codes "inst" ∷ codes "arrivals" ∷ []) d) _ clock e in
    let (inst, one, rest2) = led_on (required name (codes "inst") ms) _ clock rest in
    let (arrivals, two, is) = led_on (required (spans earliest corners) (codes "arrivals") ms) _ clock rest2 in
    let made : Clock = record { inst = inst; arrivals = arrivals } in
    let read = required_Ok (spans earliest corners) (AreSpansFrom earliest corners) (spans_Ok earliest (≤ℤ_refl earliest) corners) (codes "arrivals") ms arrivals two in
    subst (λ (c : Clock). AreSpans corners c.arrivals) (same_Ok made clock is) read.are_spans
