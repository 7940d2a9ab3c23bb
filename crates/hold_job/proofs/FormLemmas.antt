-- What holds of whatever a form gives, and of what stands at a key or in a list that was read by it.
use Rattle.std.proofs.Common.{◌≡◌, ℕ, ◌+◌, ℤ, pos, negsuc, ◌≤ℤ◌, int_le, T, List, [], ◌∷◌, ◌++◌, length, All, Bool, true, false, ◌&&◌, cond, Option, Some, None, IfSome, codes, refl, ap, sym, ◌∙◌, subst, arith}
use Rattle.std.specs.Prelude.{Ok, Err, nat_le, Contains}
use Rattle.std.specs.List.{AllByRecursion}
use Rattle.std.specs.Fmt.{decimal}
use Rattle.std.specs.Int.Signed.{le_z_yes}
use Rattle.std.proofs.lemmas.Bool.{and_parts, leb-true}
use Rattle.std.proofs.lemmas.Int.{ints}
use Rattle.std.proofs.lemmas.List.{length-append}
use Rattle.std.proofs.lemmas.List.Elements.{All-from_recursion}
use Rattle.std.proofs.lemmas.Map.Views.{Contains-from_any}
use Rattle.hold_base.specs.Limits.{time_limit}
use Rattle.hold_base.specs.declared.time.Interval.{Interval}
use Rattle.hold_base.proofs.Bytes.{bytes_eq-same}
use Rattle.hold_base.proofs.Lists.{AllByRecursion-append, AllByRecursion-weaken}
use Rattle.hold_graph.specs.Problem.{IsWithin, IsSpan}
use Rattle.hold_netlist.specs.Names.{is_among}
use Rattle.toml.specs.Data.{Data, Items, no_items, item, Members, get_member, as_integer}
use Rattle.hold_job.specs.declared.fault.JobFault.TheVariants.{Range}
use Rattle.hold_job.specs.Outcome.{Outcome, ◌>>=◌, of_kind, in_rule, at}
use Rattle.hold_job.specs.Keys.{Form, required, given_or, or_else, if_any}
use Rattle.hold_job.specs.Lists.{item_count, list_of, list_within, in_turn, each, every, every_within}
use Rattle.hold_job.specs.Names.{text, one_of}
use Rattle.hold_job.specs.Numbers.{from_to, number, earliest, time, span_between, span_of_two, span, spans, values}
use Rattle.hold_job.proofs.Once.{led_on, at_Ok}
use Rattle.hold_job.specs.Rules.{IsInRange, AreSpans, AreValues}

-- P holds of whatever the form gives
abbrev pub Always : {A : Type 0} → Form A → (A → Type 0) → Type 0
Always {A} form P = (d : Data) (x : A) → form d ≡ Ok x → P x

-- the outcome is that value
abbrev pub Came : {A : Type 0} → Outcome A → A → Type 0
Came o x = o ≡ Ok x

pub same_Ok : {A : Type 0} (x y : A) → Came (Ok x) y → x ≡ y
same_Ok x y e = cc

pub in_rule_Ok : {A : Type 0} (test : A → Bool) (x y : A) → in_rule test x ≡ Ok y → (test y ≡ true) × (x ≡ y)
in_rule_Ok {A} test x y = by (test x) refl
  where
    by : (b : Bool) → test x ≡ b → cond b (Ok x) (Err (Range [])) ≡ Ok y → (test y ≡ true) × (x ≡ y)
    by true is e = let same : x ≡ y = same_Ok x y e in (ap test (sym same) ∙ is, same)
    by false is e = cc

-- ---- at a key

pub required_Ok : {A : Type 0} (form : Form A) (P : A → Type 0) → Always form P → (key : List ℕ) (ms : Members) (x : A) → required form key ms ≡ Ok x → P x
required_Ok form P always key ms x e =
    let (d, there, given) = led_on (of_kind (get_member key ms)) form x (at_Ok key (of_kind (get_member key ms) >>= form) x e) in
    always d x given

pub or_else_Ok : {A : Type 0} (form : Form A) (P : A → Type 0) → Always form P → (usual : A) → P usual → (key : List ℕ) (ms : Members) (x : A)
    → or_else usual form key ms ≡ Ok x → P x
or_else_Ok form P always usual fits key ms x e = by (get_member key ms) (at_Ok key (given_or usual form (get_member key ms)) x e)
  where
    by : (o : Option Data) → given_or usual form o ≡ Ok x → P x
    by None h = subst P (same_Ok usual x h) fits
    by (Some d) h = always d x h

pub if_any_Ok : {A : Type 0} (form : Form A) (P : A → Type 0) → Always form P → (key : List ℕ) (ms : Members) (o : Option A) → if_any form key ms ≡ Ok o → IfSome o P
if_any_Ok {A} form P always key ms o e = or_else_Ok (λ d. form d >>= λ x. Ok (Some x)) (λ p. IfSome p P) some None tt key ms o e
  where
    some : (d : Data) (p : Option A) → (form d >>= λ x. Ok (Some x)) ≡ Ok p → IfSome p P
    some d p h =
        let (x, given, is) = led_on (form d) (λ x. Ok (Some x)) p h in
        subst (λ p. IfSome p P) (same_Ok (Some x) p is) (always d x given)

-- ---- lists

-- what each item that is read keeps, the whole list has
pub in_turn_keeps : {A : Type 0} (form : List A → Form A) (P : List A → Type 0)
    → ((so_far : List A) (d : Data) (x : A) → P so_far → form so_far d ≡ Ok x → P (so_far ++ x ∷ []))
    → (items : Items) (so_far xs : List A) → P so_far → in_turn form so_far items ≡ Ok xs → P xs
in_turn_keeps form P step no_items so_far xs holds e = subst P (same_Ok so_far xs e) holds
in_turn_keeps form P step (item d ds) so_far xs holds e =
    let (x, given, rest) = led_on (at (decimal (length so_far)) (form so_far d)) (λ x. in_turn form (so_far ++ x ∷ []) ds) xs e in
    in_turn_keeps form P step ds (so_far ++ x ∷ []) xs (step so_far d x holds (at_Ok (decimal (length so_far)) (form so_far d) x given)) rest

pub in_turn_length : {A : Type 0} (form : List A → Form A) (items : Items) (so_far xs : List A) → in_turn form so_far items ≡ Ok xs → length xs ≡ length so_far + item_count items
in_turn_length form no_items so_far xs e = let same = ap length (same_Ok so_far xs e) in omega (arith, same)
in_turn_length form (item d ds) so_far xs e =
    let (x, given, rest) = led_on (at (decimal (length so_far)) (form so_far d)) (λ x. in_turn form (so_far ++ x ∷ []) ds) xs e in
    let more = in_turn_length form ds (so_far ++ x ∷ []) xs rest in
    let one = length-append so_far (x ∷ []) in
    omega (arith, more, one)

in_range : (least most n : ℕ) → (nat_le least n && nat_le n most) ≡ true → IsInRange least most n
in_range least most n e =
    let (low, high) = and_parts (nat_le least n) (nat_le n most) e in
    record { low = leb-true least n low; high = leb-true n most high }

pub list_within_Ok : (least most : ℕ) (d : Data) (items : Items) → list_within least most d ≡ Ok items → IsInRange least most (item_count items)
list_within_Ok least most d items e =
    let test : Items → Bool = λ i. nat_le least (item_count i) && nat_le (item_count i) most in
    let (given, listed, ruled) = led_on (list_of d) (in_rule test) items e in
    in_range least most (item_count items) (in_rule_Ok test given items ruled).0

each_Ok : {A : Type 0} (form : Form A) (P : A → Type 0) → Always form P → (items : Items) (xs : List A) → each form items ≡ Ok xs → AllByRecursion P xs
each_Ok form P always items xs e =
    in_turn_keeps (λ so_far. form) (AllByRecursion P) (λ so_far d x all given. AllByRecursion-append P so_far (x ∷ []) all (always d x given, tt)) items [] xs tt e

pub every_Ok : {A : Type 0} (form : Form A) (P : A → Type 0) → Always form P → Always (every form) (AllByRecursion P)
every_Ok form P always d xs e =
    let (items, listed, read) = led_on (list_of d) (each form) xs e in
    each_Ok form P always items xs read

pub record IsListWithin {A : Type 0} (least most : ℕ) (P : A → Type 0) (xs : List A) : Type 0 where
  pub count : IsInRange least most (length xs)
  pub all : AllByRecursion P xs

pub every_within_Ok : {A : Type 0} (least most : ℕ) (form : Form A) (P : A → Type 0) → Always form P → Always (every_within least most form) (IsListWithin least most P)
every_within_Ok least most form P always d xs e =
    let (items, listed, read) = led_on (list_within least most d) (each form) xs e in
    let range = list_within_Ok least most d items listed in
    let long = in_turn_length (λ so_far. form) items [] xs read in
    record {
      count = record { low = omega (arith, range.low, long); high = omega (arith, range.high, long) };
      all = each_Ok form P always items xs read;
    }

-- ---- numbers and times

from_to_Ok : (least most : ℕ) (z : ℤ) (n : ℕ) → from_to least most z ≡ Ok n → IsInRange least most n
from_to_Ok least most (pos m) n e = in_range least most n (in_rule_Ok (λ k. nat_le least k && nat_le k most) m n e).0
from_to_Ok least most (negsuc m) n e = cc

pub number_Ok : (least most : ℕ) → Always (number least most) (IsInRange least most)
number_Ok least most d n e =
    let (z, whole, ranged) = led_on (of_kind (as_integer d)) (from_to least most) n e in
    from_to_Ok least most z n ranged

in_order : (a b : ℤ) → int_le a b ≡ true → a ≤ℤ b
in_order a b e = le_z_yes (subst T (sym e) tt)

pub record IsFrom (least : ℤ) (z : ℤ) : Type 0 where
  pub low : least ≤ℤ z
  pub high : z ≤ℤ pos time_limit

pub time_Ok : (least : ℤ) → Always (time least) (IsFrom least)
time_Ok least d z e =
    let test : ℤ → Bool = λ t. int_le least t && int_le t (pos time_limit) in
    let (given, whole, ruled) = led_on (of_kind (as_integer d)) (in_rule test) z e in
    let (low, high) = and_parts (int_le least z) (int_le z (pos time_limit)) (in_rule_Ok test given z ruled).0 in
    record { low = in_order least z low; high = in_order z (pos time_limit) high }

pub record IsSpanFrom (least : ℤ) (s : Interval) : Type 0 where
  pub is_span : IsSpan time_limit s
  pub low : least ≤ℤ s.least

within : (least z : ℤ) → earliest ≤ℤ least → IsFrom least z → IsWithin time_limit z
within least z late from = let low = from.low in let high = from.high in record { low = omega (arith, ints, late, low); high = high }

between_Ok : (least : ℤ) → earliest ≤ℤ least → (first second : Data) (s : Interval) → span_between least first second ≡ Ok s → IsSpanFrom least s
unfolding span_between
between_Ok least late first second s e =
    let (low, one, more) = led_on (at (codes "0") (time least first)) _ s e in
    let (high, two, ruled) = led_on (at (codes "1") (time earliest second)) _ s more in
    let test : Interval → Bool = λ t. int_le t.least t.greatest in
    let (ordered, same) = in_rule_Ok test (record { least = low; greatest = high }) s ruled in
    let from = subst (IsFrom least) (ap (λ (t : Interval). t.least) same) (time_Ok least first low (at_Ok (codes "0") (time least first) low one)) in
    let to = subst (IsFrom earliest) (ap (λ (t : Interval). t.greatest) same) (time_Ok earliest second high (at_Ok (codes "1") (time earliest second) high two)) in
    record {
      is_span = record {
        ordered = in_order s.least s.greatest ordered;
        least = within least s.least late from;
        greatest = record { low = to.low; high = to.high };
      };
      low = from.low;
    }

pair_Ok : (least : ℤ) → earliest ≤ℤ least → (items : Items) (s : Interval) → span_of_two least items ≡ Ok s → IsSpanFrom least s
pair_Ok least late no_items s e = cc
pair_Ok least late (item a no_items) s e = cc
pair_Ok least late (item a (item b no_items)) s e = between_Ok least late a b s e
pair_Ok least late (item a (item b (item c ds))) s e = cc

pub span_Ok : (least : ℤ) → earliest ≤ℤ least → Always (span least) (IsSpanFrom least)
span_Ok least late d s e =
    let (items, listed, read) = led_on (list_of d) (span_of_two least) s e in
    pair_Ok least late items s read

pub record AreSpansFrom (least : ℤ) (corners : ℕ) (xs : List Interval) : Type 0 where
  pub are_spans : AreSpans corners xs
  pub low : All (λ (s : Interval). least ≤ℤ s.least) xs

pub spans_Ok : (least : ℤ) → earliest ≤ℤ least → (corners : ℕ) → Always (spans least corners) (AreSpansFrom least corners)
spans_Ok least late corners d xs e =
    let read = every_within_Ok corners corners (span least) (IsSpanFrom least) (span_Ok least late) d xs e in
    let low = read.count.low in
    let high = read.count.high in
    record {
      are_spans = record {
        one_each = omega (arith, low, high);
        all = All-from_recursion (IsSpan time_limit) xs (AllByRecursion-weaken (IsSpanFrom least) (IsSpan time_limit) (λ s h. h.is_span) xs read.all);
      };
      low = All-from_recursion (λ (s : Interval). least ≤ℤ s.least) xs (AllByRecursion-weaken (IsSpanFrom least) (λ s. least ≤ℤ s.least) (λ s h. h.low) xs read.all);
    }

pub values_Ok : (corners : ℕ) → Always (values corners) (AreValues corners)
values_Ok corners d xs e =
    let read = every_within_Ok corners corners (time earliest) (IsFrom earliest) (time_Ok earliest) d xs e in
    let low = read.count.low in
    let high = read.count.high in
    record {
      one_each = omega (arith, low, high);
      all = All-from_recursion (IsWithin time_limit) xs
          (AllByRecursion-weaken (IsFrom earliest) (IsWithin time_limit) (λ z h. record { low = h.low; high = h.high }) xs read.all);
    }

-- ---- names

pub one_of_Ok : (names : List (List ℕ)) → Always (one_of names) (λ t. is_among t names ≡ true)
one_of_Ok names d t e =
    let (given, is_text, ruled) = led_on (text d) (in_rule (λ u. is_among u names)) t e in
    (in_rule_Ok (λ u. is_among u names) given t ruled).0

pub among_Contains : (t : List ℕ) (names : List (List ℕ)) → is_among t names ≡ true → Contains names t
among_Contains t names e = Contains-from_any bytes_eq-same t names e
