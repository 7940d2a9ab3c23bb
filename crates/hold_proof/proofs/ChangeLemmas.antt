-- Steps of the work on a leaf, one after another.
use Rattle.std.proofs.Common.{◌≡◌, ℕ, zero, suc, ◌+◌, ◌*◌, ◌%◌, ◌<◌, ◌≤◌, List, [], ◌∷◌, ◌++◌, length, get_or, set, take, replicate, refl, sym, ap, ◌∙◌, arith}
use Rattle.std.specs.Prelude.{Option, Some, None, flat_map, All, ℤ, pos, neg_ℤ, ◌+ℤ◌, ◌*ℤ◌, unsigned_abs}
use Rattle.std.proofs.lemmas.Int.{ints}
use Rattle.std.proofs.lemmas.List.{take_more, flat_map_more, length-map, length-replicate, length-take-le, map_more, replicate_more}
use Rattle.std.proofs.lemmas.Nat.{mod-mul-add}
use Rattle.hold_base.specs.Limits.{time_limit}
use Rattle.hold_base.specs.declared.time.Interval.{Interval}
use Rattle.hold_base.specs.declared.time.Side.{Side}
use Rattle.hold_base.specs.declared.time.Side.TheVariants.{Early, Late}
use Rattle.hold_graph.specs.Problem.{IsSpan, IsWithin}
use Rattle.hold_proof.specs.inner.Forms.{raised, added, cleared, norm}
use Rattle.hold_proof.specs.inner.Gaps.{gap, step_of}
use Rattle.hold_proof.specs.inner.LeafTerms.{gain, path_numbers, var_terms, vars_from, site_terms, site_vars}
use Rattle.hold_proof.specs.inner.Changes.{IsRaised, IsSettled}
use Rattle.hold_proof.proofs.Magnitudes.{bounded, unsigned_abs-add, unsigned_abs-le, unsigned_abs-neg, unsigned_abs-times}
use Rattle.hold_proof.proofs.FormLemmas.{norm-raised, norm-set, length-added, length-cleared}
use Rattle.hold_proof.proofs.GapLemmas.{gaps-set, gap-none, gap-size}

added-append : (first rest : List (ℕ × ℤ)) (factors : List ℤ) → added (first ++ rest) factors ≡ added rest (added first factors)
added-append [] rest factors = refl
added-append (term ∷ first) rest factors = added-append first rest (raised factors term.0 term.1)

cleared-append : (first rest : List ℕ) (factors : List ℤ) → cleared (first ++ rest) factors ≡ cleared rest (cleared first factors)
cleared-append [] rest factors = refl
cleared-append (var ∷ first) rest factors = cleared-append first rest (set factors var (pos 0))

pub raised-then : (first rest : List (ℕ × ℤ)) (a b most : ℕ) (old now new : List ℤ) → IsRaised first a old now → IsRaised rest b now new → a + b ≤ most → IsRaised (first ++ rest) most old new
raised-then first rest a b most old now new one two fits =
    let grown = one.norm in
    let more = two.norm in
    record { factors = two.factors ∙ ap (added rest) one.factors ∙ sym (added-append first rest old); norm = omega (arith, grown, more, fits) }

-- one item more of a list whose items bring terms
pub raised-more : {X : Type 0} (terms : X → List (ℕ × ℤ)) (xs : List X) (i : ℕ) (x : X) (a b most : ℕ) (old now new : List ℤ) → i < length xs → x ≡ get_or xs i x →
    IsRaised (flat_map terms (take i xs)) a old now → IsRaised (terms x) b now new → a + b ≤ most → IsRaised (flat_map terms (take (i + 1) xs)) most old new
raised-more terms xs i x a b most old now new there is one two fits =
    let whole : flat_map terms (take i xs) ++ terms x ≡ flat_map terms (take (i + 1) xs) =
    flat_map_more terms [] (take i xs) x ∙ ap (λ l. flat_map terms (take i xs ++ l ∷ [])) is ∙ ap (flat_map terms) (sym (take_more xs i x there)) in
    rw (← whole) (raised-then (flat_map terms (take i xs)) (terms x) a b most old now new one two fits)

-- one term
pub raised-one : (var : ℕ) (number : ℤ) (old new : List ℤ) → var < length old → new ≡ raised old var number → IsRaised ((var, number) ∷ []) (unsigned_abs number) old new
raised-one var number old new there is =
    let grown = norm-raised old var number there in
    record { factors = is; norm = rw is (omega (arith, grown)) }

pub length-raised : (terms : List (ℕ × ℤ)) (most : ℕ) (old new : List ℤ) → IsRaised terms most old new → length new ≡ length old
length-raised terms most old new h = ap length h.factors ∙ length-added terms old

-- terms from a variable on, and one more
pub var_terms-push : (var : ℕ) (numbers : List ℤ) (number : ℤ) → var_terms var (numbers ++ number ∷ []) ≡ var_terms var numbers ++ (var + length numbers, number) ∷ []
var_terms-push var [] number = ap (λ n. (n, number) ∷ []) (omega arith)
var_terms-push var (first ∷ numbers) number =
    let same : (var + 1) + length numbers ≡ var + suc (length numbers) = omega arith in
    ap (λ l. (var, first) ∷ l) (var_terms-push (var + 1) numbers number ∙ ap (λ n. var_terms (var + 1) numbers ++ (n, number) ∷ []) same)

pub settled-none : (costs : List ℕ) (scale : ℕ) (lows highs : List ℕ) (factors : List ℤ) → IsSettled costs scale lows highs [] factors factors (pos 0)
settled-none costs scale lows highs factors = record { factors = refl; gaps = omega (arith, ints); norm = omega arith }

pub settled-then : (costs : List ℕ) (scale : ℕ) (lows highs first rest : List ℕ) (old now new : List ℤ) (a b : ℤ) →
    IsSettled costs scale lows highs first old now a → IsSettled costs scale lows highs rest now new b → IsSettled costs scale lows highs (first ++ rest) old new (a +ℤ b)
settled-then costs scale lows highs first rest old now new a b one two =
    let fell = one.norm in
    let more = two.norm in
    let sum = unsigned_abs-add a b in
    let before = one.gaps in
    let after = two.gaps in
    record {
      factors = two.factors ∙ ap (cleared rest) one.factors ∙ sym (cleared-append first rest old);
      gaps = omega (arith, ints, before, after);
      norm = omega (arith, fell, more, sum);
    }

pub settled-more : {X : Type 0} (costs : List ℕ) (scale : ℕ) (lows highs : List ℕ) (vars : X → List ℕ) (xs : List X) (i : ℕ) (x : X) (old now new : List ℤ) (a b : ℤ) → i < length xs → x ≡ get_or xs i x →
    IsSettled costs scale lows highs (flat_map vars (take i xs)) old now a → IsSettled costs scale lows highs (vars x) now new b →
    IsSettled costs scale lows highs (flat_map vars (take (i + 1) xs)) old new (a +ℤ b)
settled-more costs scale lows highs vars xs i x old now new a b there is one two =
    let whole : flat_map vars (take i xs) ++ vars x ≡ flat_map vars (take (i + 1) xs) =
    flat_map_more vars [] (take i xs) x ∙ ap (λ l. flat_map vars (take i xs ++ l ∷ [])) is ∙ ap (flat_map vars) (sym (take_more xs i x there)) in
    rw (← whole) (settled-then costs scale lows highs (flat_map vars (take i xs)) (vars x) old now new a b one two)

-- one variable
pub settled-one : (costs : List ℕ) (scale : ℕ) (lows highs : List ℕ) (var : ℕ) (old new : List ℤ) (sum : ℤ) → var < length old → length old ≡ length lows → length lows ≡ length highs →
    get_or lows var 0 ≤ get_or highs var 0 → get_or highs var 0 ≤ 16 → new ≡ set old var (pos 0) →
    sum ≡ gap (step_of costs scale var) (get_or old var (pos 0)) (get_or lows var 0) (get_or highs var 0) → IsSettled costs scale lows highs (var ∷ []) old new sum
settled-one costs scale lows highs var old new sum there lows_each highs_each ordered most is value =
    let change = gaps-set costs scale 0 old lows highs var (pos 0) there lows_each highs_each in
    let none = gap-none (step_of costs scale (0 + var)) (get_or lows var 0) (get_or highs var 0) in
    let same : 0 + var ≡ var = omega arith in
    let here = ap (λ n. gap (step_of costs scale n) (get_or old var (pos 0)) (get_or lows var 0) (get_or highs var 0)) same in
    let size = gap-size (step_of costs scale var) (get_or old var (pos 0)) (get_or lows var 0) (get_or highs var 0) ordered most in
    let fell = norm-set old var (pos 0) there in
    let large = ap unsigned_abs value in
    record {
      factors = is;
      gaps = rw is (omega (arith, ints, change, none, here, value));
      norm = rw is (omega (arith, size, fell, large));
    }

pub vars_from-push : (var n : ℕ) → vars_from var (n + 1) ≡ vars_from var n ++ (var + n) ∷ []
vars_from-push var zero = ap (λ m. m ∷ []) (omega arith)
vars_from-push var (suc n) =
    let same : (var + 1) + n ≡ var + suc n = omega arith in
    let long : suc n + 1 ≡ suc (n + 1) = omega arith in
    ap (vars_from var) long ∙ ap (λ l. var ∷ l) (vars_from-push (var + 1) n ∙ ap (λ m. vars_from (var + 1) n ++ m ∷ []) same)

pub length-settled : (costs : List ℕ) (scale : ℕ) (lows highs vars : List ℕ) (old new : List ℤ) (sum : ℤ) → IsSettled costs scale lows highs vars old new sum → length new ≡ length old
length-settled costs scale lows highs vars old new sum h = ap length h.factors ∙ length-cleared vars old

-- what a path takes from a factor at most
pub path_number-size : (side : Side) (times : ℕ) (kind : Interval) → IsSpan time_limit kind → unsigned_abs (neg_ℤ (pos times *ℤ gain side kind)) ≤ times * time_limit
path_number-size Early times kind span =
    let same = unsigned_abs-neg (pos times *ℤ kind.least) in
    let size = unsigned_abs-times times time_limit kind.least (unsigned_abs-le kind.least time_limit (record { low = (span.least).low; high = (span.least).high })) in
    omega (arith, same, size)
path_number-size Late times kind span =
    let same = unsigned_abs-neg (pos times *ℤ neg_ℤ kind.greatest) in
    let small = unsigned_abs-le kind.greatest time_limit (record { low = (span.greatest).low; high = (span.greatest).high }) in
    let turned = unsigned_abs-neg kind.greatest in
    let size = unsigned_abs-times times time_limit (neg_ℤ kind.greatest) (omega (arith, small, turned)) in
    omega (arith, same, size)

pub listed_number-size : (side : Side) (times : ℕ) (kinds : List Interval) (i : ℕ) (none : Interval) (number : ℤ) → i < length kinds → All (IsSpan time_limit) kinds →
    number ≡ neg_ℤ (pos times *ℤ gain side (get_or kinds i none)) → unsigned_abs number ≤ times * time_limit
listed_number-size side times kinds i none number there spans value =
    let size = path_number-size side times (get_or kinds i none) (spans i none there) in
    let large = ap unsigned_abs value in
    omega (arith, size, large)

-- one kind more of a path at a site
pub path_site-more : (side : Side) (times first : ℕ) (kinds : List Interval) (i : ℕ) (none : Interval) (number : ℤ) (old now new : List ℤ) →
    i < length kinds → All (IsSpan time_limit) kinds → first + length kinds ≤ length now →
    IsRaised (var_terms first (path_numbers side times (take i kinds))) (i * (times * time_limit)) old now →
    number ≡ neg_ℤ (pos times *ℤ gain side (get_or kinds i none)) → new ≡ raised now (first + i) number →
    IsRaised (var_terms first (path_numbers side times (take (i + 1) kinds))) ((i + 1) * (times * time_limit)) old new
path_site-more side times first kinds i none number old now new there spans room one value step =
    let numbers : path_numbers side times (take i kinds) ++ number ∷ [] ≡ path_numbers side times (take (i + 1) kinds) =
    ap (λ n. path_numbers side times (take i kinds) ++ n ∷ []) value ∙ sym (map_more (λ k. neg_ℤ (pos times *ℤ gain side k)) kinds i none there) in
    let long : length (path_numbers side times (take i kinds)) ≡ i = length-map (take i kinds) _ ∙ length-take-le i kinds (omega (arith, there)) in
    let terms : var_terms first (path_numbers side times (take i kinds)) ++ (first + i, number) ∷ [] ≡ var_terms first (path_numbers side times (take (i + 1) kinds)) =
    ap (λ n. var_terms first (path_numbers side times (take i kinds)) ++ (first + n, number) ∷ []) (sym long)
    ∙ sym (var_terms-push first (path_numbers side times (take i kinds)) number) ∙ ap (var_terms first) numbers in
    let size = listed_number-size side times kinds i none number there spans value in
    rw (← terms) (raised-then (var_terms first (path_numbers side times (take i kinds))) ((first + i, number) ∷ []) (i * (times * time_limit)) (unsigned_abs number) ((i + 1) * (times * time_limit)) old now new
    one (raised-one (first + i) number now new (omega (arith, there, room)) step) (omega (arith, size)))

-- one kind more of a chain limit at a site
pub chain_site-more : (times first i : ℕ) (old now new : List ℤ) → first + i < length now → IsRaised (var_terms first (replicate i (pos times))) (i * times) old now →
    new ≡ raised now (first + i) (pos times) → IsRaised (var_terms first (replicate (i + 1) (pos times))) ((i + 1) * times) old new
chain_site-more times first i old now new there one step =
    let terms : var_terms first (replicate i (pos times)) ++ (first + i, pos times) ∷ [] ≡ var_terms first (replicate (i + 1) (pos times)) =
    ap (λ n. var_terms first (replicate i (pos times)) ++ (first + n, pos times) ∷ []) (sym (length-replicate i (pos times)))
    ∙ sym (var_terms-push first (replicate i (pos times)) (pos times)) ∙ ap (var_terms first) (replicate_more i (pos times)) in
    rw (← terms) (raised-then (var_terms first (replicate i (pos times))) ((first + i, pos times) ∷ []) (i * times) times ((i + 1) * times) old now new
    one (raised-one (first + i) (pos times) now new there step) (omega arith))

-- one kind more of what is settled at a site
pub settled_site-more : (costs : List ℕ) (scale : ℕ) (lows highs : List ℕ) (site i : ℕ) (old now new : List ℤ) (a b : ℤ) → i < length costs → site * length costs + i < length now →
    length now ≡ length lows → length lows ≡ length highs → get_or lows (site * length costs + i) 0 ≤ get_or highs (site * length costs + i) 0 → get_or highs (site * length costs + i) 0 ≤ 16 →
    IsSettled costs scale lows highs (vars_from (site * length costs) i) old now a → new ≡ set now (site * length costs + i) (pos 0) →
    b ≡ gap (scale * get_or costs i 0) (get_or now (site * length costs + i) (pos 0)) (get_or lows (site * length costs + i) 0) (get_or highs (site * length costs + i) 0) →
    IsSettled costs scale lows highs (vars_from (site * length costs) (i + 1)) old new (a +ℤ b)
settled_site-more costs scale lows highs site i old now new a b there room lows_each highs_each ordered most one step value =
    let kind : (site * length costs + i) % length costs ≡ i = mod-mul-add site (length costs) i there in
    let same = ap (λ k. gap (scale * get_or costs k 0) (get_or now (site * length costs + i) (pos 0)) (get_or lows (site * length costs + i) 0) (get_or highs (site * length costs + i) 0)) (sym kind) in
    rw (vars_from-push (site * length costs) i)
    (settled-then costs scale lows highs (vars_from (site * length costs) i) ((site * length costs + i) ∷ []) old now new a b one
    (settled-one costs scale lows highs (site * length costs + i) now new b room lows_each highs_each ordered most step (value ∙ same)))

-- what was summed up while factors were settled is at most 16 times their norm
pub settled-sum_size : (costs : List ℕ) (scale : ℕ) (lows highs vars : List ℕ) (old new : List ℤ) (sum : ℤ) → IsSettled costs scale lows highs vars old new sum →
    IsWithin (16 * norm old) sum
settled-sum_size costs scale lows highs vars old new sum h = let fell = h.norm in bounded sum (16 * norm old) (omega (arith, fell))

pub settled-same : (costs : List ℕ) (scale : ℕ) (lows highs vars : List ℕ) (old new : List ℤ) (a b : ℤ) → IsSettled costs scale lows highs vars old new a → b ≡ a →
    IsSettled costs scale lows highs vars old new b
settled-same costs scale lows highs vars old new a b h same = rw same h

-- the terms at a pin that is a site, and at one that isn't
pub raised-site : (n : ℕ) (at : Option ℕ) (site : ℕ) (numbers : List ℤ) (a most : ℕ) (old new : List ℤ) → at ≡ Some site → IsRaised (site_terms n (Some site) numbers) a old new → a ≤ most →
    IsRaised (site_terms n at numbers) most old new
raised-site n at site numbers a most old new is h fits =
    let grown = h.norm in
    rw is (record { factors = h.factors; norm = omega (arith, grown, fits) })

pub raised-no_site : (n : ℕ) (at : Option ℕ) (numbers : List ℤ) (most : ℕ) (factors : List ℤ) → at ≡ None → IsRaised (site_terms n at numbers) most factors factors
raised-no_site n at numbers most factors is = rw is (record { factors = refl; norm = omega arith })

pub settled-site : (costs : List ℕ) (scale : ℕ) (lows highs : List ℕ) (n : ℕ) (at : Option ℕ) (site : ℕ) (old new : List ℤ) (sum : ℤ) → at ≡ Some site →
    IsSettled costs scale lows highs (site_vars n (Some site)) old new sum → IsSettled costs scale lows highs (site_vars n at) old new sum
settled-site costs scale lows highs n at site old new sum is h = rw is h

pub settled-no_site : (costs : List ℕ) (scale : ℕ) (lows highs : List ℕ) (n : ℕ) (at : Option ℕ) (factors : List ℤ) → at ≡ None → IsSettled costs scale lows highs (site_vars n at) factors factors (pos 0)
settled-no_site costs scale lows highs n at factors is = rw is (settled-none costs scale lows highs factors)
