-- What the buffers in front of a pin add (added_from): none where there is no site, and kind by kind.
use Rattle.std.proofs.Common.{◌≡◌, ℕ, zero, suc, ◌+◌, ◌*◌, ◌<◌, ◌≤◌, ◌==◌, List, [], ◌∷◌, length, drop, refl, ap, sym, ◌∙◌, arith, get_or, eq-eqb, ◌⊎◌, inl, inr, subst, true, false, Bool, cond}
use Rattle.std.specs.Prelude.{Option, Some, None, option_map, position, ℤ, pos, ◌+ℤ◌, ◌*ℤ◌, slice_get, IfSome, IfNone, nat_lt}
use Rattle.std.specs.List.{position_or_len}
use Rattle.std.proofs.lemmas.Int.{ints}
use Rattle.std.proofs.lemmas.Option.{slice_get_within, slice_get-get_or, get_or_from_slice_get}
use Rattle.std.proofs.lemmas.List.Sums.{position_or_len_is}
use Rattle.std.proofs.lemmas.List.Quantifiers.{position-Some}
use Rattle.std.proofs.Math.IntN.{zero-*ℤ}
use Rattle.hold_base.specs.declared.number.PinNo.{PinNo}
use Rattle.hold_graph.specs.declared.graph.Parts.{Parts}
use Rattle.hold_graph.specs.SitePins.{IsSite, AreSites}
use Rattle.hold_base.specs.declared.number.SiteNo.{SiteNo}
use Rattle.hold_base.specs.declared.time.Interval.{Interval}
use Rattle.hold_base.specs.declared.time.Side.{Side}
use Rattle.hold_graph.specs.Sites.{count_at, buffers_of}
use Rattle.hold_graph.specs.Sums.{end_of, added_from}

added_from-none : (side : Side) (place : ℕ) (kinds : List Interval) → added_from side place kinds (λ kind. 0) ≡ pos 0
added_from-none side place [] = refl
added_from-none side place (kind ∷ kinds) =
    let rest : added_from side (place + 1) kinds (λ kind. 0) ≡ pos 0 = added_from-none side (place + 1) kinds in
    let none : pos 0 *ℤ end_of side kind ≡ pos 0 = zero-*ℤ (end_of side kind) in
    omega (arith, ints)

pub added-no_site : (side : Side) (kinds : List Interval) (n : ℕ) (counts : List ℕ) (site : Option SiteNo) → site ≡ None →
    pos 0 ≡ added_from side 0 kinds (count_at n counts (option_map (λ (s : SiteNo). s.0) site))
added-no_site side kinds n counts site is =
    subst (λ (o : Option SiteNo). pos 0 ≡ added_from side 0 kinds (count_at n counts (option_map (λ (s : SiteNo). s.0) o))) (sym is) (sym (added_from-none side 0 kinds))

pub added_from-step : (side : Side) (place : ℕ) (kinds : List Interval) (span : Interval) (counts : ℕ → ℕ) (sum more total : ℤ) →
    drop place kinds ≡ span ∷ drop (place + 1) kinds → more ≡ pos (counts place) *ℤ end_of side span →
    sum +ℤ added_from side place (drop place kinds) counts ≡ total →
    (sum +ℤ more) +ℤ added_from side (place + 1) (drop (place + 1) kinds) counts ≡ total
added_from-step side place kinds span counts sum more total cut is h =
    let e : sum +ℤ added_from side place (span ∷ drop (place + 1) kinds) counts ≡ total = subst (λ (xs : List Interval). sum +ℤ added_from side place xs counts ≡ total) cut h in
    omega (arith, ints, e, is)

-- what is said of an option that is there
pub if_some : {X : Type 0} (P : X → Type 0) (o : Option X) (x : X) → o ≡ Some x → IfSome o P → P x
if_some {X} P o x is h = let Said : Option X → Type 0 = λ q. IfSome q P in subst Said is h

mul-room : (s n k : ℕ) → s < n → s * k + k ≤ n * k
mul-room s zero k lt = absurd (omega arith)
mul-room zero (suc n) k lt = omega arith
mul-room (suc s) (suc n) k lt = let less = mul-room s n k (omega arith) in omega arith

-- a site has a count for each kind
pub site-room : (sites : List PinNo) (pin : PinNo) (s : ℕ) (kinds given : List Interval) (costs n : ℕ) → given ≡ kinds → length kinds ≡ costs →
    n ≡ length sites * costs → slice_get sites s ≡ Some pin → s * length given + length given ≤ n
site-room sites pin s kinds given costs n is each count at =
    let room = mul-room s (length sites) costs (slice_get_within sites s pin at) in
    let len : length given ≡ costs = ap (λ (xs : List Interval). length xs) is ∙ each in
    subst (λ (m : ℕ). s * m + m ≤ n) (sym len) (subst (λ (m : ℕ). s * costs + costs ≤ m) (sym count) room)

-- where a site stands among the sites
pub site-position : (parts : Parts) (sites : List PinNo) → AreSites parts sites → (pin : PinNo) (o : Option SiteNo) →
    ((s : SiteNo) → o ≡ Some s → slice_get sites s.0 ≡ Some pin) → (o ≡ None → IsSite parts pin → ⊥) →
    position (λ (site : PinNo). site.0 == pin.0) sites ≡ option_map (λ (s : SiteNo). s.0) o
site-position parts sites are pin (Some s) at none =
    let there : slice_get sites s.0 ≡ Some pin = at s refl in
    let below : s.0 < length sites = slice_get_within sites s.0 pin there in
    let e : position_or_len (λ (site : PinNo). site.0 == pin.0) sites ≡ s.0 =
    position_or_len_is (λ (site : PinNo). site.0 == pin.0) sites s.0 pin (omega arith)
    (λ k lt. let less : (get_or sites k pin).0 < pin.0 = are.rising k s.0 (get_or sites k pin) pin lt (slice_get-get_or sites k pin (omega arith)) there in grind arith)
    (λ lt. eq-eqb (get_or sites s.0 pin).0 pin.0 (ap (λ (q : PinNo). q.0) (get_or_from_slice_get sites s.0 pin pin there))) in
    ap (λ (n : ℕ). cond (nat_lt n (length sites)) (Some n) None) e
    ∙ ap (λ (b : Bool). cond b (Some s.0) None) (let t : nat_lt s.0 (length sites) ≡ true = grind arith in t)
site-position parts sites are pin None at none = by_option (position (λ (site : PinNo). site.0 == pin.0) sites) refl
  where
    by_option : (r : Option ℕ) → position (λ (site : PinNo). site.0 == pin.0) sites ≡ r → r ≡ None
    by_option None e = refl
    by_option (Some i) e =
        let found = position-Some (λ (site : PinNo). site.0 == pin.0) sites i pin e in
        let same : (get_or sites i pin).0 ≡ pin.0 = (let h = found.1 in grind arith) in
        let site : IsSite parts (get_or sites i pin) = are.sound i pin found.0 in
        absurd (none refl (subst (IsSite parts) (ap (λ (n : ℕ). let q : PinNo = record { 0 = n } in q) same) site))

pub pad_is : (side : Side) (kinds given : List Interval) (n : ℕ) (counts : List ℕ) (sites : List PinNo) (pin : PinNo) (o : Option SiteNo) (sum : ℤ) → given ≡ kinds → length kinds ≡ n →
    position (λ (site : PinNo). site.0 == pin.0) sites ≡ option_map (λ (s : SiteNo). s.0) o →
    sum ≡ added_from side 0 given (count_at (length given) counts (option_map (λ (s : SiteNo). s.0) o)) → sum ≡ added_from side 0 kinds (buffers_of n sites counts pin)
pad_is side kinds given n counts sites pin o sum is each at value =
    value ∙ ap (λ (xs : List Interval). added_from side 0 xs (count_at (length xs) counts (option_map (λ (s : SiteNo). s.0) o))) is
    ∙ ap (λ (m : ℕ). added_from side 0 kinds (count_at m counts (option_map (λ (s : SiteNo). s.0) o))) each
    ∙ ap (λ (q : Option ℕ). added_from side 0 kinds (count_at n counts q)) (sym at)

pub if_none : {X : Type 0} (P : Type 0) (o : Option X) → o ≡ None → IfNone o P → P
if_none {X} P o is h = let Said : Option X → Type 0 = λ q. IfNone q P in subst Said is h
