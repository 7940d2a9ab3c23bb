-- The times that checks ask, from the times spread over the captures.
use Rattle.std.proofs.Common.{◌≡◌, ℕ, zero, suc, ◌+◌, ◌<◌, List, [], ◌∷◌, ◌++◌, map, drop, replicate, length, refl, ap, sym, ◌∙◌, arith, get_or, subst}
use Rattle.std.specs.Prelude.{Option, Some, None, ℤ, Contains, All}
use Rattle.std.proofs.lemmas.Int.{ints}
use Rattle.std.proofs.lemmas.List.{length-map, length-replicate, append_assoc, drop_more, get_or_default}
use Rattle.std.proofs.lemmas.Option.{none-some}
use Rattle.std.proofs.lemmas.List.Elements.{All-contains, All-weaker, All-push}
use Rattle.hold_base.specs.Limits.{time_limit}
use Rattle.hold_base.specs.declared.number.PinNo.{PinNo}
use Rattle.hold_base.specs.declared.time.Interval.{Interval}
use Rattle.hold_base.specs.declared.time.Side.{Side}
use Rattle.hold_base.specs.declared.time.Side.TheVariants.{Early, Late}
use Rattle.hold_graph.specs.declared.graph.Parts.{Parts}
use Rattle.hold_graph.specs.declared.problem.Spans.{Spans}
use Rattle.hold_graph.specs.declared.problem.Problem.{Problem}
use Rattle.hold_graph.specs.Graph.{NamesItsPins}
use Rattle.hold_graph.specs.Met.{capture_at}
use Rattle.hold_graph.specs.Problem.{IsSpan, IsValidCorner, IsWithin}
use Rattle.hold_graph.specs.Sums.{end_of, greatest_of, items_at}
use Rattle.hold_timing.specs.Worst.{required_at}
use Rattle.hold_timing.specs.inner.Pass.{AreWithin, spread}
use Rattle.hold_timing.specs.inner.Required.{asked, check_at, opposite, or_zero}
use Rattle.hold_timing.proofs.Bounds.{end_of-within}
use Rattle.hold_timing.proofs.Starts.{read_below, spread-hull, spread-greatest, spread-within}

get_or-replicate : (n place : ℕ) (time : Option ℤ) → get_or (replicate n time) place time ≡ time
get_or-replicate zero place time = refl
get_or-replicate (suc n) zero time = refl
get_or-replicate (suc n) (suc place) time = get_or-replicate n place time

pub none_there : (n : ℕ) (times : List (Option ℤ)) (place : ℕ) → times ≡ replicate n None → get_or times place None ≡ None
none_there n times place is = ap (λ (xs : List (Option ℤ)). get_or xs place None) is ∙ get_or-replicate n place None

-- times spread over a table of none
pub spread_over-within : {A : Type 0} (side : Side) (time_of : A → ℤ) (limit n : ℕ) (old new : List (Option ℤ)) (pins : List PinNo) (items : List A) →
    old ≡ replicate n None → length new ≡ length old →
    ((pin : PinNo) → pin.0 < length old → get_or new pin.0 None ≡ spread side time_of (get_or old pin.0 None) pins items pin) →
    All (λ x. IsWithin limit (time_of x)) items → AreWithin limit new
spread_over-within side time_of limit n old new pins items is len each h = λ place time at.
    let below : place < length new = read_below new place time at in
    spread-within side time_of limit (get_or old place None) pins items (record { 0 = place }) h
    (λ t i. absurd (none-some t (sym (none_there n old place is) ∙ i))) time
    (sym (each (record { 0 = place }) (omega arith)) ∙ at)

-- a capture has its place in a table of all pins
pub capture-below : (parts given : Parts) (pin : PinNo) (old : List (Option ℤ)) → given ≡ parts → NamesItsPins parts → Contains parts.captures pin → old ≡ replicate given.pins None → pin.0 < length old
capture-below parts given pin old same numbers has is =
    let below : pin.0 < parts.pins = All-contains (λ (p : PinNo). p.0 < parts.pins) parts.captures pin numbers.captures has in
    let len : length old ≡ given.pins = ap (λ (xs : List (Option ℤ)). length xs) is ∙ length-replicate given.pins None in
    let pins : given.pins ≡ parts.pins = ap (λ (p : Parts). p.pins) same in
    omega (arith, below, len, pins)

pub clock-spread : (side : Side) (parts : Parts) (spans : Spans) (pin : PinNo) (old new : Option ℤ) (listed : List PinNo) (given : List Interval) →
    listed ≡ parts.captures → given ≡ spans.capture → length spans.capture ≡ length parts.captures → Contains parts.captures pin → old ≡ None →
    new ≡ spread side (end_of side) old listed given pin → new ≡ Some (end_of side (capture_at parts spans pin))
clock-spread side parts spans pin old new listed given is_listed is_given each has none is =
    is ∙ ap (λ (o : Option ℤ). spread side (end_of side) o listed given pin) none
    ∙ ap (λ (xs : List PinNo). spread side (end_of side) None xs given pin) is_listed
    ∙ ap (λ (xs : List Interval). spread side (end_of side) None parts.captures xs pin) is_given
    ∙ spread-hull side parts.captures spans.capture pin each has

pub check-spread : (captures : List PinNo) (times : List ℤ) (pin : PinNo) (old new : Option ℤ) (listed : List PinNo) (given : List ℤ) →
    listed ≡ captures → given ≡ times → length times ≡ length captures → Contains captures pin → old ≡ None →
    new ≡ spread Late (λ (t : ℤ). t) old listed given pin → new ≡ Some (greatest_of (items_at captures times pin))
check-spread captures times pin old new listed given is_listed is_given each has none is =
    is ∙ ap (λ (o : Option ℤ). spread Late (λ (t : ℤ). t) o listed given pin) none
    ∙ ap (λ (xs : List PinNo). spread Late (λ (t : ℤ). t) None xs given pin) is_listed
    ∙ ap (λ (xs : List ℤ). spread Late (λ (t : ℤ). t) None captures xs pin) is_given
    ∙ spread-greatest captures times pin each has

-- the times of the side's check
abbrev pub times_of_check : Side → Spans → List ℤ
times_of_check Early spans = spans.hold
times_of_check Late spans = spans.setup

pub check_at-greatest : (side : Side) (parts : Parts) (spans : Spans) (pin : PinNo) → greatest_of (items_at parts.captures (times_of_check side spans) pin) ≡ check_at side parts spans pin
check_at-greatest Early parts spans pin = refl
check_at-greatest Late parts spans pin = refl

pub check-given : (side : Side) (spans : Spans) (given : List ℤ) → (side ≡ Early → given ≡ spans.hold) → (side ≡ Late → given ≡ spans.setup) → given ≡ times_of_check side spans
check-given Early spans given early late = early refl
check-given Late spans given early late = late refl

pub check-each : (side : Side) (problem : Problem) (spans : Spans) → IsValidCorner problem spans → length (times_of_check side spans) ≡ length problem.graph.captures
check-each Early problem spans h = h.hold_each
check-each Late problem spans h = h.setup_each

pub check-within : (side : Side) (problem : Problem) (spans : Spans) → IsValidCorner problem spans → All (IsWithin time_limit) (times_of_check side spans)
check-within Early problem spans h = h.hold
check-within Late problem spans h = h.setup

pub capture-within : (side : Side) (problem : Problem) (spans : Spans) → IsValidCorner problem spans → All (λ span. IsWithin time_limit (end_of side span)) spans.capture
capture-within side problem spans h =
    All-weaker (IsSpan time_limit) (λ (span : Interval). IsWithin time_limit (end_of side span)) (λ span s. end_of-within side time_limit span s) spans.capture h.capture

pub asked-required : (side : Side) (problem : Problem) (spans : Spans) (pin : PinNo) (clock check : Option ℤ) →
    clock ≡ Some (end_of (opposite side) (capture_at problem.graph spans pin)) → check ≡ Some (check_at side problem.graph spans pin) →
    asked side problem.period (or_zero clock) (or_zero check) ≡ required_at side problem spans pin
asked-required Early problem spans pin clock check is_clock is_check =
    ap (λ (o : Option ℤ). asked Early problem.period (or_zero o) (or_zero check)) is_clock
    ∙ ap (λ (o : Option ℤ). asked Early problem.period (or_zero (Some (end_of Late (capture_at problem.graph spans pin)))) (or_zero o)) is_check
asked-required Late problem spans pin clock check is_clock is_check =
    ap (λ (o : Option ℤ). asked Late problem.period (or_zero o) (or_zero check)) is_clock
    ∙ ap (λ (o : Option ℤ). asked Late problem.period (or_zero (Some (end_of Early (capture_at problem.graph spans pin)))) (or_zero o)) is_check

get_or-map : (f : PinNo → ℤ) (pins : List PinNo) (place : ℕ) (d : PinNo) (z : ℤ) → place < length pins → get_or (map f pins) place z ≡ f (get_or pins place d)
get_or-map f [] place d z lt = absurd (omega arith)
get_or-map f (p ∷ pins) zero d z lt = refl
get_or-map f (p ∷ pins) (suc place) d z lt = get_or-map f pins place d z (omega arith)

-- what is asked at a place is what is asked of the capture there
pub required_read : (f : PinNo → ℤ) (captures given : List PinNo) (required : List ℤ) (place : ℕ) (d : PinNo) (z : ℤ) → required ≡ map f captures → given ≡ captures →
    place < length given → get_or required place z ≡ f (get_or given place d)
required_read f captures given required place d z is same lt =
    ap (λ (xs : List ℤ). get_or xs place z) (is ∙ ap (λ (xs : List PinNo). map f xs) (sym same)) ∙ get_or-map f given place d z lt

pub required_length : (f : PinNo → ℤ) (captures given : List PinNo) (required : List ℤ) (place : ℕ) → required ≡ map f captures → given ≡ captures → place < length given → place < length required
required_length f captures given required place is same lt =
    subst (λ (xs : List ℤ). place < length xs) (sym (is ∙ ap (λ (xs : List PinNo). map f xs) (sym same))) (let e = length-map given f in omega (arith, e))

-- one capture more
pub required_more : (f : PinNo → ℤ) (captures : List PinNo) (k : ℕ) (d : PinNo) (so_far new : List ℤ) (time : ℤ) → k < length captures →
    so_far ++ map f (drop k captures) ≡ map f captures → new ≡ so_far ++ time ∷ [] → time ≡ f (get_or captures k d) →
    new ++ map f (drop (k + 1) captures) ≡ map f captures
required_more f captures k d so_far new time lt h pushed is =
    ap (λ (xs : List ℤ). xs ++ map f (drop (k + 1) captures)) pushed
    ∙ append_assoc so_far (time ∷ []) (map f (drop (k + 1) captures))
    ∙ ap (λ (t : ℤ). so_far ++ t ∷ map f (drop (k + 1) captures)) is
    ∙ ap (λ (xs : List PinNo). so_far ++ map f xs) (sym (drop_more captures k d lt))
    ∙ h

pub within_push : (limit : ℕ) (times new : List ℤ) (time : ℤ) → All (IsWithin limit) times → new ≡ times ++ time ∷ [] → IsWithin limit time → All (IsWithin limit) new
within_push limit times new time h is near = subst (All (IsWithin limit)) (sym is) (All-push (IsWithin limit) times time h near)

-- what is asked of a capture, from the tables by pin
pub asked_there : (side : Side) (problem : Problem) (spans : Spans) (given : List PinNo) (k : ℕ) (d : PinNo) (clocks checks of_clocks of_checks : List (Option ℤ)) (clock check : ℤ) →
    given ≡ problem.graph.captures → k < length given → of_clocks ≡ clocks → of_checks ≡ checks →
    ((pin : PinNo) → Contains problem.graph.captures pin → get_or clocks pin.0 None ≡ Some (end_of (opposite side) (capture_at problem.graph spans pin))) →
    ((pin : PinNo) → Contains problem.graph.captures pin → get_or checks pin.0 None ≡ Some (check_at side problem.graph spans pin)) →
    clock ≡ or_zero (get_or of_clocks (get_or given k d).0 None) → check ≡ or_zero (get_or of_checks (get_or given k d).0 None) →
    asked side problem.period clock check ≡ required_at side problem spans (get_or given k d)
asked_there side problem spans given k d clocks checks of_clocks of_checks clock check is lt same_clocks same_checks clock_at check_at is_clock is_check =
    let has : Contains problem.graph.captures (get_or given k d) = subst (λ (xs : List PinNo). Contains xs (get_or given k d)) is (k, lt, get_or_default given k (get_or given k d) d lt) in
    ap (λ (t : ℤ). asked side problem.period t check) is_clock
    ∙ ap (λ (t : ℤ). asked side problem.period (or_zero (get_or of_clocks (get_or given k d).0 None)) t) is_check
    ∙ asked-required side problem spans (get_or given k d) (get_or of_clocks (get_or given k d).0 None) (get_or of_checks (get_or given k d).0 None)
    (ap (λ (xs : List (Option ℤ)). get_or xs (get_or given k d).0 None) same_clocks ∙ clock_at (get_or given k d) has)
    (ap (λ (xs : List (Option ℤ)). get_or xs (get_or given k d).0 None) same_checks ∙ check_at (get_or given k d) has)
