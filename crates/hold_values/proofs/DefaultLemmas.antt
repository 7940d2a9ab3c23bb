-- What a job says of types and instances, by the places that its tables tell.
use Rattle.std.proofs.Common.{◌≡◌, ℕ, zero, suc, ◌<◌, List, [], ◌∷◌, length, map, get_or, refl, ap, sym, ◌∙◌, subst, arith}
use Rattle.std.specs.Prelude.{Some, None, slice_get, Contains}
use Rattle.std.proofs.lemmas.Option.{get_or_from_slice_get, slice_get-get_or, slice_get_within, same_Some}
use Rattle.std.proofs.lemmas.List.Elements.{All-contains}
use Rattle.hold_base.specs.declared.time.Interval.{Interval}
use Rattle.hold_base.specs.declared.number.PinNo.{PinNo}
use Rattle.hold_build.specs.Pins.{IsPinOf}
use Rattle.hold_job.specs.declared.cell_times.TypeArc.{TypeArc}
use Rattle.hold_job.specs.declared.cell_times.TypeCheck.{TypeCheck}
use Rattle.hold_job.specs.declared.inst_times.Clock.{Clock}
use Rattle.hold_job.specs.declared.job.Job.{Job}
use Rattle.hold_job.specs.Rules.{AreSpans, KeepsRules, arc_key, check_key}
use Rattle.hold_netlist.specs.declared.inst.Pin.{Pin}
use Rattle.hold_netlist.specs.Pins.{pin_count}
use Rattle.hold_netlist.proofs.NumberingLemmas.{IsNumbered-one}
use Rattle.hold_netlist.specs.declared.inst.Inst.{Inst}
use Rattle.hold_roles.specs.declared.role.CellType.{CellType}
use Rattle.hold_roles.specs.Binding.{Binding}
use Rattle.hold_roles.specs.Types.{type_named}
use Rattle.hold_roles.specs.inner.NamePlaces.{first_at}
use Rattle.hold_told.proofs.ItemLemmas.{item_at_place, place_of_item}
use Rattle.hold_told.proofs.PortLemmas.{first_at-some, first_at-none}
use Rattle.hold_values.specs.Defaults.{IsOwnArrival, IsSpanOfType}
use Rattle.hold_values.specs.inner.Keys.{arc_text, arc_texts, check_text, check_texts, clock_names}
use Rattle.hold_values.proofs.KeyLemmas.{arc_text-one, check_text-one}

-- ---- the first item of a list with a text

map-at : {X Y : Type 0} (f : X → Y) (xs : List X) (k : ℕ) (y : Y) → slice_get (map f xs) k ≡ Some y → (x : X) × (slice_get xs k ≡ Some x) × (f x ≡ y)
map-at f [] k y h = cc
map-at f (x ∷ xs) zero y h = (x, refl, same_Some (f x) y h)
map-at f (x ∷ xs) (suc k) y h = map-at f xs k y h

at-map : {X Y : Type 0} (f : X → Y) (xs : List X) (k : ℕ) (x : X) → slice_get xs k ≡ Some x → slice_get (map f xs) k ≡ Some (f x)
at-map f [] k x h = cc
at-map f (y ∷ xs) zero x h = ap Some (ap f (same_Some y x h))
at-map f (y ∷ xs) (suc k) x h = at-map f xs k x h

pub record IsItemAt {X : Type 0} (text : X → List ℕ) (xs : List X) (name : List ℕ) (k : ℕ) : Type 0 where
  pub item : X
  pub at : slice_get xs k ≡ Some item
  pub named : text item ≡ name

pub item-found : {X : Type 0} (text : X → List ℕ) (xs : List X) (name : List ℕ) (k : ℕ) → Some k ≡ first_at 0 name (map text xs) → IsItemAt text xs name k
item-found text xs name k found =
    let h = first_at-some 0 name (map text xs) k (sym found) in
    let same : k ≡ h.0 = omega (arith, h.1) in
    let of = map-at text xs k name (ap (slice_get (map text xs)) same ∙ h.2) in
    record { item = of.0; at = of.1; named = of.2 }

pub item-none : {X : Type 0} (text : X → List ℕ) (xs : List X) (name : List ℕ) → None ≡ first_at 0 name (map text xs) → (x : X) → Contains xs x → text x ≡ name → ⊥
item-none text xs name none x listed is =
    let at = place_of_item xs x listed in
    first_at-none 0 name (map text xs) at.0 (sym none) (at-map text xs at.0 x at.1 ∙ ap Some is)

-- an item that is read by its place
pub item-read : {X : Type 0} (xs got : List X) (k : ℕ) (x d : X) → got ≡ xs → slice_get xs k ≡ Some x → get_or got k d ≡ x
item-read xs got k x d same at = ap (λ l. get_or l k d) same ∙ get_or_from_slice_get xs k x d at

-- ---- the delays of types

abbrev text_of_arc : TypeArc → List ℕ
text_of_arc arc = arc_text arc.kind arc.from arc.to

key-of_text : (arc : TypeArc) (kind from to : List ℕ) → text_of_arc arc ≡ arc_text kind from to → arc_key arc ≡ (kind, from, to)
key-of_text arc kind from to is =
    let h = arc_text-one arc.kind arc.from arc.to kind from to is in
    ap (λ (n : List ℕ). (n, arc.from, arc.to)) h.0 ∙ ap (λ (n : List ℕ). (kind, n, arc.to)) h.1 ∙ ap (λ (n : List ℕ). (kind, from, n)) h.2

text-of_key : (arc : TypeArc) (kind from to : List ℕ) → arc_key arc ≡ (kind, from, to) → text_of_arc arc ≡ arc_text kind from to
text-of_key arc kind from to is = ap (λ (k : List ℕ × List ℕ × List ℕ). arc_text k.0 k.1 k.2) is

module _ (job : Job) (rules : KeepsRules job) (corner : ℕ) (below : corner < length job.corners) (kind from to : List ℕ) where
  module _ (k : ℕ) (found : Some k ≡ first_at 0 (arc_text kind from to) (arc_texts job.arcs)) (got : List TypeArc) (same : got ≡ job.arcs) where
    here : IsItemAt text_of_arc job.arcs (arc_text kind from to) k
    here = item-found text_of_arc job.arcs (arc_text kind from to) k found

    pub arc-within : k < length got
    arc-within = subst (λ (l : List TypeArc). k < length l) (sym same) (slice_get_within job.arcs k here.item here.at)

    module _ (d : TypeArc) (spans : List Interval) (are : spans ≡ (get_or got k d).spans) where
      own : spans ≡ here.item.spans
      own = are ∙ ap (λ (arc : TypeArc). arc.spans) (item-read job.arcs got k here.item d same here.at)

      pub span-within : corner < length spans
      span-within =
          let each : AreSpans (length job.corners) here.item.spans = All-contains (λ (arc : TypeArc). AreSpans (length job.corners) arc.spans) job.arcs here.item rules.times.arcs (item_at_place job.arcs k here.item here.at) in
          subst (λ (n : ℕ). corner < n) (sym (ap length own ∙ each.one_each)) below

      pub span-found : (e : Interval) → IsSpanOfType job corner kind from to (get_or spans corner e)
      span-found e = record {
        arc = here.item;
        listed = item_at_place job.arcs k here.item here.at;
        key = key-of_text here.item kind from to here.named;
        at = subst (λ (l : List Interval). slice_get l corner ≡ Some (get_or spans corner e)) own (slice_get-get_or spans corner e span-within);
      }

  pub span-none : None ≡ first_at 0 (arc_text kind from to) (arc_texts job.arcs) → (span : Interval) → IsSpanOfType job corner kind from to span → ⊥
  span-none none span h = item-none text_of_arc job.arcs (arc_text kind from to) none h.arc h.listed (text-of_key h.arc kind from to h.key)

-- ---- checks of types

abbrev text_of_check : TypeCheck → List ℕ
text_of_check check = check_text check.kind check.pin

pub check-found : (checks : List TypeCheck) (kind pin : List ℕ) (k : ℕ) → Some k ≡ first_at 0 (check_text kind pin) (check_texts checks)
    → (check : TypeCheck) × (slice_get checks k ≡ Some check) × (check_key check ≡ (kind, pin))
check-found checks kind pin k found =
    let here = item-found text_of_check checks (check_text kind pin) k found in
    let h = check_text-one here.item.kind here.item.pin kind pin here.named in
    (here.item, here.at, ap (λ (n : List ℕ). (n, here.item.pin)) h.0 ∙ ap (λ (n : List ℕ). (kind, n)) h.1)

pub check-none : (checks : List TypeCheck) (kind pin : List ℕ) → None ≡ first_at 0 (check_text kind pin) (check_texts checks)
    → (check : TypeCheck) → Contains checks check → check_key check ≡ (kind, pin) → ⊥
check-none checks kind pin none check listed is = item-none text_of_check checks (check_text kind pin) none check listed (ap (λ (k : List ℕ × List ℕ). check_text k.0 k.1) is)

-- ---- clock entries

module _ (job : Job) (rules : KeepsRules job) (corner : ℕ) (below : corner < length job.corners) (inst : List ℕ) where
  module _ (k : ℕ) (found : Some k ≡ first_at 0 inst (clock_names job.clocks)) (got : List Clock) (same : got ≡ job.clocks) where
    entry : IsItemAt (λ (clock : Clock). clock.inst) job.clocks inst k
    entry = item-found (λ (clock : Clock). clock.inst) job.clocks inst k found

    pub clock-within : k < length got
    clock-within = subst (λ (l : List Clock). k < length l) (sym same) (slice_get_within job.clocks k entry.item entry.at)

    module _ (d : Clock) (spans : List Interval) (are : spans ≡ (get_or got k d).arrivals) where
      arrivals : spans ≡ entry.item.arrivals
      arrivals = are ∙ ap (λ (clock : Clock). clock.arrivals) (item-read job.clocks got k entry.item d same entry.at)

      pub arrival-within : corner < length spans
      arrival-within =
          let each : AreSpans (length job.corners) entry.item.arrivals = All-contains (λ (clock : Clock). AreSpans (length job.corners) clock.arrivals) job.clocks entry.item rules.times.clocks (item_at_place job.clocks k entry.item entry.at) in
          subst (λ (n : ℕ). corner < n) (sym (ap length arrivals ∙ each.one_each)) below

      pub arrival-found : (e : Interval) → IsOwnArrival job corner inst (get_or spans corner e)
      arrival-found e = record {
        clock = entry.item;
        listed = item_at_place job.clocks k entry.item entry.at;
        of_inst = entry.named;
        at = subst (λ (l : List Interval). slice_get l corner ≡ Some (get_or spans corner e)) arrivals (slice_get-get_or spans corner e arrival-within);
      }

  pub arrival-none : None ≡ first_at 0 inst (clock_names job.clocks) → (span : Interval) → IsOwnArrival job corner inst span → ⊥
  arrival-none none span h = item-none (λ (clock : Clock). clock.inst) job.clocks inst none h.clock h.listed h.of_inst

-- ---- a pin is one connection

pub record IsOnePin {b : Binding} {p : PinNo} {i j : ℕ} {s t : CellType} {a c : Pin} (one : IsPinOf b p i s a) (other : IsPinOf b p j t c) : Type 0 where
  pub inst : i ≡ j
  pub is_inst : one.i ≡ other.i
  pub type : s ≡ t
  pub pin : a ≡ c

pub one-pin : (b : Binding) (p : PinNo) (i j : ℕ) (s t : CellType) (a c : Pin) (one : IsPinOf b p i s a) (other : IsPinOf b p j t c) → IsOnePin one other
one-pin b p i j s t a c one other =
    let same = IsNumbered-one pin_count b.netlist.insts p.0 i one.place j other.place one.numbered other.numbered in
    let inst : one.i ≡ other.i = same_Some one.i other.i (sym one.is_inst ∙ ap (slice_get b.netlist.insts) same.0 ∙ other.is_inst) in
    record {
      inst = same.0;
      is_inst = inst;
      type = same_Some s t (sym one.typed ∙ ap (λ (x : Inst). type_named x.kind b.types) inst ∙ other.typed);
      pin = same_Some a c (sym one.is_pin ∙ ap (λ (x : Inst). slice_get x.pins one.place) inst ∙ ap (slice_get other.i.pins) same.1 ∙ other.is_pin);
    }
