-- The marks of net bits while their roots are looked for: each step keeps them right, and what they tell in the end.
use Rattle.std.proofs.Common.{◌≡◌, ℕ, zero, suc, ◌+◌, ◌<◌, ◌≤◌, ◌⊎◌, inl, inr, List, [], ◌∷◌, ◌++◌, length, set, drop, get_or, map, Bool, true, false, cond, refl, sym, ap, subst, ◌∙◌, arith}
use Rattle.std.specs.Prelude.{Contains, Some, None, Option, slice_get, slice_index_or}
use Rattle.std.specs.List.{AllByRecursion, count_by}
use Rattle.std.proofs.lemmas.Bool.{cases_eq}
use Rattle.std.proofs.lemmas.List.{drop_all, drop_more, get_or_past, length-map, length-set}
use Rattle.std.proofs.lemmas.List.Elements.{Contains-append_left, Contains-append_right}
use Rattle.std.proofs.lemmas.List.Sums.{sum_by-set}
use Rattle.std.proofs.lemmas.Option.{get_or_from_slice_get, slice_get_within, slice_get-map, slice_get-get_or}
use Rattle.hold_base.proofs.Options.{option_map-Some}
use Rattle.hold_base.proofs.Lists.{AllByRecursion-append}
use Rattle.hold_base.specs.declared.number.NetNo.{NetNo}
use Rattle.hold_roles.specs.declared.drivers.Driver.{Driver}
use Rattle.hold_roles.specs.declared.drivers.Driver.TheVariants.{Pin as ByPin, Net as ByNet, Zero as ByZero, One as ByOne}
use Rattle.hold_roles.specs.declared.drivers.Slot.{Slot}
use Rattle.hold_roles.specs.declared.drivers.Slot.TheVariants.{Free, Only, Several}
use Rattle.hold_roles.specs.declared.marks.Mark.{Mark}
use Rattle.hold_roles.specs.declared.marks.Mark.TheVariants.{New, Open, Ends, Lost, Ring}
use Rattle.hold_roles.specs.declared.roots.Root.{Root}
use Rattle.hold_roles.specs.declared.roots.Root.TheVariants.{Pin, Zero, One, Nothing}
use Rattle.hold_roles.specs.Faults.{HasNone, IsFirst}
use Rattle.hold_roles.specs.Roots.{IsAssigned, EndsAt, IsRoot, IsRing}
use Rattle.hold_roles.specs.inner.Marks.{slot_drivers, drivers_in, driver_source, source_in, first_mark, root_in, is_open, ending, AreDone, AreLinks, AreMarked, AreMarkedWith, AreRoots, CanSettle, Falls, IsAt, IsClosing, IsEnd, IsLost, IsOnMarkedRing, IsOnRing, IsOnWay, IsWalked, MarkHolds, OpensIn}
use Rattle.hold_roles.proofs.WalkLemmas.{IsRing-leads, Leads-here, Leads-step, Leads-trans, LeadsOn-leads, LeadsOn-then, IsRoot-leads, lt-never, one_source, ring_inside, root-no_ring}

-- ---- lists with one item changed

slice_get-set_same : {X : Type 0} (xs : List X) (i : ℕ) (y : X) → i < length xs → slice_get (set xs i y) i ≡ Some y
slice_get-set_same [] i y h = absurd (omega arith)
slice_get-set_same (x ∷ xs) zero y h = refl
slice_get-set_same (x ∷ xs) (suc i) y h = slice_get-set_same xs i y (omega arith)

slice_get-set_other : {X : Type 0} (xs : List X) (i j : ℕ) (y : X) → (j ≡ i → ⊥) → slice_get (set xs i y) j ≡ slice_get xs j
slice_get-set_other [] i j y h = refl
slice_get-set_other (x ∷ xs) zero zero y h = absurd (h refl)
slice_get-set_other (x ∷ xs) zero (suc j) y h = refl
slice_get-set_other (x ∷ xs) (suc i) zero y h = refl
slice_get-set_other (x ∷ xs) (suc i) (suc j) y h = slice_get-set_other xs i j y (λ e. h (ap suc e))

-- an item of the changed list is the new one, or was there
pub slice_get-set : {X : Type 0} (xs : List X) (i : ℕ) (y : X) (j : ℕ) (z : X) → i < length xs → slice_get (set xs i y) j ≡ Some z
    → ((j ≡ i) × (z ≡ y)) ⊎ ((j ≡ i → ⊥) × (slice_get xs j ≡ Some z))
slice_get-set xs i y j z within h = by (cases_eq j i)
  where
    by : ((j ≡ i) ⊎ (j ≡ i → ⊥)) → ((j ≡ i) × (z ≡ y)) ⊎ ((j ≡ i → ⊥) × (slice_get xs j ≡ Some z))
    by (inl e) = let here : Some z ≡ Some y = sym h ∙ ap (slice_get (set xs i y)) e ∙ slice_get-set_same xs i y within in inl (e, cc)
    by (inr n) = inr (n, sym (slice_get-set_other xs i j y n) ∙ h)

-- one of a list that isn't the first is in the rest
contains-rest : (y : NetNo) (ys : List NetNo) (x : NetNo) → (y ≡ x → ⊥) → Contains (y ∷ ys) x → Contains ys x
contains-rest y ys x apart (zero, lt, is) = absurd (apart is)
contains-rest y ys x apart (suc k, lt, is) = (k, omega arith, is)

-- ---- one driver

pub few_drivers : (slots : List Slot) (n : ℕ) → length (drivers_in slots n) ≤ 1
few_drivers slots n = by (slice_index_or slots n Free)
  where
    by : (s : Slot) → length (slot_drivers s) ≤ 1
    by Free = omega arith
    by (Only x) = omega arith
    by Several = omega arith

-- the source of a slot is what its net bit is assigned from
pub source-assigned : (s : Slot) (net : NetNo) → source_in s ≡ Some net → Contains (slot_drivers s) (ByNet net)
source-assigned Free net h = cc
source-assigned Several net h = cc
source-assigned (Only x) net h = by x h
  where
    by : (x : Driver) → driver_source x ≡ Some net → Contains (x ∷ []) (ByNet net)
    by (ByPin p) h = cc
    by ByZero h = cc
    by ByOne h = cc
    by (ByNet n) h = let same : n ≡ net = cc in (0, omega arith, ap ByNet same)

pub no_source-unassigned : (s : Slot) (net : NetNo) → source_in s ≡ None → Contains (slot_drivers s) (ByNet net) → ⊥
no_source-unassigned Free net h (k, lt, is) = omega arith
no_source-unassigned Several net h (k, lt, is) = omega arith
no_source-unassigned (Only x) net h (k, lt, is) = by x h (let zero_k : k ≡ 0 = omega arith in (rw zero_k at is))
  where
    by : (x : Driver) → driver_source x ≡ None → x ≡ ByNet net → ⊥
    by (ByPin p) h e = cc
    by ByZero h e = cc
    by ByOne h e = cc
    by (ByNet n) h e = cc

-- a net bit that is assigned from another has a slot
pub assigned-within : (slots : List Slot) (a b : ℕ) → IsAssigned (drivers_in slots) a b → a < length slots
assigned-within slots a b h = lt-never a (length slots) (λ past. none (subst (λ (s : Slot). Contains (slot_drivers s) (ByNet (record { 0 = b }))) (get_or_past slots a Free past) h))
  where
    none : Contains [] (ByNet (record { 0 = b })) → ⊥
    none k = omega (arith, k.1)

-- ---- one mark changed

-- what a mark says stays where marks of rings stay
mark-moved : (drivers : ℕ → List Driver) (old new : List Mark) (O P R S : ℕ → Type 0) (x : ℕ) → ((y : ℕ) → IsAt old y Ring → IsAt new y Ring)
    → (O x → P x) → ((b : ℕ) → R b → S b) → (m : Mark) → MarkHolds drivers old O R x m → MarkHolds drivers new P S x m
mark-moved drivers old new O P R S x rings opened next New h = h
mark-moved drivers old new O P R S x rings opened next Open h = opened h
mark-moved drivers old new O P R S x rings opened next (Ends root) h = h
mark-moved drivers old new O P R S x rings opened next Lost h = record { ring = h.ring; leads = h.leads; marked = rings h.ring h.marked }
mark-moved drivers old new O P R S x rings opened next Ring h = record { ring = h.ring; next = λ b step. next b (h.next b step) }

-- the same of all marks, of which none changes
marked-weakened : (drivers : ℕ → List Driver) (marks : List Mark) (O P R S : ℕ → Type 0) → AreMarkedWith drivers marks O R → ((x : ℕ) → O x → P x) → ((b : ℕ) → R b → S b)
    → AreMarkedWith drivers marks P S
marked-weakened drivers marks O P R S h opened next = record { each = λ x m is. mark-moved drivers marks marks O P R S x (λ y r. r) (opened x) next m (h.each x m is) }

rings-kept : (marks : List Mark) (at : ℕ) (was m : Mark) → IsAt marks at was → (was ≡ Ring → ⊥) → (y : ℕ) → IsAt marks y Ring → IsAt (set marks at m) y Ring
rings-kept marks at was m here no_ring y ring =
    slice_get-set_other marks at y m (λ e. no_ring (let same : Some was ≡ Some Ring = sym here ∙ ap (slice_get marks) (sym e) ∙ ring in cc)) ∙ ring

-- marks stay right where one is changed, if the new one is right
pub marked-set : (drivers : ℕ → List Driver) (marks : List Mark) (O P R S : ℕ → Type 0) (at : ℕ) (was m : Mark)
    → AreMarkedWith drivers marks O R → IsAt marks at was → (was ≡ Ring → ⊥)
    → MarkHolds drivers (set marks at m) P S at m
    → ((x : ℕ) → (x ≡ at → ⊥) → O x → P x) → ((b : ℕ) → R b → S b)
    → AreMarkedWith drivers (set marks at m) P S
marked-set drivers marks O P R S at was m h here no_ring right opened next = record { each = λ x n is. by x n (slice_get-set marks at m x n (slice_get_within marks at was here) is) }
  where
    by : (x : ℕ) (n : Mark) → ((x ≡ at) × (n ≡ m)) ⊎ ((x ≡ at → ⊥) × IsAt marks x n) → MarkHolds drivers (set marks at m) P S x n
    by x n (inl e) = subst (λ (y : ℕ). MarkHolds drivers (set marks at m) P S y n) (sym e.0) (subst (MarkHolds drivers (set marks at m) P S at) (sym e.1) right)
    by x n (inr e) = mark-moved drivers marks (set marks at m) O P R S x (rings-kept marks at was m here no_ring) (opened x e.0) next n (h.each x n e.1)

-- no net bit but that one gets a new mark
pub falls-set : (marks : List Mark) (at : ℕ) (m n : Mark) → at < length marks → (m ≡ n → ⊥) → Falls n marks (set marks at m)
falls-set marks at m n within differs x h = by (slice_get-set marks at m x n within h)
  where
    by : ((x ≡ at) × (n ≡ m)) ⊎ ((x ≡ at → ⊥) × IsAt marks x n) → IsAt marks x n
    by (inl e) = absurd (differs (sym e.1))
    by (inr e) = e.1

-- ---- following a trail

module _ (slots : List Slot) where
  -- one step more
  pub walked-step : (marks : List Mark) (at next : ℕ) → AreMarkedWith (drivers_in slots) marks (IsOnWay (drivers_in slots) marks at) (λ b. IsAt marks b Ring)
      → IsAt marks at New → IsAssigned (drivers_in slots) at next
      → AreMarkedWith (drivers_in slots) (set marks at Open) (IsOnWay (drivers_in slots) (set marks at Open) next) (λ b. IsAt (set marks at Open) b Ring)
  walked-step marks at next h new step =
      marked-set (drivers_in slots) marks _ _ _ _ at New Open h new (λ e. cc)
      (record {
        leads = record { first = next; step = step; rest = Leads-here (drivers_in slots) next };
        next = λ b also. inr (one_source (drivers_in slots) (few_drivers slots) at b next also step);
      })
      (λ x apart way. record {
        leads = LeadsOn-then (drivers_in slots) x at next way.leads (Leads-step (drivers_in slots) at next next step (Leads-here (drivers_in slots) next));
        next = λ b also. inl (now_open b (way.next b also));
      })
      (rings-kept marks at New Open new (λ e. cc))
    where
      opened : IsAt (set marks at Open) at Open
      opened = slice_get-set_same marks at Open (slice_get_within marks at New new)

      now_open : (b : ℕ) → IsAt marks b Open ⊎ (b ≡ at) → IsAt (set marks at Open) b Open
      now_open b (inr e) = ap (slice_get (set marks at Open)) e ∙ opened
      now_open b (inl is) = by (cases_eq b at)
        where
          by : ((b ≡ at) ⊎ (b ≡ at → ⊥)) → IsAt (set marks at Open) b Open
          by (inl e) = ap (slice_get (set marks at Open)) e ∙ opened
          by (inr n) = slice_get-set_other marks at b Open n ∙ is

  -- one step round a ring
  pub closing-step : (marks : List Mark) (start at next : ℕ) → IsClosing (drivers_in slots) marks start at → IsAt marks at Open
      → IsAssigned (drivers_in slots) at next → IsClosing (drivers_in slots) (set marks at Ring) start next
  closing-step marks start at next h opens step = record {
    marked = marked-set (drivers_in slots) marks _ _ _ _ at Open Ring h.marked opens (λ e. cc)
        (record {
          ring = IsRing-leads (drivers_in slots) at (LeadsOn-then (drivers_in slots) at start at way.leads h.leads);
          next = λ b also. inr (one_source (drivers_in slots) (few_drivers slots) at b next also step);
        })
        (λ x apart on. record { leads = on.leads; next = λ b also. on_ring b (on.next b also) })
        (λ b is. inl (ring_next b is));
    leads = Leads-trans (drivers_in slots) start at next h.leads (Leads-step (drivers_in slots) at next next step (Leads-here (drivers_in slots) next));
    here = on_ring next (way.next next step);
  }
    where
      way : IsOnRing (drivers_in slots) marks start at
      way = h.marked.each at Open opens

      ringed : IsAt (set marks at Ring) at Ring
      ringed = slice_get-set_same marks at Ring (slice_get_within marks at Open opens)

      ring_next : (b : ℕ) → IsAt marks b Ring ⊎ (b ≡ at) → IsAt (set marks at Ring) b Ring
      ring_next b (inl is) = rings-kept marks at Open Ring opens (λ e. cc) b is
      ring_next b (inr e) = ap (slice_get (set marks at Ring)) e ∙ ringed

      on_ring : (b : ℕ) → IsAt marks b Open ⊎ IsAt marks b Ring → IsAt (set marks at Ring) b Open ⊎ IsAt (set marks at Ring) b Ring
      on_ring b (inr is) = inr (ring_next b (inl is))
      on_ring b (inl is) = by (cases_eq b at)
        where
          by : ((b ≡ at) ⊎ (b ≡ at → ⊥)) → IsAt (set marks at Ring) b Open ⊎ IsAt (set marks at Ring) b Ring
          by (inl e) = inr (ring_next b (inr e))
          by (inr n) = inl (slice_get-set_other marks at b Ring n ∙ is)

  -- where the walk ended on the trail, its ring can be marked
  pub closing-start : (marks : List Mark) (start : ℕ) → IsWalked (drivers_in slots) marks start → IsAt marks start Open → IsClosing (drivers_in slots) marks start start
  closing-start marks start h opens = record {
    marked = marked-weakened (drivers_in slots) marks (IsOnWay (drivers_in slots) marks start) (IsOnRing (drivers_in slots) marks start) (λ b. IsAt marks b Ring) (λ b. IsAt marks b Ring ⊎ (b ≡ start)) h.marked
        (λ x way. record { leads = way.leads; next = λ b step. to_ring b (way.next b step) }) (λ b r. inl r);
    leads = Leads-here (drivers_in slots) start;
    here = inl opens;
  }
    where
      to_ring : (b : ℕ) → IsAt marks b Open ⊎ (b ≡ start) → IsAt marks b Open ⊎ IsAt marks b Ring
      to_ring b (inl is) = inl is
      to_ring b (inr e) = inl (ap (slice_get marks) e ∙ opens)

  -- and once it is marked, what is left of the trail leads into it
  pub closing-end : (marks : List Mark) (start at : ℕ) → IsClosing (drivers_in slots) marks start at
      → (IsAt marks at Open → (b : ℕ) → IsAssigned (drivers_in slots) at b → ⊥) → CanSettle (drivers_in slots) marks Lost
  closing-end marks start at h stuck =
      marked-weakened (drivers_in slots) marks (IsOnRing (drivers_in slots) marks start) (λ x. IsLost (drivers_in slots) marks x) (λ b. IsAt marks b Ring ⊎ (b ≡ at)) (λ b. IsAt marks b Ring) h.marked
      (λ x on. record { ring = at; leads = Leads-trans (drivers_in slots) x start at (LeadsOn-leads (drivers_in slots) x start on.leads) h.leads; marked = ringed h.here }) next
    where
      ringed : IsAt marks at Open ⊎ IsAt marks at Ring → IsAt marks at Ring
      ringed (inr is) = is
      ringed (inl is) = let way : IsOnRing (drivers_in slots) marks start at = h.marked.each at Open is in absurd (stuck is way.leads.first way.leads.step)

      next : (b : ℕ) → IsAt marks b Ring ⊎ (b ≡ at) → IsAt marks b Ring
      next b (inl is) = is
      next b (inr e) = ap (slice_get marks) e ∙ ringed h.here

  -- where the walk ended at a net bit that has a root or leads into a ring, so does the trail
  pub settles-at : (marks : List Mark) (at : ℕ) (m : Mark) → IsWalked (drivers_in slots) marks at → IsAt marks at m → (m ≡ Open → ⊥) → CanSettle (drivers_in slots) marks (ending m)
  settles-at marks at m h is not_open =
      marked-weakened (drivers_in slots) marks (IsOnWay (drivers_in slots) marks at) (λ x. MarkHolds (drivers_in slots) marks (λ y. ⊥) (λ b. ⊥) x (ending m)) (λ b. IsAt marks b Ring) (λ b. IsAt marks b Ring) h.marked
      (λ x way. right x m is not_open way) (λ b r. r)
    where
      right : (x : ℕ) (m : Mark) → IsAt marks at m → (m ≡ Open → ⊥) → IsOnWay (drivers_in slots) marks at x → MarkHolds (drivers_in slots) marks (λ y. ⊥) (λ b. ⊥) x (ending m)
      right x New is not_open way = absurd (h.stopped is)
      right x Open is not_open way = absurd (not_open refl)
      right x (Ends root) is not_open way = IsRoot-leads (drivers_in slots) x at root (LeadsOn-leads (drivers_in slots) x at way.leads) (h.marked.each at (Ends root) is)
      right x Lost is not_open way =
          let lost : IsLost (drivers_in slots) marks at = h.marked.each at Lost is in
          record { ring = lost.ring; leads = Leads-trans (drivers_in slots) x at lost.ring (LeadsOn-leads (drivers_in slots) x at way.leads) lost.leads; marked = lost.marked }
      right x Ring is not_open way = record { ring = at; leads = LeadsOn-leads (drivers_in slots) x at way.leads; marked = is }

pub ending-IsEnd : (m : Mark) → IsEnd (ending m)
ending-IsEnd New = tt
ending-IsEnd Open = tt
ending-IsEnd (Ends root) = tt
ending-IsEnd Lost = tt
ending-IsEnd Ring = tt

-- ---- leaving a trail

-- one of the trail is settled
pub settle-step : (drivers : ℕ → List Driver) (marks : List Mark) (at : ℕ) (m : Mark) → IsEnd m → IsAt marks at Open → CanSettle drivers marks m → CanSettle drivers (set marks at m) m
settle-step drivers marks at m end opens h = marked-set drivers marks _ _ _ _ at Open m h opens (λ e. cc) (by m end (moved at m (h.each at Open opens)))
    (λ x apart fits. moved x m fits) (rings-kept marks at Open m opens (λ e. cc))
  where
    moved : (x : ℕ) (n : Mark) → MarkHolds drivers marks (λ y. ⊥) (λ b. ⊥) x n → MarkHolds drivers (set marks at m) (λ y. ⊥) (λ b. ⊥) x n
    moved x n k = mark-moved drivers marks (set marks at m) (λ y. ⊥) (λ y. ⊥) (λ b. ⊥) (λ b. ⊥) x (rings-kept marks at Open m opens (λ e. cc)) (λ y. y) (λ b r. r) n k

    by : (n : Mark) → IsEnd n → MarkHolds drivers (set marks at m) (λ y. ⊥) (λ b. ⊥) at n
        → MarkHolds drivers (set marks at m) (λ x. MarkHolds drivers (set marks at m) (λ y. ⊥) (λ b. ⊥) x m) (λ b. IsAt (set marks at m) b Ring) at n
    by New never k = absurd never
    by Open never k = absurd never
    by (Ends root) end k = k
    by Lost end k = k
    by Ring never k = absurd never

-- what is opens is on the rest of the trail
pub opens-set : (marks : List Mark) (net : NetNo) (rest : List NetNo) (m : Mark) → IsEnd m → net.0 < length marks → OpensIn (net ∷ rest) marks → OpensIn rest (set marks net.0 m)
opens-set marks net rest m end within h x is = by (slice_get-set marks net.0 m x Open within is)
  where
    not_end : IsEnd Open → ⊥
    not_end e = e

    by : ((x ≡ net.0) × (Open ≡ m)) ⊎ ((x ≡ net.0 → ⊥) × IsAt marks x Open) → Contains rest (record { 0 = x })
    by (inl e) = absurd (not_end (subst IsEnd (sym e.1) end))
    by (inr e) = contains-rest net rest (record { 0 = x }) (λ same. e.0 (sym (ap (λ (n : NetNo). n.0) same))) (h x e.1)

pub opens-skip : (marks : List Mark) (net : NetNo) (rest : List NetNo) → (IsAt marks net.0 Open → ⊥) → OpensIn (net ∷ rest) marks → OpensIn rest marks
opens-skip marks net rest closed h x is =
    contains-rest net rest (record { 0 = x }) (λ same. closed (ap (slice_get marks) (ap (λ (n : NetNo). n.0) same) ∙ is)) (h x is)

-- with none of the trail left no mark is opens
pub settled : (drivers : ℕ → List Driver) (marks : List Mark) (m : Mark) → CanSettle drivers marks m → OpensIn [] marks → AreMarked drivers marks
settled drivers marks m h none = record { each = λ x n is. by x n is (h.each x n is) }
  where
    no_item : (x : ℕ) → Contains {X = NetNo} [] (record { 0 = x }) → ⊥
    no_item x k = omega (arith, k.1)

    by : (x : ℕ) (n : Mark) → IsAt marks x n → MarkHolds drivers marks (λ x. MarkHolds drivers marks (λ y. ⊥) (λ b. ⊥) x m) (λ b. IsAt marks b Ring) x n
        → MarkHolds drivers marks (λ x. ⊥) (λ b. IsAt marks b Ring) x n
    by x New is k = k
    by x Open is k = no_item x (none x is)
    by x (Ends root) is k = k
    by x Lost is k = k
    by x Ring is k = k

-- ---- loops

-- whether a mark is new
abbrev pub is_new : Mark → Bool
is_new New = true
is_new Open = false
is_new (Ends root) = false
is_new Lost = false
is_new Ring = false

-- fewer pass a test once one that passed it doesn't
pub count-set : (p : Mark → Bool) (marks : List Mark) (at : ℕ) (was m : Mark) → IsAt marks at was → p was ≡ true → p m ≡ false → count_by p (set marks at m) < count_by p marks
count-set p marks at was m here passed fails =
    let within = slice_get_within marks at was here in
    let is : get_or marks at was ≡ was = get_or_from_slice_get marks at was was here in
    let change = sum_by-set (λ (x : Mark). cond {A = ℕ} (p x) 1 0) marks at m was within in
    let one : cond {A = ℕ} (p (get_or marks at was)) 1 0 ≡ 1 = ap (λ (x : Mark). cond {A = ℕ} (p x) 1 0) is ∙ ap (λ (b : Bool). cond {A = ℕ} b 1 0) passed in
    let none : cond {A = ℕ} (p m) 1 0 ≡ 0 = ap (λ (b : Bool). cond {A = ℕ} b 1 0) fails in
    omega (arith, change, one, none)

pub Falls-trans : (m : Mark) (a b c : List Mark) → Falls m a b → Falls m b c → Falls m a c
Falls-trans m a b c h k x is = h x (k x is)

-- a walk from start that has come to `at`
pub record IsWalking (slots : List Slot) (old marks : List Mark) (trail : List NetNo) (start at : ℕ) : Type 0 where
  pub marked : AreMarkedWith (drivers_in slots) marks (IsOnWay (drivers_in slots) marks at) (λ b. IsAt marks b Ring)
  pub opens : OpensIn trail marks
  pub within : AllByRecursion (λ net. net.0 < length slots) trail
  pub news : Falls New old marks
  pub start_known : (start ≡ at) ⊎ (IsAt marks start New → ⊥)
  pub place : at < length slots
  pub each : length marks ≡ length slots

pub walking-start : (slots : List Slot) (marks : List Mark) (trail : List NetNo) (start : ℕ) → AreMarked (drivers_in slots) marks → length marks ≡ length slots
    → start < length slots → trail ≡ [] → IsWalking slots marks marks trail start start
walking-start slots marks trail start h each within empty = record {
  marked = marked-weakened (drivers_in slots) marks (λ x. ⊥) (IsOnWay (drivers_in slots) marks start) (λ b. IsAt marks b Ring) (λ b. IsAt marks b Ring) h (λ x never. absurd never) (λ b r. r);
  opens = λ x is. absurd (h.each x Open is);
  within = subst (AllByRecursion (λ (net : NetNo). net.0 < length slots)) (sym empty) tt;
  news = λ x is. is;
  start_known = inl refl;
  place = within;
  each = each;
}

pub walking-step : (slots : List Slot) (old marks : List Mark) (trail more : List NetNo) (start : ℕ) (at next : NetNo) → AreLinks slots
    → IsWalking slots old marks trail start at.0 → IsAt marks at.0 New → IsAssigned (drivers_in slots) at.0 next.0 → more ≡ trail ++ at ∷ []
    → IsWalking slots old (set marks at.0 Open) more start next.0
walking-step slots old marks trail more start at next links h new step pushed = record {
  marked = walked-step slots marks at.0 next.0 h.marked new step;
  opens = λ x is. subst (λ (l : List NetNo). Contains l (record { 0 = x })) (sym pushed) (open_in x (slice_get-set marks at.0 Open x Open (slice_get_within marks at.0 New new) is));
  within = subst (AllByRecursion (λ (net : NetNo). net.0 < length slots)) (sym pushed) (AllByRecursion-append (λ (net : NetNo). net.0 < length slots) trail (at ∷ []) h.within (h.place, tt));
  news = Falls-trans New old marks (set marks at.0 Open) h.news falls;
  start_known = inr (λ is. by h.start_known is);
  place = links at.0 next.0 step;
  each = length-set marks at.0 Open ∙ h.each;
}
  where
    falls : Falls New marks (set marks at.0 Open)
    falls = falls-set marks at.0 Open New (slice_get_within marks at.0 New new) (λ e. cc)

    open_in : (x : ℕ) → ((x ≡ at.0) × (Open ≡ Open)) ⊎ ((x ≡ at.0 → ⊥) × IsAt marks x Open) → Contains (trail ++ at ∷ []) (record { 0 = x })
    open_in x (inl e) = Contains-append_right trail (at ∷ []) (record { 0 = x }) (0, omega arith, sym (ap (λ (n : ℕ). record { 0 = n }) e.0))
    open_in x (inr e) = Contains-append_left trail (at ∷ []) (record { 0 = x }) (h.opens x e.1)

    by : (start ≡ at.0) ⊎ (IsAt marks start New → ⊥) → IsAt (set marks at.0 Open) start New → ⊥
    by (inr known) is = known (falls start is)
    by (inl e) is = let opened = slice_get-set_same marks at.0 Open (slice_get_within marks at.0 New new) in
        let both : Some Open ≡ Some New = sym opened ∙ ap (slice_get (set marks at.0 Open)) (sym e) ∙ is in cc

pub walking-end : (slots : List Slot) (old marks : List Mark) (trail : List NetNo) (start at : ℕ) → IsWalking slots old marks trail start at
    → (IsAt marks at New → (b : ℕ) → IsAssigned (drivers_in slots) at b → ⊥) → IsWalked (drivers_in slots) marks at
walking-end slots old marks trail start at h stuck = record {
  marked = h.marked;
  stopped = λ new. let from : (b : ℕ) × IsAssigned (drivers_in slots) at b = h.marked.each at New new in stuck new from.0 from.1;
  within = omega (arith, h.place, h.each);
}

pub walking-start_known : (slots : List Slot) (old marks : List Mark) (trail : List NetNo) (start at : ℕ) → IsWalking slots old marks trail start at
    → (IsAt marks at New → ⊥) → IsAt marks start New → ⊥
walking-start_known slots old marks trail start at h stopped = by h.start_known
  where
    by : (start ≡ at) ⊎ (IsAt marks start New → ⊥) → IsAt marks start New → ⊥
    by (inl e) is = stopped (ap (slice_get marks) (sym e) ∙ is)
    by (inr known) is = known is

-- the ring of start, marked up to before `at`
pub record IsRinging (slots : List Slot) (old marks : List Mark) (start at : ℕ) : Type 0 where
  pub closing : IsClosing (drivers_in slots) marks start at
  pub opens : Falls Open old marks
  pub news : Falls New old marks
  pub each : length marks ≡ length slots

pub ringing-start : (slots : List Slot) (marks : List Mark) (start : ℕ) → IsWalked (drivers_in slots) marks start → IsAt marks start Open → length marks ≡ length slots
    → IsRinging slots marks marks start start
ringing-start slots marks start h opened each = record { closing = closing-start slots marks start h opened; opens = λ x is. is; news = λ x is. is; each = each }

pub ringing-step : (slots : List Slot) (old marks : List Mark) (start at next : ℕ) → IsRinging slots old marks start at → IsAt marks at Open
    → IsAssigned (drivers_in slots) at next → IsRinging slots old (set marks at Ring) start next
ringing-step slots old marks start at next h opened step = record {
  closing = closing-step slots marks start at next h.closing opened step;
  opens = Falls-trans Open old marks (set marks at Ring) h.opens (falls-set marks at Ring Open (slice_get_within marks at Open opened) (λ e. cc));
  news = Falls-trans New old marks (set marks at Ring) h.news (falls-set marks at Ring New (slice_get_within marks at Open opened) (λ e. cc));
  each = length-set marks at Ring ∙ h.each;
}

pub ringing-within : (slots : List Slot) (old marks : List Mark) (start at : ℕ) → IsRinging slots old marks start at → at < length marks
ringing-within slots old marks start at h = by h.closing.here
  where
    by : IsAt marks at Open ⊎ IsAt marks at Ring → at < length marks
    by (inl is) = slice_get_within marks at Open is
    by (inr is) = slice_get_within marks at Ring is

-- a trail that is settled up to before what is left of it
pub record IsSettling (mark : Mark) (all : List NetNo) (old : List Mark) (left : List NetNo) (marks : List Mark) : Type 0 where
  pub marked : (drivers : ℕ → List Driver) → CanSettle drivers old mark → OpensIn all old → CanSettle drivers marks mark × OpensIn left marks
  pub within : AllByRecursion (λ net. net.0 < length marks) left
  pub news : Falls New old marks
  pub each : length marks ≡ length old

pub settling-step : (mark : Mark) (all : List NetNo) (old : List Mark) (net : NetNo) (left : List NetNo) (marks : List Mark) → IsEnd mark
    → IsSettling mark all old (net ∷ left) marks → IsAt marks net.0 Open → IsSettling mark all old left (set marks net.0 mark)
settling-step mark all old net left marks end h opened = record {
  marked = λ drivers can opens. let had = h.marked drivers can opens in
      (settle-step drivers marks net.0 mark end opened had.0, opens-set marks net left mark end (slice_get_within marks net.0 Open opened) had.1);
  within = subst (λ (n : ℕ). AllByRecursion (λ (k : NetNo). k.0 < n) left) (sym (length-set marks net.0 mark)) h.within.1;
  news = Falls-trans New old marks (set marks net.0 mark) h.news (falls-set marks net.0 mark New (slice_get_within marks net.0 Open opened) (not_new mark end));
  each = length-set marks net.0 mark ∙ h.each;
}
  where
    not_new : (m : Mark) → IsEnd m → m ≡ New → ⊥
    not_new m e is = subst IsEnd is e

pub settling-skip : (mark : Mark) (all : List NetNo) (old : List Mark) (net : NetNo) (left : List NetNo) (marks : List Mark)
    → IsSettling mark all old (net ∷ left) marks → (IsAt marks net.0 Open → ⊥) → IsSettling mark all old left marks
settling-skip mark all old net left marks h closed = record {
  marked = λ drivers can opens. let had = h.marked drivers can opens in (had.0, opens-skip marks net left closed had.1);
  within = h.within.1;
  news = h.news;
  each = h.each;
}

is_open-Open : (m : Mark) → is_open m ≡ true → m ≡ Open
is_open-Open New h = cc
is_open-Open Open h = refl
is_open-Open (Ends root) h = cc
is_open-Open Lost h = cc
is_open-Open Ring h = cc

is_open-apart : (m : Mark) → is_open m ≡ false → m ≡ Open → ⊥
is_open-apart Open h e = cc
is_open-apart New h e = cc
is_open-apart (Ends root) h e = cc
is_open-apart Lost h e = cc
is_open-apart Ring h e = cc

-- one more of the trail, whether it is open or not
pub settling-next : (mark : Mark) (all : List NetNo) (old marks new : List Mark) (i : ℕ) (d : NetNo) → IsEnd mark → i < length all
    → new ≡ cond (is_open (get_or marks (get_or all i d).0 New)) (set marks (get_or all i d).0 mark) marks
    → IsSettling mark all old (drop i all) marks → IsSettling mark all old (drop (i + 1) all) new
settling-next mark all old marks new i d end lt is h =
    subst (IsSettling mark all old (drop (i + 1) all)) (sym is) (by (is_open (get_or marks net.0 New)) refl)
  where
    net : NetNo
    net = get_or all i d

    here : IsSettling mark all old (net ∷ drop (i + 1) all) marks
    here = subst (λ (l : List NetNo). IsSettling mark all old l marks) (drop_more all i d lt) h

    at : IsAt marks net.0 (get_or marks net.0 New)
    at = slice_get-get_or marks net.0 New here.within.0

    by : (b : Bool) → is_open (get_or marks net.0 New) ≡ b → IsSettling mark all old (drop (i + 1) all) (cond b (set marks net.0 mark) marks)
    by true open_now = settling-step mark all old net (drop (i + 1) all) marks end here (at ∙ ap Some (is_open-Open (get_or marks net.0 New) open_now))
    by false closed = settling-skip mark all old net (drop (i + 1) all) marks here
        (λ opened. is_open-apart (get_or marks net.0 New) closed (let both : Some (get_or marks net.0 New) ≡ Some Open = sym at ∙ opened in cc))

pub settling-end : (mark : Mark) (all : List NetNo) (old marks : List Mark) (i : ℕ) → length all ≤ i → IsSettling mark all old (drop i all) marks
    → (drivers : ℕ → List Driver) → CanSettle drivers old mark → OpensIn all old → AreMarked drivers marks
settling-end mark all old marks i past h drivers can opens =
    let had = h.marked drivers can opens in
    settled drivers marks mark had.0 (subst (λ (l : List NetNo). OpensIn l marks) (drop_all i all past) had.1)

-- the walk ended at a net bit that isn't on the trail, or at one that is
pub settles-closed : (slots : List Slot) (marks : List Mark) (at : ℕ) (d m : Mark) → IsWalked (drivers_in slots) marks at → is_open (get_or marks at d) ≡ false
    → m ≡ ending (get_or marks at d) → CanSettle (drivers_in slots) marks m
settles-closed slots marks at d m h closed is =
    subst (CanSettle (drivers_in slots) marks) (sym is)
    (settles-at slots marks at (get_or marks at d) h (slice_get-get_or marks at d h.within) (is_open-apart (get_or marks at d) closed))

-- ---- the first marks

driver_at : (slots : List Slot) (x : ℕ) (s : Slot) → slice_get slots x ≡ Some s → drivers_in slots x ≡ slot_drivers s
driver_at slots x s h = ap slot_drivers (get_or_from_slice_get slots x s Free h)

pub first_marks-right : (slots : List Slot) → AreMarked (drivers_in slots) (map first_mark slots)
first_marks-right slots = record {
  each = λ x m is. let at = option_map-Some first_mark (slice_get slots x) m (sym (slice_get-map first_mark slots x) ∙ is) in
      subst (MarkHolds (drivers_in slots) (map first_mark slots) (λ y. ⊥) (λ b. IsAt (map first_mark slots) b Ring) x) at.2 (by x at.0 (driver_at slots x at.0 at.1));
}
  where
    itself : (x : ℕ) (root : Root) → EndsAt (drivers_in slots) x root → IsRoot (drivers_in slots) x root
    itself x root end = record { bits = []; walk = tt; end = end }

    by : (x : ℕ) (s : Slot) → drivers_in slots x ≡ slot_drivers s → MarkHolds (drivers_in slots) (map first_mark slots) (λ y. ⊥) (λ b. IsAt (map first_mark slots) b Ring) x (first_mark s)
    by x Free e = itself x Nothing e
    by x Several e = itself x Nothing e
    by x (Only (ByPin p)) e = itself x (Pin p) (subst (λ (xs : List Driver). Contains xs (ByPin p)) (sym e) (0, omega arith, refl))
    by x (Only (ByNet n)) e = (n.0, subst (λ (xs : List Driver). Contains xs (ByNet n)) (sym e) (0, omega arith, refl))
    by x (Only ByZero) e = itself x Zero (subst (λ (xs : List Driver). Contains xs ByZero) (sym e) (0, omega arith, refl))
    by x (Only ByOne) e = itself x One (subst (λ (xs : List Driver). Contains xs ByOne) (sym e) (0, omega arith, refl))

-- ---- what the marks tell in the end

module _ (slots : List Slot) (marks : List Mark) (marked : AreMarked (drivers_in slots) marks) (each : length marks ≡ length slots)
    (done : AreDone (length slots) marks) where
  no_new : (x : ℕ) → IsAt marks x New → ⊥
  no_new x is = let within = slice_get_within marks x New is in done x (omega arith) is

  closed : (a b : ℕ) → IsAt marks a Ring → IsAssigned (drivers_in slots) a b → IsAt marks b Ring
  closed a b is step = let on : IsOnMarkedRing (drivers_in slots) (λ b. IsAt marks b Ring) a = marked.each a Ring is in on.next b step

  unmarked : (x : ℕ) (m : Mark) → IsAt marks x m → (IsAt marks x Ring → ⊥) → IsRing (drivers_in slots) x → ⊥
  unmarked x New is unringed ring = no_new x is
  unmarked x Open is unringed ring = marked.each x Open is
  unmarked x (Ends root) is unringed ring = root-no_ring (drivers_in slots) (few_drivers slots) x root (marked.each x (Ends root) is) ring
  unmarked x Lost is unringed ring =
      let lost : IsLost (drivers_in slots) marks x = marked.each x Lost is in
      unringed (ring_inside (drivers_in slots) (few_drivers slots) (λ y. IsAt marks y Ring) closed x lost.leads.bits ring lost.leads.walk (subst (λ (y : ℕ). IsAt marks y Ring) (sym lost.leads.last) lost.marked))
  unmarked x Ring is unringed ring = unringed is

  -- a net bit on a ring is marked so
  pub ring-marked : (x : ℕ) → IsRing (drivers_in slots) x → (IsAt marks x Ring → ⊥) → ⊥
  ring-marked x ring unringed = by (slice_get marks x) refl
    where
      by : (o : Option Mark) → slice_get marks x ≡ o → ⊥
      by (Some m) is = unmarked x m is unringed ring
      by None is = let within = assigned-within slots x ring.first ring.walk.0 in let some = slice_get-get_or marks x New (omega arith) in cc

  pub first_ring : (n : ℕ) → IsFirst (λ x. IsAt marks x Ring) n → IsFirst (IsRing (drivers_in slots)) n
  first_ring n h = record {
    holds = (let on : IsOnMarkedRing (drivers_in slots) (λ b. IsAt marks b Ring) n = marked.each n Ring h.holds in on.ring);
    none_before = λ m lt ring. ring-marked m ring (h.none_before m lt);
  }

  module _ (none : HasNone (λ x. IsAt marks x Ring)) where
    pub no_ring : HasNone (IsRing (drivers_in slots))
    no_ring n ring = ring-marked n ring (none n)

    root_at : (n : ℕ) (m : Mark) → IsAt marks n m → IsRoot (drivers_in slots) n (root_in m)
    root_at n New is = absurd (no_new n is)
    root_at n Open is = absurd (marked.each n Open is)
    root_at n (Ends root) is = marked.each n (Ends root) is
    root_at n Lost is = let lost : IsLost (drivers_in slots) marks n = marked.each n Lost is in absurd (none lost.ring lost.marked)
    root_at n Ring is = absurd (none n is)

    pub roots : AreRoots (drivers_in slots) (length slots) (map root_in marks)
    roots = record {
      each = length-map marks root_in ∙ each;
      root = λ n r is. let at = option_map-Some root_in (slice_get marks n) r (sym (slice_get-map root_in marks n) ∙ is) in
          subst (IsRoot (drivers_in slots) n) at.2 (root_at n at.0 at.1);
    }
