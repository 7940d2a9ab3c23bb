-- Walks by assignments: joined ones, rings, and what a set that no assignment leads out of tells of them.
use Rattle.std.proofs.Common.{◌≡◌, ℕ, ◌+◌, ◌<◌, ◌≤◌, List, [], ◌∷◌, ◌++◌, length, refl, sym, ap, subst, ◌∙◌, arith}
use Rattle.std.specs.Prelude.{Contains}
use Rattle.hold_base.proofs.Orders.{le-never}
use Rattle.hold_base.specs.declared.number.NetNo.{NetNo}
use Rattle.hold_roles.specs.declared.drivers.Driver.{Driver}
use Rattle.hold_roles.specs.declared.drivers.Driver.TheVariants.{Pin as ByPin, Net as ByNet, Zero as ByZero, One as ByOne}
use Rattle.hold_roles.specs.declared.roots.Root.{Root}
use Rattle.hold_roles.specs.declared.roots.Root.TheVariants.{Pin, Zero, One, Nothing}
use Rattle.hold_roles.specs.Roots.{IsAssigned, IsWalk, last_of, EndsAt, IsRoot, IsRing}
use Rattle.hold_roles.specs.inner.Marks.{Leads, LeadsOn}

pub lt-never : (a b : ℕ) → (b ≤ a → ⊥) → a < b
lt-never a b never = let least = le-never (a + 1) b (λ more. never (omega arith)) in omega arith

-- the items of a list of one item at most are one
one_item : (xs : List Driver) (x y : Driver) → length xs ≤ 1 → Contains xs x → Contains xs y → x ≡ y
one_item [] x y few h k = absurd (omega (arith, h.1))
one_item (z ∷ []) x y few (i, lt, is) (j, lt2, is2) =
    let first : i ≡ 0 = omega arith in
    let second : j ≡ 0 = omega arith in
    let here : z ≡ x = (rw first at is) in
    let there : z ≡ y = (rw second at is2) in
    sym here ∙ there
one_item (z ∷ w ∷ xs) x y few h k = absurd (omega arith)

no_item : (xs : List Driver) (x : Driver) → xs ≡ [] → Contains xs x → ⊥
no_item [] x e h = omega (arith, h.1)
no_item (y ∷ ys) x e h = cc

net_same : (m n : NetNo) → ByNet m ≡ ByNet n → m ≡ n
net_same m n h = cc

module _ (drivers : ℕ → List Driver) where
  pub last_of-append : (a : ℕ) (bits more : List ℕ) → last_of a (bits ++ more) ≡ last_of (last_of a bits) more
  last_of-append a [] more = refl
  last_of-append a (b ∷ bs) more = last_of-append b bs more

  pub IsWalk-append : (a : ℕ) (bits more : List ℕ) → IsWalk drivers a bits → IsWalk drivers (last_of a bits) more → IsWalk drivers a (bits ++ more)
  IsWalk-append a [] more h k = k
  IsWalk-append a (b ∷ bs) more h k = (h.0, IsWalk-append b bs more h.1 k)

  pub Leads-here : (a : ℕ) → Leads drivers a a
  Leads-here a = record { bits = []; walk = tt; last = refl }

  pub Leads-step : (a b c : ℕ) → IsAssigned drivers a b → Leads drivers b c → Leads drivers a c
  Leads-step a b c step h = record { bits = b ∷ h.bits; walk = (step, h.walk); last = h.last }

  pub Leads-trans : (a b c : ℕ) → Leads drivers a b → Leads drivers b c → Leads drivers a c
  Leads-trans a b c h k = record {
    bits = h.bits ++ k.bits;
    walk = IsWalk-append a h.bits k.bits h.walk (subst (λ (x : ℕ). IsWalk drivers x k.bits) (sym h.last) k.walk);
    last = last_of-append a h.bits k.bits ∙ ap (λ x. last_of x k.bits) h.last ∙ k.last;
  }

  pub LeadsOn-leads : (a b : ℕ) → LeadsOn drivers a b → Leads drivers a b
  LeadsOn-leads a b h = Leads-step a h.first b h.step h.rest

  pub LeadsOn-then : (a b c : ℕ) → LeadsOn drivers a b → Leads drivers b c → LeadsOn drivers a c
  LeadsOn-then a b c h k = record { first = h.first; step = h.step; rest = Leads-trans h.first b c h.rest k }

  pub Leads-then_on : (a b c : ℕ) → Leads drivers a b → LeadsOn drivers b c → LeadsOn drivers a c
  Leads-then_on a b c h on = by h.bits h.walk h.last
    where
      by : (bits : List ℕ) → IsWalk drivers a bits → last_of a bits ≡ b → LeadsOn drivers a c
      by [] w e = subst (λ (x : ℕ). LeadsOn drivers x c) (sym e) on
      by (x ∷ xs) w e = record { first = x; step = w.0; rest = Leads-trans x b c (record { bits = xs; walk = w.1; last = e }) (LeadsOn-leads b c on) }

  -- what leads to a net bit has its root
  pub IsRoot-leads : (a b : ℕ) (root : Root) → Leads drivers a b → IsRoot drivers b root → IsRoot drivers a root
  IsRoot-leads a b root h k = record {
    bits = h.bits ++ k.bits;
    walk = IsWalk-append a h.bits k.bits h.walk (subst (λ (x : ℕ). IsWalk drivers x k.bits) (sym h.last) k.walk);
    end = subst (λ (x : ℕ). EndsAt drivers x root) (sym (last_of-append a h.bits k.bits ∙ ap (λ x. last_of x k.bits) h.last)) k.end;
  }

  pub IsRing-leads : (a : ℕ) → LeadsOn drivers a a → IsRing drivers a
  IsRing-leads a h = record { first = h.first; rest = h.rest.bits; walk = (h.step, h.rest.walk); back = h.rest.last }

  -- what a net bit on a ring is assigned from leads back to it
  module _ (few : (n : ℕ) → length (drivers n) ≤ 1) where
    pub one_source : (a b c : ℕ) → IsAssigned drivers a b → IsAssigned drivers a c → b ≡ c
    one_source a b c h k = ap (λ (n : NetNo). n.0) (net_same (record { 0 = b }) (record { 0 = c }) (one_item (drivers a) _ _ (few a) h k))

    ring_back : (a b : ℕ) → IsRing drivers a → IsAssigned drivers a b → Leads drivers b a
    ring_back a b ring step =
        subst (λ (x : ℕ). Leads drivers x a) (one_source a ring.first b ring.walk.0 step) (record { bits = ring.rest; walk = ring.walk.1; last = ring.back })

    pub ring_next : (a b : ℕ) → IsRing drivers a → IsAssigned drivers a b → IsRing drivers b
    ring_next a b ring step =
        IsRing-leads b (Leads-then_on b a b (ring_back a b ring step) (record { first = b; step = step; rest = Leads-here b }))

    -- a walk doesn't leave a set that no assignment leads out of
    module _ (Inside : ℕ → Type 0) (closed : (a b : ℕ) → Inside a → IsAssigned drivers a b → Inside b) where
      stays : (a : ℕ) (bits : List ℕ) → Inside a → IsWalk drivers a bits → Inside (last_of a bits)
      stays a [] inside w = inside
      stays a (b ∷ bs) inside w = stays b bs (closed a b inside w.0) w.1

      -- so a ring from which a walk leads into it lies in it
      pub ring_inside : (a : ℕ) (bits : List ℕ) → IsRing drivers a → IsWalk drivers a bits → Inside (last_of a bits) → Inside a
      ring_inside a [] ring w inside = inside
      ring_inside a (b ∷ bs) ring w inside =
          let next = ring_inside b bs (ring_next a b ring w.0) w.1 inside in
          let back = ring_back a b ring w.0 in
          subst Inside back.last (stays b back.bits next back.walk)

    -- a net bit that has its root itself isn't assigned from another
    ends-unassigned : (x : ℕ) (root : Root) → EndsAt drivers x root → (b : ℕ) → IsAssigned drivers x b → ⊥
    ends-unassigned x (Pin p) h b step = let same = one_item (drivers x) _ _ (few x) h step in cc
    ends-unassigned x Zero h b step = let same = one_item (drivers x) _ _ (few x) h step in cc
    ends-unassigned x One h b step = let same = one_item (drivers x) _ _ (few x) h step in cc
    ends-unassigned x Nothing h b step = none (rw h at step)
      where
        none : Contains [] (ByNet (record { 0 = b })) → ⊥
        none k = omega (arith, k.1)

    walk-no_ring : (x : ℕ) (bits : List ℕ) (root : Root) → IsWalk drivers x bits → EndsAt drivers (last_of x bits) root → IsRing drivers x → ⊥
    walk-no_ring x [] root w end ring = ends-unassigned x root end ring.first ring.walk.0
    walk-no_ring x (b ∷ bs) root w end ring = walk-no_ring b bs root w.1 end (ring_next x b ring w.0)

    -- a net bit with a root isn't on a ring
    pub root-no_ring : (x : ℕ) (root : Root) → IsRoot drivers x root → IsRing drivers x → ⊥
    root-no_ring x root h ring = walk-no_ring x h.bits root h.walk h.end ring

    -- it has one root itself
    ends-one : (x : ℕ) (r s : Root) → EndsAt drivers x r → EndsAt drivers x s → r ≡ s
    ends-one x (Pin p) (Pin q) h k = let same = one_item (drivers x) _ _ (few x) h k in cc
    ends-one x (Pin p) Zero h k = let same = one_item (drivers x) _ _ (few x) h k in cc
    ends-one x (Pin p) One h k = let same = one_item (drivers x) _ _ (few x) h k in cc
    ends-one x (Pin p) Nothing h k = absurd (no_item (drivers x) (ByPin p) k h)
    ends-one x Zero (Pin q) h k = let same = one_item (drivers x) _ _ (few x) h k in cc
    ends-one x Zero Zero h k = refl
    ends-one x Zero One h k = let same = one_item (drivers x) _ _ (few x) h k in cc
    ends-one x Zero Nothing h k = absurd (no_item (drivers x) ByZero k h)
    ends-one x One (Pin q) h k = let same = one_item (drivers x) _ _ (few x) h k in cc
    ends-one x One Zero h k = let same = one_item (drivers x) _ _ (few x) h k in cc
    ends-one x One One h k = refl
    ends-one x One Nothing h k = absurd (no_item (drivers x) ByOne k h)
    ends-one x Nothing (Pin q) h k = absurd (no_item (drivers x) (ByPin q) h k)
    ends-one x Nothing Zero h k = absurd (no_item (drivers x) ByZero h k)
    ends-one x Nothing One h k = absurd (no_item (drivers x) ByOne h k)
    ends-one x Nothing Nothing h k = refl

    walks-one : (x : ℕ) (bits more : List ℕ) (r s : Root) → IsWalk drivers x bits → IsWalk drivers x more → EndsAt drivers (last_of x bits) r → EndsAt drivers (last_of x more) s → r ≡ s
    walks-one x [] [] r s w v h k = ends-one x r s h k
    walks-one x [] (c ∷ cs) r s w v h k = absurd (ends-unassigned x r h c v.0)
    walks-one x (b ∷ bs) [] r s w v h k = absurd (ends-unassigned x s k b w.0)
    walks-one x (b ∷ bs) (c ∷ cs) r s w v h k =
        let same = one_source x b c w.0 v.0 in
        walks-one b bs cs r s w.1 (subst (λ (y : ℕ). IsWalk drivers y cs) (sym same) v.1) h (subst (λ (y : ℕ). EndsAt drivers (last_of y cs) s) (sym same) k)

    -- a net bit has one root
    pub root-one : (x : ℕ) (r s : Root) → IsRoot drivers x r → IsRoot drivers x s → r ≡ s
    root-one x r s h k = walks-one x h.bits k.bits r s h.walk k.walk h.end k.end

-- The same of two tellings of what drives each net bit.
module _ (f g : ℕ → List Driver) (same : (n : ℕ) → f n ≡ g n) where
  pub IsAssigned-same : (a b : ℕ) → IsAssigned f a b → IsAssigned g a b
  IsAssigned-same a b h = subst (λ (xs : List Driver). Contains xs (ByNet (record { 0 = b }))) (same a) h

  pub IsWalk-same : (a : ℕ) (bits : List ℕ) → IsWalk f a bits → IsWalk g a bits
  IsWalk-same a [] h = tt
  IsWalk-same a (b ∷ bs) h = (IsAssigned-same a b h.0, IsWalk-same b bs h.1)

  pub EndsAt-same : (n : ℕ) (root : Root) → EndsAt f n root → EndsAt g n root
  EndsAt-same n (Pin p) h = subst (λ (xs : List Driver). Contains xs (ByPin p)) (same n) h
  EndsAt-same n Zero h = subst (λ (xs : List Driver). Contains xs ByZero) (same n) h
  EndsAt-same n One h = subst (λ (xs : List Driver). Contains xs ByOne) (same n) h
  EndsAt-same n Nothing h = sym (same n) ∙ h

  pub IsRoot-same : (n : ℕ) (root : Root) → IsRoot f n root → IsRoot g n root
  IsRoot-same n root h = record { bits = h.bits; walk = IsWalk-same n h.bits h.walk; end = EndsAt-same (last_of n h.bits) root h.end }

  pub IsRing-same : (n : ℕ) → IsRing f n → IsRing g n
  IsRing-same n h = record { first = h.first; rest = h.rest; walk = IsWalk-same n (h.first ∷ h.rest) h.walk; back = h.back }
