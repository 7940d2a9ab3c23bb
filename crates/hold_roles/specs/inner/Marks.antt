-- What is known of net bits while their roots are looked for. Here a net bit has one driver at most, that of its slot.
--
-- slot_drivers slot: the driver that a slot holds alone; none of several. drivers_in slots n: that of net bit n.
-- first_mark slot: what is known of a net bit by its own driver. source_in slot: the net bit that it is assigned from.
-- AreLinks slots: each net bit that another is assigned from has a slot.
-- Leads drivers a b: a walk leads from a to b. LeadsOn drivers a b: a walk of at least one assignment does.
-- IsAt marks x m: net bit x has that mark.
-- IsLost drivers marks x: a walk leads from x to a net bit that is marked to be on a ring.
-- MarkHolds drivers marks Opened Next x m: mark m is right for net bit x. Opened is what is known of one on the trail, and Next of
--   what one on a ring is assigned from.
-- AreMarkedWith drivers marks Opened Next: each net bit's mark is right. AreMarked drivers marks: so they are between two walks.
-- IsOnWay drivers marks at x: a walk leads from x to `at`, and the first step of it to one on the trail or there.
-- IsWalked drivers marks at: the marks are right where the walk ended at `at`, which isn't new.
-- IsOnRing drivers marks start x: a walk leads from x to start, and the first step of it to one on the trail or marked to be on a ring.
-- IsClosing drivers marks start at: the marks are right where the ring of start was marked up to before `at`.
-- is_open mark: whether a net bit with that mark is on the trail.
-- ending mark: what a net bit has that leads to one with that mark: the same root, else that it is lost.
-- IsEnd mark: that it is a root or lost. CanSettle drivers marks mark: each net bit on the trail may have that mark.
-- OpensIn trail marks: those marked to be on the trail are.
-- Falls m old new: no net bit gets mark m that hadn't it.
-- AreDone n marks: the first n net bits aren't new.
-- root_in mark: the root that a mark tells. AreRoots drivers bits roots: these are the roots of so many net bits.
use Rattle.std.specs.Prelude.{◌≡◌, ℕ, ◌<◌, ◌⊎◌, List, [], ◌∷◌, length, Bool, true, false, Option, Some, None, slice_get, slice_index_or, Contains}
use Rattle.hold_base.specs.declared.number.NetNo.{NetNo}
use Rattle.hold_roles.specs.declared.drivers.Driver.{Driver}
use Rattle.hold_roles.specs.declared.drivers.Driver.TheVariants.{Pin as ByPin, Net as ByNet, Zero as ByZero, One as ByOne}
use Rattle.hold_roles.specs.declared.drivers.Slot.{Slot}
use Rattle.hold_roles.specs.declared.drivers.Slot.TheVariants.{Free, Only, Several}
use Rattle.hold_roles.specs.declared.marks.Mark.{Mark}
use Rattle.hold_roles.specs.declared.marks.Mark.TheVariants.{New, Open, Ends, Lost, Ring}
use Rattle.hold_roles.specs.declared.roots.Root.{Root}
use Rattle.hold_roles.specs.declared.roots.Root.TheVariants.{Pin, Zero, One, Nothing}
use Rattle.hold_roles.specs.Roots.{IsAssigned, IsWalk, last_of, IsRoot, IsRing}

abbrev pub slot_drivers : Slot → List Driver
slot_drivers Free = []
slot_drivers (Only driver) = driver ∷ []
slot_drivers Several = []

abbrev pub drivers_in : List Slot → ℕ → List Driver
drivers_in slots n = slot_drivers (slice_index_or slots n Free)

abbrev pub driver_mark : Driver → Mark
driver_mark (ByPin pin) = Ends (Pin pin)
driver_mark (ByNet net) = New
driver_mark ByZero = Ends Zero
driver_mark ByOne = Ends One

abbrev pub first_mark : Slot → Mark
first_mark Free = Ends Nothing
first_mark (Only driver) = driver_mark driver
first_mark Several = Ends Nothing

abbrev pub driver_source : Driver → Option NetNo
driver_source (ByPin pin) = None
driver_source (ByNet net) = Some net
driver_source ByZero = None
driver_source ByOne = None

abbrev pub source_in : Slot → Option NetNo
source_in Free = None
source_in (Only driver) = driver_source driver
source_in Several = None

abbrev pub AreLinks : List Slot → Type 0
AreLinks slots = (a b : ℕ) → IsAssigned (drivers_in slots) a b → b < length slots

pub record Leads (drivers : ℕ → List Driver) (a b : ℕ) : Type 0 where
  pub bits : List ℕ
  pub walk : IsWalk drivers a bits
  pub last : last_of a bits ≡ b

pub record LeadsOn (drivers : ℕ → List Driver) (a b : ℕ) : Type 0 where
  pub first : ℕ
  pub step : IsAssigned drivers a first
  pub rest : Leads drivers first b

abbrev pub IsAt : List Mark → ℕ → Mark → Type 0
IsAt marks x m = slice_get marks x ≡ Some m

pub record IsLost (drivers : ℕ → List Driver) (marks : List Mark) (x : ℕ) : Type 0 where
  pub ring : ℕ
  pub leads : Leads drivers x ring
  pub marked : IsAt marks ring Ring

pub record IsOnMarkedRing (drivers : ℕ → List Driver) (Next : ℕ → Type 0) (x : ℕ) : Type 0 where
  pub ring : IsRing drivers x
  pub next : (b : ℕ) → IsAssigned drivers x b → Next b

abbrev pub MarkHolds : (ℕ → List Driver) → List Mark → (ℕ → Type 0) → (ℕ → Type 0) → ℕ → Mark → Type 0
MarkHolds drivers marks Opened Next x New = (b : ℕ) × IsAssigned drivers x b
MarkHolds drivers marks Opened Next x Open = Opened x
MarkHolds drivers marks Opened Next x (Ends root) = IsRoot drivers x root
MarkHolds drivers marks Opened Next x Lost = IsLost drivers marks x
MarkHolds drivers marks Opened Next x Ring = IsOnMarkedRing drivers Next x

pub record AreMarkedWith (drivers : ℕ → List Driver) (marks : List Mark) (Opened Next : ℕ → Type 0) : Type 0 where
  pub each : (x : ℕ) (m : Mark) → IsAt marks x m → MarkHolds drivers marks Opened Next x m

abbrev pub AreMarked : (ℕ → List Driver) → List Mark → Type 0
AreMarked drivers marks = AreMarkedWith drivers marks (λ x. ⊥) (λ b. IsAt marks b Ring)

pub record IsOnWay (drivers : ℕ → List Driver) (marks : List Mark) (at x : ℕ) : Type 0 where
  pub leads : LeadsOn drivers x at
  pub next : (b : ℕ) → IsAssigned drivers x b → IsAt marks b Open ⊎ (b ≡ at)

pub record IsWalked (drivers : ℕ → List Driver) (marks : List Mark) (at : ℕ) : Type 0 where
  pub marked : AreMarkedWith drivers marks (IsOnWay drivers marks at) (λ b. IsAt marks b Ring)
  pub stopped : IsAt marks at New → ⊥
  pub within : at < length marks

pub record IsOnRing (drivers : ℕ → List Driver) (marks : List Mark) (start x : ℕ) : Type 0 where
  pub leads : LeadsOn drivers x start
  pub next : (b : ℕ) → IsAssigned drivers x b → IsAt marks b Open ⊎ IsAt marks b Ring

pub record IsClosing (drivers : ℕ → List Driver) (marks : List Mark) (start at : ℕ) : Type 0 where
  pub marked : AreMarkedWith drivers marks (IsOnRing drivers marks start) (λ b. IsAt marks b Ring ⊎ (b ≡ at))
  pub leads : Leads drivers start at
  pub here : IsAt marks at Open ⊎ IsAt marks at Ring

abbrev pub is_open : Mark → Bool
is_open New = false
is_open Open = true
is_open (Ends root) = false
is_open Lost = false
is_open Ring = false

abbrev pub ending : Mark → Mark
ending New = Lost
ending Open = Lost
ending (Ends root) = Ends root
ending Lost = Lost
ending Ring = Lost

abbrev pub IsEnd : Mark → Type 0
IsEnd New = ⊥
IsEnd Open = ⊥
IsEnd (Ends root) = Unit {0}
IsEnd Lost = Unit {0}
IsEnd Ring = ⊥

abbrev pub CanSettle : (ℕ → List Driver) → List Mark → Mark → Type 0
CanSettle drivers marks mark = AreMarkedWith drivers marks (λ x. MarkHolds drivers marks (λ y. ⊥) (λ b. ⊥) x mark) (λ b. IsAt marks b Ring)

abbrev pub OpensIn : List NetNo → List Mark → Type 0
OpensIn trail marks = (x : ℕ) → IsAt marks x Open → Contains trail (record { 0 = x })

abbrev pub Falls : Mark → List Mark → List Mark → Type 0
Falls m old new = (x : ℕ) → IsAt new x m → IsAt old x m

abbrev pub AreDone : ℕ → List Mark → Type 0
AreDone n marks = (x : ℕ) → x < n → IsAt marks x New → ⊥

abbrev pub root_in : Mark → Root
root_in New = Nothing
root_in Open = Nothing
root_in (Ends root) = root
root_in Lost = Nothing
root_in Ring = Nothing

pub record AreRoots (drivers : ℕ → List Driver) (bits : ℕ) (roots : List Root) : Type 0 where
  pub each : length roots ≡ bits
  pub root : (n : ℕ) (r : Root) → slice_get roots n ≡ Some r → IsRoot drivers n r
