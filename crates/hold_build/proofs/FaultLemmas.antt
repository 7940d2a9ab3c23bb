-- Faults: each is the only one of its netlist and job, but that any cycle will do; and what a caller learns from an answer.
use Rattle.std.proofs.Common.{◌≡◌, ℕ, inl, inr, List, [], ◌∷◌, sym, ap, ◌∙◌, arith}
use Rattle.std.specs.Prelude.{Result, Ok, Err, OnOk, Contains, codes}
use Rattle.hold_base.proofs.Orders.{le-never}
use Rattle.hold_base.specs.Answers.{Answers, IfFault}
use Rattle.hold_base.specs.declared.number.PinNo.{PinNo}
use Rattle.hold_base.specs.declared.stop.Stop.{Stop}
use Rattle.hold_base.specs.declared.stop.Stop.TheVariants.{Memory, Fault}
use Rattle.hold_graph.specs.declared.cycle.Cycle.{Cycle}
use Rattle.hold_graph.specs.declared.graph.Arc.{Arc}
use Rattle.hold_graph.specs.Cycles.{GoesRound, IsCycle}
use Rattle.hold_graph.specs.Path.{EachNext, HasArc, last_pin}
use Rattle.hold_job.specs.declared.job.Job.{Job}
use Rattle.hold_roles.specs.Binding.{Binding}
use Rattle.hold_roles.specs.Faults.{IsFirst}
use Rattle.hold_build.specs.declared.fault.BuildFault.{BuildFault}
use Rattle.hold_build.specs.declared.fault.BuildFault.TheVariants.{Unknown, Limit, Cycle as OnCycle}
use Rattle.hold_build.specs.Arcs.{IsArc}
use Rattle.hold_build.specs.Faults.{CanBeListed, HasCycle, HasKnownEntries, HasNoFault, IsCycleFault, IsFault, IsFirstUnknown, IsListFault, IsOnCycle, IsUnknownClock, IsUnknownKeep, entry_path}
use Rattle.hold_build.specs.Listing.{ListsEach}
use Rattle.std.proofs.lemmas.List.Elements.{All-contains}

-- ---- faults of entries and of the limit

-- ---- one fault at most

first-one : (P : ℕ → Type 0) (m n : ℕ) → IsFirst P m → IsFirst P n → m ≡ n
first-one P m n h k =
    let most = le-never m n (λ lt. h.none_before n lt k.holds) in
    let least = le-never n m (λ lt. k.none_before m lt h.holds) in
    omega arith

unknown-one : (b : Binding) (job : Job) (p q : List ℕ) → IsFirstUnknown b job p → IsFirstUnknown b job q → p ≡ q
unknown-one b job p q (inl h) (inl k) = h.said ∙ ap (entry_path (codes "clock")) (first-one (IsUnknownClock b job) h.entry k.entry h.first k.first) ∙ sym k.said
unknown-one b job p q (inl h) (inr k) = absurd (k.clocks h.entry h.first.holds)
unknown-one b job p q (inr h) (inl k) = absurd (h.clocks k.entry k.first.holds)
unknown-one b job p q (inr h) (inr k) = h.said ∙ ap (entry_path (codes "keep")) (first-one (IsUnknownKeep b job) h.entry k.entry h.first k.first) ∙ sym k.said

unknown-known : (b : Binding) (job : Job) (p : List ℕ) → IsFirstUnknown b job p → HasKnownEntries b job → ⊥
unknown-known b job p (inl h) known = known.clocks h.entry h.first.holds
unknown-known b job p (inr h) known = known.keeps h.entry h.first.holds

list-one : (b : Binding) (job : Job) (f g : BuildFault) → IsListFault b job f → IsListFault b job g → f ≡ g
list-one b job (Unknown p) (Unknown q) h k = ap Unknown (unknown-one b job p q h k)
list-one b job (Unknown p) (Limit w) h k = absurd (unknown-known b job p h k.known)
list-one b job (Unknown p) (OnCycle c) h k = absurd k
list-one b job (Limit v) (Unknown q) h k = absurd (unknown-known b job q k h.known)
list-one b job (Limit v) (Limit w) h k = ap Limit (h.of ∙ sym k.of)
list-one b job (Limit v) (OnCycle c) h k = absurd k
list-one b job (OnCycle d) g h k = absurd h

list-none : (b : Binding) (job : Job) (f : BuildFault) → CanBeListed b job → IsListFault b job f → ⊥
list-none b job (Unknown p) can h = unknown-known b job p h can.known
list-none b job (Limit w) can h = can.few h.many
list-none b job (OnCycle c) can h = absurd h

-- ---- what an answer tells of lists

module _ {X : Type 0} (b : Binding) (job : Job) where
  pub list-accepted : (r : Result X (Stop BuildFault)) → IfFault r (IsListFault b job) → CanBeListed b job → IfFault r (λ f. ⊥)
  list-accepted (Ok x) fault can = tt
  list-accepted (Err Memory) fault can = tt
  list-accepted (Err (Fault f)) fault can = list-none b job f can fault

  pub list-refused : (r : Result X (Stop BuildFault)) → OnOk r (CanBeListed b job) → IfFault r (IsListFault b job) → (f : BuildFault) → IsListFault b job f → Answers r (Err f)
  list-refused (Ok x) sound fault f h = absurd (list-none b job f sound h)
  list-refused (Err Memory) sound fault f h = tt
  list-refused (Err (Fault g)) sound fault f h = ap Err (list-one b job f g h fault)

-- ---- and of graphs

fault-none : (b : Binding) (job : Job) (f : BuildFault) → HasNoFault b job → IsFault b job f → ⊥
fault-none b job (Unknown p) none h = unknown-known b job p h none.listed.known
fault-none b job (Limit w) none h = none.listed.few h.many
fault-none b job (OnCycle c) none h = none.acyclic c h.has

-- a fault of lists is the fault
list-first : (b : Binding) (job : Job) (f g : BuildFault) → IsListFault b job f → IsFault b job g → f ≡ g
list-first b job f (Unknown q) h k = list-one b job f (Unknown q) h k
list-first b job f (Limit w) h k = list-one b job f (Limit w) h k
list-first b job f (OnCycle c) h k = absurd (list-none b job f k.listed h)

on_cycle : (b : Binding) (job : Job) (f : BuildFault) → CanBeListed b job → IsFault b job f → IsOnCycle f
on_cycle b job (Unknown p) can h = absurd (unknown-known b job p h can.known)
on_cycle b job (Limit w) can h = absurd (can.few h.many)
on_cycle b job (OnCycle c) can h = tt

module _ {X : Type 0} (b : Binding) (job : Job) where
  pub build-accepted : (r : Result X (Stop BuildFault)) → IfFault r (IsFault b job) → HasNoFault b job → IfFault r (λ f. ⊥)
  build-accepted (Ok x) fault none = tt
  build-accepted (Err Memory) fault none = tt
  build-accepted (Err (Fault f)) fault none = fault-none b job f none fault

  pub build-refused : (r : Result X (Stop BuildFault)) → OnOk r (HasNoFault b job) → IfFault r (IsFault b job) → (f : BuildFault) → IsListFault b job f → Answers r (Err f)
  build-refused (Ok x) sound fault f h = absurd (list-none b job f sound.listed h)
  build-refused (Err Memory) sound fault f h = tt
  build-refused (Err (Fault g)) sound fault f h = ap Err (list-first b job f g h fault)

  pub build-cyclic : (r : Result X (Stop BuildFault)) → OnOk r (HasNoFault b job) → IfFault r (IsFault b job) → (c : Cycle) → IsCycleFault b job c → OnOk r ⊥ × IfFault r IsOnCycle
  build-cyclic (Ok x) sound fault c h = (sound.acyclic c h.has, tt)
  build-cyclic (Err Memory) sound fault c h = (tt, tt)
  build-cyclic (Err (Fault g)) sound fault c h = (tt, on_cycle b job g h.listed fault)

-- ---- cycles of the same arcs

HasArc-same : (xs ys : List Arc) → ((a : Arc) → Contains xs a → Contains ys a) → (p q : PinNo) → HasArc xs p q → HasArc ys p q
HasArc-same xs ys has p q h = record { arc = h.arc; listed = has h.arc h.listed; from = h.from; to = h.to }

EachNext-same : (xs ys : List Arc) → ((a : Arc) → Contains xs a → Contains ys a) → (p : PinNo) (pins : List PinNo) → EachNext xs p pins → EachNext ys p pins
EachNext-same xs ys has p [] h = tt
EachNext-same xs ys has p (q ∷ pins) h = (HasArc-same xs ys has p q h.0, EachNext-same xs ys has q pins h.1)

round-same : (xs ys : List Arc) → ((a : Arc) → Contains xs a → Contains ys a) → (pins : List PinNo) → GoesRound xs pins → GoesRound ys pins
round-same xs ys has [] h = h
round-same xs ys has (p ∷ pins) h = (EachNext-same xs ys has p pins h.0, HasArc-same xs ys has (last_pin p pins) p h.1)

pub no_cycle : (b : Binding) (arcs : List Arc) → ListsEach (IsArc b) arcs → ((pins : List PinNo) → IsCycle arcs pins → ⊥) → (c : Cycle) → HasCycle b c → ⊥
no_cycle b arcs each none c h = none c.pins (record {
  different = h.cycle.different;
  round = round-same h.arcs arcs (λ a at. each.whole a (All-contains (IsArc b) h.arcs a h.all.sound at)) c.pins h.cycle.round;
  least = h.cycle.least;
})
