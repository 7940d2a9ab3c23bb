-- What is given of a pin or an arc, by the connection that the pin is.
use Rattle.std.proofs.Common.{◌≡◌, ℕ, ◌<◌, List, length, ap, sym, ◌∙◌, subst, inl, inr}
use Rattle.std.specs.Prelude.{ℤ, true, false, Option, Some, None, slice_get, Result, Ok, Err, IfOk}
use Rattle.std.proofs.lemmas.Option.{slice_get_within, same_Some}
use Rattle.hold_base.specs.declared.number.PinNo.{PinNo}
use Rattle.hold_base.specs.declared.stop.Memory.{Memory}
use Rattle.hold_base.specs.declared.time.Interval.{Interval}
use Rattle.hold_build.specs.Pins.{IsPinOf}
use Rattle.hold_graph.specs.declared.graph.Arc.{Arc}
use Rattle.hold_job.specs.declared.cell_times.TypeCheck.{TypeCheck}
use Rattle.hold_job.specs.declared.job.Job.{Job}
use Rattle.hold_netlist.specs.declared.inst.Inst.{Inst}
use Rattle.hold_netlist.specs.declared.inst.Pin.{Pin}
use Rattle.hold_netlist.specs.Pins.{IsConnection}
use Rattle.hold_roles.specs.declared.role.CellType.{CellType}
use Rattle.hold_roles.specs.Binding.{Binding}
use Rattle.hold_roles.specs.Types.{type_named}
use Rattle.hold_roles.specs.inner.NamePlaces.{first_at}
use Rattle.hold_told.specs.Else.{HoldsOfNothing, OrElse}
use Rattle.hold_told.specs.Values.{IsGreatestOf, IsHullOf}
use Rattle.hold_told.proofs.ItemLemmas.{item_at_place, place_of_item}
use Rattle.hold_told.proofs.PinNameLemmas.{never}
use Rattle.hold_values.specs.Defaults.{IsArrival, IsDefaultDelay, IsDefaultSpan, IsDefaultTime, IsSpanOfType}
use Rattle.hold_values.specs.Given.{IfAny, IsGivenClock}
use Rattle.hold_values.specs.inner.Found.{IsCheckAt, IsPinFound}
use Rattle.hold_values.specs.inner.Keys.{check_text, check_texts}
use Rattle.hold_values.proofs.DefaultLemmas.{check-found, check-none, one-pin}

-- ---- the one, or else the other

pub else-first : {X : Type 0} (P Q : X → Type 0) (x : X) → P x → IfAny (OrElse P Q) (Some x)
else-first P Q x holds = inl holds

pub else-second : {X : Type 0} (P Q : X → Type 0) (o : Option X) → HoldsOfNothing P → IfAny Q o → IfAny (OrElse P Q) o
else-second P Q None none h = λ x either. elim either [ inl first ↦ none x first | inr second ↦ h x second.1 ]
else-second P Q (Some x) none h = inr (none, h)

-- ---- pins

pub found-of : (b : Binding) (p : PinNo) (inst : ℕ) (t : CellType) (pin : Pin) → IsPinOf b p inst t pin → IsPinFound b.netlist.insts p inst pin
found-of b p inst t pin h = record { place = h.place; numbered = h.numbered; i = h.i; is_inst = h.is_inst; is_pin = h.is_pin }

pub found-within : (insts : List Inst) (p : PinNo) (inst : ℕ) (pin : Pin) → IsPinFound insts p inst pin → inst < length insts
found-within insts p inst pin h = slice_get_within insts inst h.i h.is_inst

pub of-within : (b : Binding) (p : PinNo) (inst : ℕ) (t : CellType) (pin : Pin) → IsPinOf b p inst t pin → inst < length b.netlist.insts
of-within b p inst t pin h = slice_get_within b.netlist.insts inst h.i h.is_inst

module _ (b : Binding) (job : Job) (corner : ℕ) (p : PinNo) (inst : ℕ) (t : CellType) (pin : Pin) (of : IsPinOf b p inst t pin) where
  pub given-clock : (name : List ℕ) → name ≡ of.i.name → (o : Option Interval) → IfAny (IsArrival job corner name) o → IfAny (IsGivenClock b job corner p) o
  given-clock name is None none = λ span h.
      let one = one-pin b p h.inst inst h.t t h.pin pin h.pin_of of in
      none span (subst (λ (n : List ℕ). IsArrival job corner n span) (ap (λ (i : Inst). i.name) one.is_inst ∙ sym is) h.arrives)
  given-clock name is (Some span) h = record { inst = inst; t = t; pin = pin; pin_of = of; arrives = subst (λ (n : List ℕ). IsArrival job corner n span) is h }

  pub given-check : (o : Option ℕ) → o ≡ first_at 0 (check_text t.name pin.name) (check_texts job.checks) → IfAny (IsCheckAt b job p) o
  given-check None none = λ place h.
      let one = one-pin b p h.inst inst h.t t h.pin pin h.pin_of of in
      let key = h.key ∙ ap (λ (c : CellType). (c.name, h.pin.name)) one.type ∙ ap (λ (c : Pin). (t.name, c.name)) one.pin in
      check-none job.checks t.name pin.name none h.check (item_at_place job.checks place h.check h.at) key
  given-check (Some place) found =
      let h = check-found job.checks t.name pin.name place found in
      record { inst = inst; t = t; pin = pin; pin_of = of; check = h.0; at = h.1; key = h.2 }

  -- a register's delay, by its clock
  pub given-delay : (clock : List ℕ) → t.clock ≡ Some clock → (o : Option Interval) → IfAny (IsSpanOfType job corner t.name clock pin.name) o → IfAny (IsDefaultDelay b job corner p) o
  given-delay clock clocked None none = λ span h.
      let one = one-pin b p h.inst inst h.t t h.output pin h.pin_of of in
      let same : h.clock ≡ clock = same_Some h.clock clock (sym h.clocked ∙ ap (λ (c : CellType). c.clock) one.type ∙ clocked) in
      none span
      (subst (λ (n : List ℕ). IsSpanOfType job corner t.name n pin.name span) same
      (subst (λ (n : List ℕ). IsSpanOfType job corner t.name h.clock n span) (ap (λ (c : Pin). c.name) one.pin)
      (subst (λ (n : List ℕ). IsSpanOfType job corner n h.clock h.output.name span) (ap (λ (c : CellType). c.name) one.type) h.of_type)))
  given-delay clock clocked (Some span) h = record { inst = inst; t = t; output = pin; pin_of = of; clock = clock; clocked = clocked; of_type = h }

  pub no-delay : t.clock ≡ None → (span : Interval) → IsDefaultDelay b job corner p span → ⊥
  no-delay unclocked span h =
      let one = one-pin b p h.inst inst h.t t h.output pin h.pin_of of in
      never (sym unclocked ∙ ap (λ (c : CellType). c.clock) (sym one.type) ∙ h.clocked)

pub no-check : (times : TypeCheck → List ℤ) (b : Binding) (job : Job) (corner : ℕ) (p : PinNo) → HoldsOfNothing (IsCheckAt b job p) → (time : ℤ) → IsDefaultTime times b job corner p time → ⊥
no-check times b job corner p none time h =
    let at = place_of_item job.checks h.check h.listed in
    none at.0 (record { inst = h.inst; t = h.t; pin = h.pin; pin_of = h.pin_of; check = h.check; at = at.1; key = h.key })

-- ---- arcs

pub wire-none : (b : Binding) (job : Job) (corner : ℕ) (arc : Arc) → arc.wire ≡ true → (span : Interval) → IsDefaultSpan b job corner arc span → ⊥
wire-none b job corner arc is span h = let through : arc.wire ≡ false = h.through in cc

module _ (b : Binding) (job : Job) (corner : ℕ) (arc : Arc) (inst other : ℕ) (t s : CellType) (input output : Pin)
    (begins : IsPinOf b arc.from inst t input) (ends : IsPinOf b arc.to other s output) where
  pub apart-none : (inst ≡ other → ⊥) → (span : Interval) → IsDefaultSpan b job corner arc span → ⊥
  apart-none apart span h =
      let one = one-pin b arc.from h.inst inst h.t t h.input input h.begins begins in
      let two = one-pin b arc.to h.inst other h.t s h.output output h.ends ends in
      apart (sym one.inst ∙ two.inst)

  pub given-span : arc.wire ≡ false → inst ≡ other → (o : Option Interval) → IfAny (IsSpanOfType job corner t.name input.name output.name) o → IfAny (IsDefaultSpan b job corner arc) o
  given-span through same None none = λ span h.
      let one = one-pin b arc.from h.inst inst h.t t h.input input h.begins begins in
      let two = one-pin b arc.to h.inst other h.t s h.output output h.ends ends in
      none span
      (subst (λ (n : List ℕ). IsSpanOfType job corner t.name input.name n span) (ap (λ (c : Pin). c.name) two.pin)
      (subst (λ (n : List ℕ). IsSpanOfType job corner t.name n h.output.name span) (ap (λ (c : Pin). c.name) one.pin)
      (subst (λ (n : List ℕ). IsSpanOfType job corner n h.input.name h.output.name span) (ap (λ (c : CellType). c.name) one.type) h.of_type)))
  given-span through same (Some span) h = record {
    through = through;
    inst = inst;
    t = t;
    input = input;
    begins = begins;
    output = output;
    ends = to_here;
    of_type = h;
  }
    where
      same_inst : begins.i ≡ ends.i
      same_inst = same_Some begins.i ends.i (sym begins.is_inst ∙ ap (slice_get b.netlist.insts) same ∙ ends.is_inst)

      same_type : s ≡ t
      same_type = same_Some s t (sym ends.typed ∙ ap (λ (i : Inst). type_named i.kind b.types) (sym same_inst) ∙ begins.typed)

      to_here : IsPinOf b arc.to inst t output
      to_here = record {
        place = ends.place;
        numbered = subst (λ (n : ℕ). IsConnection b.netlist.insts arc.to.0 n ends.place) (sym same) ends.numbered;
        i = ends.i;
        is_inst = ap (slice_get b.netlist.insts) same ∙ ends.is_inst;
        is_pin = ends.is_pin;
        typed = ends.typed ∙ ap Some same_type;
      }

-- ---- answers

pub ok-weaker : {X : Type 0} (P Q : X → Type 0) (r : Result X Memory) → ((x : X) → P x → Q x) → IfOk r P → IfOk r Q
ok-weaker P Q (Ok x) weaker h = weaker x h
ok-weaker P Q (Err e) weaker h = h

-- ---- as told, or else by default

pub no-hull : (Said : Interval → Type 0) → HoldsOfNothing Said → HoldsOfNothing (IsHullOf Said)
no-hull Said none hull h = none h.first h.first_said

pub no-greatest : (Said : ℤ → Type 0) → HoldsOfNothing Said → HoldsOfNothing (IsGreatestOf Said)
no-greatest Said none time h = none time h.said
