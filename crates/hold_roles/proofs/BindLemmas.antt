-- What a netlist is refused for, or that nothing of it is at fault, from what its slots and marks tell.
use Rattle.std.proofs.Common.{◌≡◌, ℕ, List, [], ◌∷◌, length, map, Bool, true, false, cond, Option, Some, None, sym, ap, ◌∙◌, subst}
use Rattle.std.specs.Prelude.{Ok, Err, slice_get}
use Rattle.hold_base.specs.Answers.{unless}
use Rattle.std.specs.Option.{option_map, option_or}
use Rattle.hold_netlist.specs.declared.inst.Pin.{Pin}
use Rattle.hold_netlist.specs.declared.inst.Inst.{Inst}
use Rattle.hold_netlist.specs.Bits.{bits_of}
use Rattle.hold_netlist.specs.Design.{Design}
use Rattle.hold_netlist.specs.PinText.{bit_name}
use Rattle.hold_netlist.specs.WellFormed.{IsWellFormed}
use Rattle.hold_roles.specs.declared.role.CellType.{CellType}
use Rattle.hold_roles.specs.declared.fault.RoleFault.{RoleFault}
use Rattle.hold_roles.specs.declared.fault.RoleFault.TheVariants.{Limit, NoRole, BadPin, DoubleDriver, AssignRing}
use Rattle.hold_roles.specs.declared.drivers.Slot.{Slot}
use Rattle.hold_roles.specs.declared.drivers.Slot.TheVariants.{Several}
use Rattle.hold_roles.specs.declared.marks.Mark.{Mark}
use Rattle.hold_roles.specs.declared.marks.Mark.TheVariants.{Ring}
use Rattle.hold_roles.specs.declared.roots.Root.{Root}
use Rattle.hold_roles.specs.Types.{type_named}
use Rattle.hold_roles.specs.Drivers.{drivers}
use Rattle.hold_roles.specs.Faults.{bad_in, first_bad_in, first_bad_pin, first_unknown, is_bad_pin, passed_limit, plain_fault, HasNone, IsFirst, IsFirstDouble, IsFirstFault, IsFirstRing, IsSound}
use Rattle.hold_roles.specs.inner.Marks.{drivers_in, root_in, AreDone, AreLinks, AreMarked, AreRoots, IsAt}
use Rattle.hold_roles.specs.inner.Slots.{HoldsDrivers}
use Rattle.hold_roles.proofs.AnswerLemmas.{unless-Err, unless-Ok}
use Rattle.hold_roles.proofs.WalkLemmas.{IsRing-same, IsRoot-same}
use Rattle.hold_roles.proofs.SlotLemmas.{drivers_in-same, first_double, links, no_double}
use Rattle.hold_roles.proofs.MarkLemmas.{first_ring, no_ring, roots}

-- ---- plain faults

abbrev IsBadPin : RoleFault → Type 0
IsBadPin (Limit what) = ⊥
IsBadPin (NoRole kind) = ⊥
IsBadPin (BadPin inst pin) = Unit {0}
IsBadPin (DoubleDriver name) = ⊥
IsBadPin (AssignRing name) = ⊥

bad_in-kind : (t : CellType) (inst : List ℕ) (pins : List Pin) (f : RoleFault) → first_bad_in t inst pins ≡ Some f → IsBadPin f
bad_in-kind t inst [] f h = absurd cc
bad_in-kind t inst (pin ∷ pins) f h = by (is_bad_pin t pin) h (bad_in-kind t inst pins f)
  where
    by : (b : Bool) → cond b (Some (BadPin inst pin.name)) (first_bad_in t inst pins) ≡ Some f → (first_bad_in t inst pins ≡ Some f → IsBadPin f) → IsBadPin f
    by true e more = let same : BadPin inst pin.name ≡ f = cc in subst IsBadPin same tt
    by false e more = more e

bad_pin-kind : (types : List CellType) (insts : List Inst) (f : RoleFault) → first_bad_pin types insts ≡ Some f → IsBadPin f
bad_pin-kind types [] f h = absurd cc
bad_pin-kind types (i ∷ is) f h = by (type_named i.kind types) h (bad_pin-kind types is f)
  where
    either : (o : Option RoleFault) → (o ≡ Some f → IsBadPin f) → (first_bad_pin types is ≡ Some f → IsBadPin f) → option_or o (first_bad_pin types is) ≡ Some f → IsBadPin f
    either None here later e = later e
    either (Some g) here later e = here e

    by : (t : Option CellType) → option_or (bad_in t i) (first_bad_pin types is) ≡ Some f → (first_bad_pin types is ≡ Some f → IsBadPin f) → IsBadPin f
    by None e later = later e
    by (Some t) e later = either (first_bad_in t i.name i.pins) (bad_in-kind t i.name i.pins f) later e

module _ (types : List CellType) (d : Design) (within : None ≡ passed_limit d) (known : first_unknown types d.insts ≡ None) where
  plain-pins : plain_fault types d ≡ first_bad_pin types d.insts
  plain-pins = ap (λ o. option_or (option_map Limit o) (option_or (option_map NoRole (first_unknown types d.insts)) (first_bad_pin types d.insts))) (sym within)
      ∙ ap (λ o. option_or (option_map NoRole o) (first_bad_pin types d.insts)) known

  pub plain-none : first_bad_pin types d.insts ≡ None → plain_fault types d ≡ None
  plain-none none = plain-pins ∙ none

  pub bad_pin-first : (f : RoleFault) → first_bad_pin types d.insts ≡ Some f → IsFirstFault types d f
  bad_pin-first f h = by f (bad_pin-kind types d.insts f h) (plain-pins ∙ h)
    where
      by : (f : RoleFault) → IsBadPin f → plain_fault types d ≡ Some f → IsFirstFault types d f
      by (Limit what) kind e = e
      by (NoRole k) kind e = e
      by (BadPin inst pin) kind e = e
      by (DoubleDriver name) kind e = absurd kind
      by (AssignRing name) kind e = absurd kind

-- the same of instances that were lent
pub plain-passed : (types : List CellType) (d : Design) (one two : List Inst) → None ≡ passed_limit d → one ≡ d.insts → first_unknown types one ≡ None
    → two ≡ d.insts → unless {X = Unit {0}} (first_bad_pin types two) tt ≡ Ok tt → plain_fault types d ≡ None
plain-passed types d one two within lent known again passed =
    plain-none types d within (ap (first_unknown types) (sym lent) ∙ known) (ap (first_bad_pin types) (sym again) ∙ unless-Ok (first_bad_pin types two) tt tt passed)

pub bad_pin-passed : (types : List CellType) (d : Design) (one two : List Inst) → None ≡ passed_limit d → one ≡ d.insts → first_unknown types one ≡ None
    → two ≡ d.insts → (f : RoleFault) → unless {X = Unit {0}} (first_bad_pin types two) tt ≡ Err f → IsFirstFault types d f
bad_pin-passed types d one two within lent known again f fails =
    bad_pin-first types d within (ap (first_unknown types) (sym lent) ∙ known) f (ap (first_bad_pin types) (sym again) ∙ unless-Err (first_bad_pin types two) tt f fails)

-- ---- drivers and rings

module _ (types : List CellType) (d : Design) (slots : List Slot) (holds : HoldsDrivers (bits_of d.wires) (drivers types d) slots) where
  pub double-first : (seen : List Slot) (n : ℕ) (name : List ℕ) → seen ≡ slots → IsFirst (λ m. slice_get seen m ≡ Some Several) n → plain_fault types d ≡ None
      → name ≡ bit_name d.wires n → IsFirstDouble types d name
  double-first seen n name same h plain named = record {
    plain = plain;
    bit = n;
    first = first_double (bits_of d.wires) (drivers types d) slots holds n (subst (λ (l : List Slot). IsFirst (λ m. slice_get l m ≡ Some Several) n) same h);
    named = named;
  }

  module _ (seen : List Slot) (same : seen ≡ slots) (none : HasNone (λ m. slice_get seen m ≡ Some Several)) where
    none_here : HasNone (λ m. slice_get slots m ≡ Some Several)
    none_here = subst (λ (l : List Slot). HasNone (λ m. slice_get l m ≡ Some Several)) same none

    alike : (n : ℕ) → drivers_in slots n ≡ drivers types d n
    alike = drivers_in-same (bits_of d.wires) (drivers types d) slots holds none_here

    pub links-again : (again : List Slot) → IsWellFormed d → again ≡ slots → AreLinks again
    links-again again well is = subst AreLinks (sym is) (links types d slots well holds none_here)

    module _ (again : List Slot) (is : again ≡ slots) (marks : List Mark) (each : length marks ≡ length again) (marked : AreMarked (drivers_in again) marks)
        (done : AreDone (length again) marks) (told : List Mark) (lent : told ≡ marks) (plain : plain_fault types d ≡ None) where
      each_here : length marks ≡ length slots
      each_here = each ∙ ap length is

      marked_here : AreMarked (drivers_in slots) marks
      marked_here = subst (λ (l : List Slot). AreMarked (drivers_in l) marks) is marked

      done_here : AreDone (length slots) marks
      done_here = subst (λ (l : List Slot). AreDone (length l) marks) is done

      pub ring-first : (n : ℕ) (name : List ℕ) → IsFirst (λ m. IsAt told m Ring) n → name ≡ bit_name d.wires n → IsFirstRing types d name
      ring-first n name h named =
          let first = first_ring slots marks marked_here each_here done_here n (subst (λ (l : List Mark). IsFirst (λ m. IsAt l m Ring) n) lent h) in
          record {
            plain = plain;
            no_double = no_double (bits_of d.wires) (drivers types d) slots holds none_here;
            bit = n;
            first = record {
              holds = IsRing-same (drivers_in slots) (drivers types d) alike n first.holds;
              none_before = λ m lt ring. first.none_before m lt (IsRing-same (drivers types d) (drivers_in slots) (λ k. sym (alike k)) m ring);
            };
            named = named;
          }

      module _ (no_rings : HasNone (λ m. IsAt told m Ring)) where
        no_rings_here : HasNone (λ m. IsAt marks m Ring)
        no_rings_here = subst (λ (l : List Mark). HasNone (λ m. IsAt l m Ring)) lent no_rings

        pub bound-sound : (copy : List CellType) → copy ≡ types → IsSound copy d
        bound-sound copy copied = subst (λ (l : List CellType). IsSound l d) (sym copied) (record {
          plain = plain;
          no_double = no_double (bits_of d.wires) (drivers types d) slots holds none_here;
          no_ring = λ n ring. no_ring slots marks marked_here each_here done_here no_rings_here n (IsRing-same (drivers types d) (drivers_in slots) (λ k. sym (alike k)) n ring);
        })

        pub bound-roots : (copy : List CellType) (read : List Mark) (found : List Root) → copy ≡ types → read ≡ marks → found ≡ map root_in read
            → AreRoots (drivers copy d) (bits_of d.wires) found
        bound-roots copy read found copied again_lent made =
            let those = roots slots marks marked_here each_here done_here no_rings_here in
            subst (λ (l : List CellType). AreRoots (drivers l d) (bits_of d.wires) found) (sym copied)
            (subst (AreRoots (drivers types d) (bits_of d.wires)) (sym (made ∙ ap (map root_in) again_lent)) (record {
              each = those.each ∙ holds.each;
              root = λ n r at. IsRoot-same (drivers_in slots) (drivers types d) alike n r (those.root n r at);
            }))
