-- One buffer in front of one pin: the netlist means the same.
use Rattle.std.proofs.Common.{◌≡◌, ℕ, zero, suc, ◌+◌, ◌≤◌, List, [], ◌∷◌, ◌++◌, length, Bool, false, refl, sym, ap, ◌∙◌, ◌⊎◌, inl, inr, subst, arith}
use Rattle.std.specs.Prelude.{take, Contains}
use Rattle.std.specs.List.{AllByRecursion}
use Rattle.std.proofs.lemmas.List.{get_or_at, length_push, length-take-le, take-append-le, take_all, take_at, take_more, take-take}
use Rattle.std.proofs.lemmas.List.Elements.{All-contains, All-from_recursion, Contains-append_cases, Contains-append_left, Contains-append_right}
use Rattle.std.proofs.lemmas.List.Sums.{sum_by-append}
use Rattle.std.proofs.lemmas.Option.{slice_get_within}
use Rattle.hold_base.proofs.Lists.{AllByRecursion-append, AllByRecursion-append_left, AllByRecursion-append_right, slice_get-append}
use Rattle.hold_netlist.specs.declared.inst.Source.{Source}
use Rattle.hold_netlist.specs.declared.inst.Source.TheVariants.{Net}
use Rattle.hold_netlist.specs.declared.inst.Pin.{Pin}
use Rattle.hold_netlist.specs.declared.inst.Inst.{Inst}
use Rattle.hold_netlist.specs.declared.kind.Kind.{Kind}
use Rattle.hold_netlist.specs.declared.wire.Wire.{Wire}
use Rattle.hold_netlist.specs.Bits.{bits_of, width_of}
use Rattle.hold_netlist.specs.Design.{Design}
use Rattle.hold_netlist.specs.WellFormed.{IsSource, IsWrittenPin, IsWrittenInst, IsWellFormed}
use Rattle.hold_netlist.proofs.NumberingLemmas.{IsNumbered-below}
use Rattle.hold_roles.specs.declared.role.CellType.{CellType}
use Rattle.hold_roles.specs.declared.row.Row.{Row}
use Rattle.hold_roles.specs.Meaning.{IsFair, kept, IsPin, IsPortBit, ReadsAt, ReadsPort, ReadsSame, IsOnlyExtension, Same}
use Rattle.hold_roles.specs.Solutions.{source_value, bit_at, IsSolution, IsInstSolved}
use Rattle.hold_insert.specs.Chains.{Insertion}
use Rattle.hold_insert.specs.Padded.{source_at, tied, new_net, new_wire, buffer, with_buffer}
use Rattle.hold_insert.proofs.TiedLemmas.{on_source, IsInputAt, IsInstAt}
use Rattle.hold_insert.proofs.SolvedLemmas.{Agree, Agree-sym, take-Agree, insts-Agree, assigns-Agree, insts-tied, tied-insts, tied_inst, IsCopier, buffer-solved, solved-buffer}

pub all-contains : {X : Type 0} (P : X → Type 0) (xs : List X) (x : X) → AllByRecursion P xs → Contains xs x → P x
all-contains P xs x h k = All-contains P xs x (All-from_recursion P xs h) k

pub cons-cases : {X : Type 0} (x : X) (xs : List X) (y : X) → Contains (x ∷ xs) y → (x ≡ y) ⊎ Contains xs y
cons-cases x xs y (zero, lt, is) = inl is
cons-cases x xs y (suc k, lt, is) = inr (k, omega arith, is)

pub cons-here : {X : Type 0} (x : X) (xs : List X) → Contains (x ∷ xs) x
cons-here x xs = (0, omega arith, refl)

pub cons-later : {X : Type 0} (x : X) (xs : List X) (y : X) → Contains xs y → Contains (x ∷ xs) y
cons-later x xs y (k, lt, is) = (suc k, omega arith, is)

-- an item among others that took the place of one: it is another one, or that one
replaced : {X : Type 0} (before after : List X) (x z y : X) → Contains (before ++ x ∷ after) y → Contains (before ++ z ∷ after) y ⊎ (x ≡ y)
replaced before after x z y h = elim (Contains-append_cases before (x ∷ after) y h) [
  | inl a ↦ inl (Contains-append_left before (z ∷ after) y a)
  | inr b ↦ elim (cons-cases x after y b) [
    | inl e ↦ inr e
    | inr c ↦ inl (Contains-append_right before (z ∷ after) y (cons-later z after y c))
  ]
]

-- the new one stands there
replacing : {X : Type 0} (before after : List X) (z : X) → Contains (before ++ z ∷ after) z
replacing before after z = Contains-append_right before (z ∷ after) z (cons-here z after)

pub bits-push : (wires : List Wire) (n i : ℕ) → bits_of (wires ++ new_wire n i ∷ []) ≡ bits_of wires + 1
bits-push wires n i = sum_by-append width_of wires (new_wire n i ∷ [])

module _ (types : List CellType) (kinds : List Kind) (d : Design) (n i : ℕ) (b : Insertion) (well : IsWellFormed d) (at : IsInputAt types d.insts b.pin.0)
    (copier : IsCopier types b.kind) (among : Contains kinds b.kind) where
  abbrev bits : ℕ
  bits = bits_of d.wires

  abbrev source : Source
  source = source_at d.insts b.pin.0

  abbrev new : Source
  new = Net (new_net d)

  abbrev place : IsInstAt d.insts b.pin.0
  place = at.at

  source-is : source ≡ at.at.at.pin.source
  source-is = at.at.read ∙ at.at.at.read

  inst-written : (x : Inst) → Contains d.insts x → IsWrittenInst bits x
  inst-written x h = all-contains (IsWrittenInst bits) d.insts x well.insts h

  pin-within : (x : Inst) (p : Pin) → Contains d.insts x → Contains x.pins p → IsSource bits p.source
  pin-within x p h k = (all-contains (IsWrittenPin bits) x.pins p (inst-written x h).pins k).source

  source-within : IsSource bits source
  source-within =
      let a = at.at in
      let has_inst = subst (λ l. Contains l a.inst) (sym a.whole) (replacing a.before a.after a.inst) in
      let has_pin = subst (λ l. Contains l a.at.pin) (sym a.at.whole) (replacing a.at.front a.at.back a.at.pin) in
      subst (IsSource bits) (sym source-is) (pin-within a.inst a.at.pin has_inst has_pin)

  -- ---- from the netlist with the buffer to the one without

  module _ (rows : List Row) (v : List Bool) (fair : IsFair kinds rows) (solves : IsSolution types rows (with_buffer n i b d) v) where
    copies : bit_at v bits ≡ source_value v source
    copies =
        solved-buffer types rows v b.kind copier source (new_net d) n i (AllByRecursion-append_right (IsInstSolved types rows v) (tied d.insts b.pin.0 new) _ solves.insts).0
        ∙ fair b.kind among (source_value v source)

    long : length v ≡ bits + 1
    long = solves.each ∙ bits-push d.wires n i

    agree : Agree bits v (take bits v)
    agree = take-Agree bits v

    pub step-down : IsSolution types rows d (kept d v)
    step-down = record {
      each = length-take-le bits v (omega (arith, long));
      assigns = assigns-Agree bits v (take bits v) agree d.assigns well.assigns solves.assigns;
      insts = insts-Agree types rows bits v (take bits v) agree d.insts well.insts
          (tied-insts types rows v d.insts b.pin.0 at new (copies ∙ ap (source_value v) source-is)
          (AllByRecursion-append_left (IsInstSolved types rows v) (tied d.insts b.pin.0 new) _ solves.insts));
    }

    -- each connection reads the same: it is where it was, or it is the one that was tied to the new net bit
    reads-pin : (inst pin : List ℕ) (s : Source) → IsPin d inst pin s → ReadsAt d (with_buffer n i b d) v inst pin s
    reads-pin inst pin s h = by (replaced place.before place.after place.inst (tied_inst at new) h.i (subst (λ l. Contains l h.i) place.whole h.has_inst))
      where
        within : IsSource bits h.p.source
        within = pin-within h.i h.p h.has_inst h.has_pin

        stays : source_value (take bits v) s ≡ source_value v s
        stays = sym (agree s (subst (IsSource bits) h.is within))

        there : (x : Inst) → Contains (place.before ++ tied_inst at new ∷ place.after) x → Contains (with_buffer n i b d).insts x
        there x k = Contains-append_left (tied d.insts b.pin.0 new) _ x (subst (λ l. Contains l x) (sym (place.tied new)) k)

        in_inst : place.inst ≡ h.i → (Contains (place.at.front ++ on_source place.at.pin new ∷ place.at.back) h.p ⊎ (place.at.pin ≡ h.p)) → ReadsAt d (with_buffer n i b d) v inst pin s
        in_inst same (inl k) = record {
          there = s;
          is_pin = record {
            i = tied_inst at new;
            has_inst = there (tied_inst at new) (replacing place.before place.after (tied_inst at new));
            inst_named = ap (λ (x : Inst). x.name) same ∙ h.inst_named;
            p = h.p;
            has_pin = subst (λ l. Contains l h.p) (sym (place.at.tied new)) k;
            pin_named = h.pin_named;
            is = h.is;
          };
          same = stays;
        }
        in_inst same (inr e) = record {
          there = new;
          is_pin = record {
            i = tied_inst at new;
            has_inst = there (tied_inst at new) (replacing place.before place.after (tied_inst at new));
            inst_named = ap (λ (x : Inst). x.name) same ∙ h.inst_named;
            p = on_source place.at.pin new;
            has_pin = subst (λ l. Contains l (on_source place.at.pin new)) (sym (place.at.tied new)) (replacing place.at.front place.at.back (on_source place.at.pin new));
            pin_named = ap (λ (x : Pin). x.name) e ∙ h.pin_named;
            is = refl;
          };
          same = stays ∙ ap (source_value v) (sym h.is ∙ ap (λ (x : Pin). x.source) (sym e) ∙ sym source-is) ∙ sym copies;
        }

        by : Contains (place.before ++ tied_inst at new ∷ place.after) h.i ⊎ (place.inst ≡ h.i) → ReadsAt d (with_buffer n i b d) v inst pin s
        by (inl k) = record {
          there = s;
          is_pin = record { i = h.i; has_inst = there h.i k; inst_named = h.inst_named; p = h.p; has_pin = h.has_pin; pin_named = h.pin_named; is = h.is };
          same = stays;
        }
        by (inr same) =
            in_inst same (replaced place.at.front place.at.back place.at.pin (on_source place.at.pin new) h.p
            (subst (λ l. Contains l h.p) place.at.whole (subst (λ (x : Inst). Contains x.pins h.p) (sym same) h.has_pin)))

    reads-port : (port : List ℕ) (k bit : ℕ) → IsPortBit d port k bit → ReadsPort d (with_buffer n i b d) v port k bit
    reads-port port k bit h =
        let inside = slice_get_within d.wires h.place h.is_bit.within.0 h.is_bit.within.1 in
        record {
          there = bit;
          is_bit = record {
            place = h.place;
            p = h.p;
            at = h.at;
            named = h.named;
            is_bit = record {
              number = h.is_bit.number ∙ ap (λ l. bits_of l + k) (sym (take-append-le h.place d.wires (new_wire n i ∷ []) (omega arith)));
              within = (h.is_bit.within.0, slice_get-append d.wires _ h.place h.is_bit.within.0 h.is_bit.within.1, h.is_bit.within.2);
            };
          };
          same = sym (agree (Net (record { 0 = bit })) (IsNumbered-below width_of d.wires bit h.place k h.is_bit));
        }

    pub step-reads : ReadsSame d (with_buffer n i b d) v
    step-reads = record { pins = reads-pin; ports = reads-port }

  -- ---- from the netlist without the buffer to the one with it

  module _ (rows : List Row) (old : List Bool) (fair : IsFair kinds rows) (solves : IsSolution types rows d old) where
    abbrev grown : List Bool
    grown = old ++ source_value old source ∷ []

    keeps : take bits grown ≡ old
    keeps = take_at old (source_value old source ∷ []) bits solves.each

    same : Agree bits old grown
    same = subst (λ l. Agree bits l grown) keeps (Agree-sym bits grown (take bits grown) (take-Agree bits grown))

    last : bit_at grown bits ≡ source_value grown source
    last = get_or_at old (source_value old source) [] false bits solves.each ∙ same source source-within

    grown-solves : IsSolution types rows (with_buffer n i b d) grown
    grown-solves = record {
      each = length_push old (source_value old source) ∙ ap (λ k. k + 1) solves.each ∙ sym (bits-push d.wires n i);
      assigns = assigns-Agree bits old grown same d.assigns well.assigns solves.assigns;
      insts = AllByRecursion-append (IsInstSolved types rows grown) (tied d.insts b.pin.0 new) (buffer n i b.kind source (new_net d) ∷ [])
          (insts-tied types rows grown d.insts b.pin.0 at new (last ∙ ap (source_value grown) source-is) (insts-Agree types rows bits old grown same d.insts well.insts solves.insts))
          (buffer-solved types rows grown b.kind copier source (new_net d) n i (last ∙ sym (fair b.kind among (source_value grown source))), tt);
    }

    only : (other : List Bool) → IsSolution types rows (with_buffer n i b d) other → kept d other ≡ old → other ≡ grown
    only other solved is =
        let many : length other ≡ bits + 1 = long rows other fair solved in
        let whole : take (bits + 1) other ≡ other = take_all (bits + 1) other (omega arith) in
        let value : bit_at other bits ≡ source_value old source = copies rows other fair solved ∙ take-Agree bits other source source-within ∙ ap (λ l. source_value l source) is in
        sym whole ∙ take_more other bits false (omega arith) ∙ ap (λ l. l ++ bit_at other bits ∷ []) is ∙ ap (λ x. old ++ x ∷ []) value

    pub step-up : (new : List Bool) × IsOnlyExtension types rows d (with_buffer n i b d) old new
    step-up = (grown, record { solves = grown-solves; keeps = keeps; only = only })

  pub step-Same : Same types kinds d (with_buffer n i b d)
  step-Same = record { down = step-down; reads = step-reads; up = step-up }

-- ---- one after another

kept-kept : (d e : Design) (v : List Bool) → bits_of d.wires ≤ bits_of e.wires → kept d (kept e v) ≡ kept d v
kept-kept d e v h = take-take (bits_of d.wires) (bits_of e.wires) v h

pub Same-trans : (types : List CellType) (kinds : List Kind) (d e w : Design) → bits_of d.wires ≤ bits_of e.wires → Same types kinds d e → Same types kinds e w → Same types kinds d w
Same-trans types kinds d e w more one two = record {
  down = λ rows v fair solves. subst (IsSolution types rows d) (kept-kept d e v more) (one.down rows (kept e v) fair (two.down rows v fair solves));
  reads = λ rows v fair solves. record { pins = pins rows v fair solves; ports = ports rows v fair solves };
  up = λ rows old fair solves.
      let middle = one.up rows old fair solves in
      let end = two.up rows middle.0 fair middle.1.solves in (
        end.0,
        record {
          solves = end.1.solves;
          keeps = sym (kept-kept d e end.0 more) ∙ ap (kept d) end.1.keeps ∙ middle.1.keeps;
          only = λ other solved is. end.1.only other solved (middle.1.only (kept e other) (two.down rows other fair solved) (kept-kept d e other more ∙ is));
        },
      );
}
  where
    pins : (rows : List Row) (v : List Bool) → IsFair kinds rows → IsSolution types rows w v → (inst pin : List ℕ) (s : Source) → IsPin d inst pin s → ReadsAt d w v inst pin s
    pins rows v fair solves inst pin s h =
        let first = (one.reads rows (kept e v) fair (two.down rows v fair solves)).pins inst pin s h in
        let then = (two.reads rows v fair solves).pins inst pin first.there first.is_pin in
        record { there = then.there; is_pin = then.is_pin; same = ap (λ l. source_value l s) (sym (kept-kept d e v more)) ∙ first.same ∙ then.same }

    ports : (rows : List Row) (v : List Bool) → IsFair kinds rows → IsSolution types rows w v → (port : List ℕ) (k bit : ℕ) → IsPortBit d port k bit → ReadsPort d w v port k bit
    ports rows v fair solves port k bit h =
        let first = (one.reads rows (kept e v) fair (two.down rows v fair solves)).ports port k bit h in
        let then = (two.reads rows v fair solves).ports port k first.there first.is_bit in
        record { there = then.there; is_bit = then.is_bit; same = ap (λ l. bit_at l bit) (sym (kept-kept d e v more)) ∙ first.same ∙ then.same }
