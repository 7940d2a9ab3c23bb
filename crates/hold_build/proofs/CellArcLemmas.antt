-- Arcs through cells: they are those of the combinational instances, each once, and there are as many as are counted.
use Rattle.std.proofs.Common.{◌≡◌, ◌≢◌, ℕ, zero, suc, ◌+◌, ◌*◌, ◌<◌, inl, inr, List, [], ◌∷◌, ◌++◌, length, Bool, true, false, cond, not, Option, Some, None, refl, sym, ap, subst, ◌∙◌, arith, append_assoc, length-append, ◌≤◌}
use Rattle.std.specs.Prelude.{Contains, slice_get, ◌&&◌}
use Rattle.std.proofs.lemmas.List.{append-nil}
use Rattle.std.proofs.lemmas.List.Sums.{sum_by-cons}
use Rattle.std.proofs.lemmas.List.Elements.{All-contains_itself, All-weaker, Contains-append_cases, Contains-append_left, Contains-append_right}
use Rattle.hold_base.specs.declared.number.PinNo.{PinNo}
use Rattle.hold_graph.specs.declared.graph.Arc.{Arc}
use Rattle.hold_netlist.specs.declared.inst.Inst.{Inst}
use Rattle.hold_netlist.specs.declared.inst.Pin.{Pin}
use Rattle.hold_netlist.specs.declared.inst.Source.{Source}
use Rattle.hold_netlist.specs.declared.inst.Source.TheVariants.{Net, Zero, One, Empty}
use Rattle.hold_netlist.specs.Numbering.{first_of}
use Rattle.hold_netlist.specs.Pins.{pin_count}
use Rattle.hold_roles.specs.declared.role.CellType.{CellType}
use Rattle.hold_roles.specs.declared.role.Role.{Role}
use Rattle.hold_roles.specs.declared.role.Role.TheVariants.{Comb, Register, Opaque}
use Rattle.hold_roles.specs.Binding.{Binding}
use Rattle.hold_roles.specs.Types.{type_named}
use Rattle.hold_build.specs.declared.sort.Sort.{Sort}
use Rattle.hold_build.specs.declared.sort.Sort.TheVariants.{Output, Tied}
use Rattle.hold_build.specs.Arcs.{IsCellArc}
use Rattle.hold_build.specs.Listing.{StandsOnce}
use Rattle.hold_build.specs.Pins.{is_data_pin}
use Rattle.hold_build.specs.inner.CellArcs.{arcs_between, arcs_to, cell_arc, cell_arcs, cell_count, over_count, role_arcs, role_count, sort_count}
use Rattle.hold_build.specs.inner.Insts.{over_cell, over_insts, over_pins}
use Rattle.hold_build.specs.inner.Sorts.{is_empty, is_of_sort, sort_pin, sort_pins}
use Rattle.hold_build.proofs.ListingLemmas.{at-Contains}
use Rattle.hold_build.proofs.OverLemmas.{IsKeyed, keyed-nil, over_insts-has, over_insts-keyed, over_insts-of, over_pins-keyed}
use Rattle.hold_build.proofs.SortLemmas.{IsSortPin, pin_of, sort_pins-has, sort_pins-keyed, sort_pins-of}

-- ---- the arcs between two lists of pins

arcs_to-of : (froms : List PinNo) (to : PinNo) (arc : Arc) → Contains (arcs_to froms to) arc → Contains froms arc.from × (to ≡ arc.to) × (arc.wire ≡ false)
arcs_to-of [] to arc h = absurd (omega (arith, h.1))
arcs_to-of (f ∷ froms) to arc (zero, lt, is) = ((0, omega arith, ap (λ (a : Arc). a.from) is), ap (λ (a : Arc). a.to) is, sym (ap (λ (a : Arc). a.wire) is))
arcs_to-of (f ∷ froms) to arc (suc k, lt, is) =
    let rest = arcs_to-of froms to arc (k, omega arith, is) in
    (Contains-append_right (f ∷ []) froms arc.from rest.0, rest.1, rest.2)

arcs_to-has : (froms : List PinNo) (to : PinNo) (arc : Arc) (k : ℕ) → slice_get froms k ≡ Some arc.from → to ≡ arc.to → arc.wire ≡ false → Contains (arcs_to froms to) arc
arcs_to-has [] to arc k at end wire = absurd cc
arcs_to-has (f ∷ froms) to arc zero at end wire =
    let begin : f ≡ arc.from = cc in (
      0,
      omega arith,
      ap (λ p. record { from = p; to = to; wire = false }) begin ∙ ap (λ p. record { from = arc.from; to = p; wire = false }) end
          ∙ ap (λ w. record { from = arc.from; to = arc.to; wire = w }) (sym wire),
    )
arcs_to-has (f ∷ froms) to arc (suc k) at end wire = Contains-append_right (cell_arc to f ∷ []) (arcs_to froms to) arc (arcs_to-has froms to arc k at end wire)

pub arcs_between-of : (froms tos : List PinNo) (arc : Arc) → Contains (arcs_between froms tos) arc → Contains froms arc.from × Contains tos arc.to × (arc.wire ≡ false)
arcs_between-of froms [] arc h = absurd (omega (arith, h.1))
arcs_between-of froms (t ∷ tos) arc h = elim (Contains-append_cases (arcs_to froms t) (arcs_between froms tos) arc h) [
  | inl a ↦ (let told = arcs_to-of froms t arc a in (told.0, (0, omega arith, told.1), told.2))
  | inr b ↦ (let rest = arcs_between-of froms tos arc b in (rest.0, Contains-append_right (t ∷ []) tos arc.to rest.1, rest.2))
]

between-at : (froms tos : List PinNo) (arc : Arc) (j k : ℕ) → slice_get froms j ≡ Some arc.from → slice_get tos k ≡ Some arc.to → arc.wire ≡ false → Contains (arcs_between froms tos) arc
between-at froms [] arc j k from to wire = absurd cc
between-at froms (t ∷ tos) arc j zero from to wire =
    let end : t ≡ arc.to = cc in Contains-append_left (arcs_to froms t) (arcs_between froms tos) arc (arcs_to-has froms t arc j from end wire)
between-at froms (t ∷ tos) arc j (suc k) from to wire = Contains-append_right (arcs_to froms t) (arcs_between froms tos) arc (between-at froms tos arc j k from to wire)

pub length-between : (froms tos : List PinNo) → length (arcs_between froms tos) ≡ length froms * length tos
length-between froms [] = omega arith
length-between froms (t ∷ tos) = omega (arith, length-append (arcs_to froms t) (arcs_between froms tos), to froms, length-between froms tos)
  where
    to : (froms : List PinNo) → length (arcs_to froms t) ≡ length froms
    to [] = refl
    to (f ∷ froms) = let rest = to froms in omega arith

-- ---- none twice

abbrev end_number : Arc → ℕ
end_number arc = arc.to.0

to-once : (froms : List PinNo) (to : PinNo) → StandsOnce froms → StandsOnce (arcs_to froms to)
to-once froms to once i j arc h k = once i j arc.from (begin froms i arc h) (begin froms j arc k)
  where
    begin : (froms : List PinNo) (i : ℕ) (arc : Arc) → slice_get (arcs_to froms to) i ≡ Some arc → slice_get froms i ≡ Some arc.from
    begin [] i arc h = cc
    begin (f ∷ froms) zero arc h = let same : cell_arc to f ≡ arc = cc in ap (λ (a : Arc). Some a.from) same
    begin (f ∷ froms) (suc i) arc h = begin froms i arc h

between-append : (froms xs ys : List PinNo) → arcs_between froms (xs ++ ys) ≡ arcs_between froms xs ++ arcs_between froms ys
between-append froms [] ys = refl
between-append froms (x ∷ xs) ys =
    ap (λ l. arcs_to froms x ++ l) (between-append froms xs ys) ∙ sym (append_assoc (arcs_to froms x) (arcs_between froms xs) (arcs_between froms ys))

between-over : (froms : List PinNo) (g : ℕ → Pin → List PinNo) (p : ℕ) (pins : List Pin) → arcs_between froms (over_pins g p pins) ≡ over_pins (λ n pin. arcs_between froms (g n pin)) p pins
between-over froms g p [] = refl
between-over froms g p (pin ∷ pins) =
    between-append froms (g p pin) (over_pins g (p + 1) pins) ∙ ap (λ l. arcs_between froms (g p pin) ++ l) (between-over froms g (p + 1) pins)

one_end-keyed : (froms : List PinNo) (b : Bool) (p : ℕ) → StandsOnce froms → IsKeyed end_number p (p + 1) (arcs_between froms (cond b (record { 0 = p } ∷ []) []))
one_end-keyed froms false p once = keyed-nil end_number p (p + 1)
one_end-keyed froms true p once = subst (IsKeyed end_number p (p + 1)) (sym (append-nil (arcs_to froms (record { 0 = p })))) (record {
  once = to-once froms (record { 0 = p }) once;
  within = All-weaker (Contains (arcs_to froms (record { 0 = p }))) (λ arc. (p ≤ end_number arc) × (end_number arc < p + 1))
      (λ arc h. let told = arcs_to-of froms (record { 0 = p }) arc h in let is : p ≡ end_number arc = ap (λ (q : PinNo). q.0) told.1 in (omega arith, omega arith))
      (arcs_to froms (record { 0 = p })) (All-contains_itself (arcs_to froms (record { 0 = p })));
})

comb-keyed : (t : CellType) (p : ℕ) (pins : List Pin) → IsKeyed end_number p (p + length pins) (arcs_between (sort_pins Tied t p pins) (sort_pins Output t p pins))
comb-keyed t p pins =
    let froms = sort_pins Tied t p pins in
    subst (IsKeyed end_number p (p + length pins)) (sym (between-over froms (sort_pin Output t) p pins))
    (over_pins-keyed (λ n pin. arcs_between froms (sort_pin Output t n pin)) end_number
    (λ n pin. one_end-keyed froms (is_of_sort Output t pin) n (sort_pins-keyed Tied t p pins).once) p pins)

role-keyed : (role : Role) (t : CellType) (p : ℕ) (pins : List Pin) → IsKeyed end_number p (p + length pins) (role_arcs role t p pins)
role-keyed Comb t p pins = comb-keyed t p pins
role-keyed Register t p pins = keyed-nil end_number p (p + length pins)
role-keyed Opaque t p pins = keyed-nil end_number p (p + length pins)

pub cell_arcs-once : (types : List CellType) (insts : List Inst) → StandsOnce (over_insts cell_arcs types 0 insts)
cell_arcs-once types insts = (over_insts-keyed cell_arcs types end_number (λ t p pins. role-keyed t.role t p pins) 0 insts).once

-- ---- which arcs they are

role-of : (role : Role) (t : CellType) (p : ℕ) (pins : List Pin) (arc : Arc) → Contains (role_arcs role t p pins) arc
    → (role ≡ Comb) × IsSortPin Tied t p pins arc.from × IsSortPin Output t p pins arc.to × (arc.wire ≡ false)
role-of Comb t p pins arc h =
    let told = arcs_between-of (sort_pins Tied t p pins) (sort_pins Output t p pins) arc h in
    (refl, sort_pins-of Tied t p pins arc.from told.0, sort_pins-of Output t p pins arc.to told.1, told.2)
role-of Register t p pins arc h = absurd (omega (arith, h.1))
role-of Opaque t p pins arc h = absurd (omega (arith, h.1))

tied-of : (b : Bool) (source : Source) → (b && not (is_empty source)) ≡ true → (b ≡ true) × (source ≢ Empty)
tied-of true (Net n) h = (refl, λ e. cc)
tied-of true Zero h = (refl, λ e. cc)
tied-of true One h = (refl, λ e. cc)
tied-of true Empty h = absurd cc
tied-of false source h = absurd cc

tied-has : (b : Bool) (source : Source) → b ≡ true → source ≢ Empty → (b && not (is_empty source)) ≡ true
tied-has true (Net n) h apart = refl
tied-has true Zero h apart = refl
tied-has true One h apart = refl
tied-has true Empty h apart = absurd (apart refl)
tied-has false source h apart = absurd cc

module _ (b : Binding) where
  pub cell_arcs-of : (arc : Arc) → Contains (over_insts cell_arcs b.types 0 b.netlist.insts) arc → (arc.wire ≡ false) × IsCellArc b arc.from arc.to
  cell_arcs-of arc h =
      let one = over_insts-of cell_arcs b.types 0 b.netlist.insts arc h in
      let told = role-of one.t.role one.t (0 + first_of pin_count b.netlist.insts one.inst) one.i.pins arc one.made in
      let from = told.1 in
      let to = told.2 in
      let input = tied-of (is_data_pin one.t from.pin.name) from.pin.source from.is in (
        told.3,
        record {
          inst = one.inst;
          t = one.t;
          comb = told.0;
          input = from.pin;
          begins = pin_of b arc.from one.inst from.place one.i one.t from.pin one.at one.typed from.at (omega (arith, from.number_is));
          is_input = input.0;
          written = input.1;
          output = to.pin;
          ends = pin_of b arc.to one.inst to.place one.i one.t to.pin one.at one.typed to.at (omega (arith, to.number_is));
          is_output = to.is;
        },
      )

  pub cell_arcs-has : (arc : Arc) → arc.wire ≡ false → IsCellArc b arc.from arc.to → Contains (over_insts cell_arcs b.types 0 b.netlist.insts) arc
  cell_arcs-has arc wire h =
      let begins = h.begins in
      let ends = h.ends in
      let insts : Some begins.i ≡ Some ends.i = sym begins.is_inst ∙ ends.is_inst in
      let same : ends.i ≡ begins.i = cc in
      let first = 0 + first_of pin_count b.netlist.insts h.inst in
      let from = sort_pins-has Tied h.t first begins.i.pins arc.from
      (record { place = begins.place; pin = h.input; at = begins.is_pin; is = tied-has (is_data_pin h.t h.input.name) h.input.source h.is_input h.written; number_is = (let is = begins.numbered.number in omega arith) }) in
      let to = sort_pins-has Output h.t first begins.i.pins arc.to
      (record { place = ends.place; pin = h.output; at = ap (λ (x : Inst). slice_get x.pins ends.place) (sym same) ∙ ends.is_pin; is = h.is_output; number_is = (let is = ends.numbered.number in omega arith) }) in
      let from_at = at-Contains (sort_pins Tied h.t first begins.i.pins) arc.from from in
      let to_at = at-Contains (sort_pins Output h.t first begins.i.pins) arc.to to in
      over_insts-has cell_arcs b.types 0 b.netlist.insts h.inst begins.i h.t arc begins.is_inst begins.typed
      (subst (λ role. Contains (role_arcs role h.t first begins.i.pins) arc) (sym h.comb)
      (between-at (sort_pins Tied h.t first begins.i.pins) (sort_pins Output h.t first begins.i.pins) arc from_at.0 to_at.0 from_at.1 to_at.1 wire))

-- ---- how many there are

length-sort : (sort : Sort) (t : CellType) (p : ℕ) (pins : List Pin) → length (sort_pins sort t p pins) ≡ sort_count sort t pins
length-sort sort t p [] = refl
length-sort sort t p (pin ∷ pins) =
    by (is_of_sort sort t pin) ∙ ap (λ n. cond (is_of_sort sort t pin) 1 0 + n) (length-sort sort t (p + 1) pins) ∙ sym (sum_by-cons (λ x. cond (is_of_sort sort t x) 1 0) pin pins)
  where
    by : (b : Bool) → length (cond b (record { 0 = p } ∷ []) [] ++ sort_pins sort t (p + 1) pins) ≡ cond b 1 0 + length (sort_pins sort t (p + 1) pins)
    by true = omega arith
    by false = omega arith

length-role : (role : Role) (t : CellType) (p : ℕ) (pins : List Pin) → length (role_arcs role t p pins) ≡ role_count role t pins
length-role Comb t p pins =
    length-between (sort_pins Tied t p pins) (sort_pins Output t p pins) ∙ ap (λ n. n * length (sort_pins Output t p pins)) (length-sort Tied t p pins)
    ∙ ap (λ n. sort_count Tied t pins * n) (length-sort Output t p pins)
length-role Register t p pins = refl
length-role Opaque t p pins = refl

length-cell : (o : Option CellType) (p : ℕ) (pins : List Pin) → length (over_cell cell_arcs o p pins) ≡ cell_count o pins
length-cell None p pins = refl
length-cell (Some t) p pins = length-role t.role t p pins

pub length-cell_arcs : (types : List CellType) (p : ℕ) (insts : List Inst) → length (over_insts cell_arcs types p insts) ≡ over_count types insts
length-cell_arcs types p [] = refl
length-cell_arcs types p (i ∷ is) =
    omega (
      arith,
      length-append (over_cell cell_arcs (type_named i.kind types) p i.pins) (over_insts cell_arcs types (p + length i.pins) is),
      length-cell (type_named i.kind types) p i.pins,
      length-cell_arcs types (p + length i.pins) is,
    )
