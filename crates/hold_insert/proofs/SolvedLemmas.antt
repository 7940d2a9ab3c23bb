-- When an instance is solved: the same under values that agree on what it is connected to, and after a connection was tied to a source of
-- the same value; and when a buffer is.
use Rattle.std.proofs.Common.{◌≡◌, ◌≢◌, ℕ, List, [], ◌∷◌, ◌++◌, map, Bool, true, false, cond, Option, Some, None, refl, sym, ap, ◌∙◌, subst}
use Rattle.std.specs.Prelude.{bytes_eq, take, ◌||◌}
use Rattle.std.specs.List.{AllByRecursion}
use Rattle.std.proofs.lemmas.List.{get_or-take}
use Rattle.hold_base.proofs.Bools.{cond-same}
use Rattle.hold_base.proofs.Bytes.{bytes_eq-self, bytes_eq-same}
use Rattle.hold_base.proofs.Lists.{AllByRecursion-append, AllByRecursion-append_left, AllByRecursion-append_right}
use Rattle.hold_base.specs.declared.number.NetNo.{NetNo}
use Rattle.hold_netlist.specs.declared.inst.Source.{Source}
use Rattle.hold_netlist.specs.declared.inst.Source.TheVariants.{Net, Zero, One, Empty}
use Rattle.hold_netlist.specs.declared.inst.Pin.{Pin}
use Rattle.hold_netlist.specs.declared.inst.Inst.{Inst}
use Rattle.hold_netlist.specs.declared.inst.Assign.{Assign}
use Rattle.hold_netlist.specs.declared.kind.Kind.{Kind}
use Rattle.hold_netlist.specs.Names.{is_among}
use Rattle.hold_netlist.specs.WellFormed.{IsSource, IsWrittenPin, IsWrittenInst, IsWrittenAssign}
use Rattle.hold_roles.specs.declared.role.CellType.{CellType}
use Rattle.hold_roles.specs.declared.role.Role.{Role}
use Rattle.hold_roles.specs.declared.role.Role.TheVariants.{Comb, Register, Opaque}
use Rattle.hold_roles.specs.declared.row.Row.{Row}
use Rattle.hold_roles.specs.Solutions.{source_value, pin_value, input_values, output_value, bit_at, HasValue, FollowsRows, IsCellSolved, IsTypeSolved, IsInstSolved, IsAssignSolved}
use Rattle.hold_roles.specs.TypePins.{is_output_pin}
use Rattle.hold_roles.specs.Types.{type_named}
use Rattle.hold_insert.specs.Padded.{tied_pin, tied, with_pins, buffer}
use Rattle.hold_insert.proofs.TiedLemmas.{on_source, IsInputAt, IsInputName}

map-same : {X Y : Type 0} (f g : X → Y) → ((x : X) → f x ≡ g x) → (xs : List X) → map f xs ≡ map g xs
map-same f g same [] = refl
map-same f g same (x ∷ xs) = let here = same x in let rest = map-same f g same xs in cc

-- ---- values that agree on the first net bits

-- the two read the same from each source within so many net bits
abbrev pub Agree : ℕ → List Bool → List Bool → Type 0
Agree bits v u = (s : Source) → IsSource bits s → source_value v s ≡ source_value u s

pub Agree-sym : (bits : ℕ) (v u : List Bool) → Agree bits v u → Agree bits u v
Agree-sym bits v u h = λ s within. sym (h s within)

pub take-Agree : (bits : ℕ) (v : List Bool) → Agree bits v (take bits v)
take-Agree bits v (Net n) within = sym (get_or-take bits v n.0 false within)
take-Agree bits v Zero within = refl
take-Agree bits v One within = refl
take-Agree bits v Empty within = refl

HasValue-same : (v u : List Bool) (s : Source) (value : Bool) → source_value v s ≡ source_value u s → HasValue v s value → HasValue u s value
HasValue-same v u (Net n) value same h = sym same ∙ h
HasValue-same v u Zero value same h = tt
HasValue-same v u One value same h = tt
HasValue-same v u Empty value same h = tt

pin_value-Agree : (bits : ℕ) (v u : List Bool) → Agree bits v u → (pins : List Pin) → AllByRecursion (IsWrittenPin bits) pins → (name : List ℕ) → pin_value v pins name ≡ pin_value u pins name
pin_value-Agree bits v u agree [] written name = refl
pin_value-Agree bits v u agree (pin ∷ pins) written name =
    cond-same (bytes_eq name pin.name) _ _ _ _ (agree pin.source written.0.source) (pin_value-Agree bits v u agree pins written.1 name)

-- the connections follow the rows under values that agree, where the inputs read the same
follows-Agree : (rows : List Row) (bits : ℕ) (v u : List Bool) → Agree bits v u → (t : CellType) (whole other : List Pin) → input_values v t whole ≡ input_values u t other
    → (pins : List Pin) → AllByRecursion (IsWrittenPin bits) pins → AllByRecursion (FollowsRows rows v t whole) pins → AllByRecursion (FollowsRows rows u t other) pins
follows-Agree rows bits v u agree t whole other same [] written h = tt
follows-Agree rows bits v u agree t whole other same (pin ∷ pins) written h = (
  λ out. HasValue-same v u pin.source _ (agree pin.source written.0.source) (subst (λ ins. HasValue v pin.source (output_value rows t.name pin.name ins)) same (h.0 out)),
  follows-Agree rows bits v u agree t whole other same pins written.1 h.1,
)

type-Agree : (rows : List Row) (bits : ℕ) (v u : List Bool) → Agree bits v u → (t : CellType) (role : Role) (pins : List Pin) → AllByRecursion (IsWrittenPin bits) pins
    → IsCellSolved role rows v t pins → IsCellSolved role rows u t pins
type-Agree rows bits v u agree t Comb pins written h =
    follows-Agree rows bits v u agree t pins pins (map-same (pin_value v pins) (pin_value u pins) (pin_value-Agree bits v u agree pins written) t.inputs) pins written h
type-Agree rows bits v u agree t Register pins written h = tt
type-Agree rows bits v u agree t Opaque pins written h = tt

inst-Agree : (types : List CellType) (rows : List Row) (bits : ℕ) (v u : List Bool) → Agree bits v u → (i : Inst) → IsWrittenInst bits i → IsInstSolved types rows v i → IsInstSolved types rows u i
inst-Agree types rows bits v u agree i written h = by (type_named i.kind types) h
  where
    by : (o : Option CellType) → IsTypeSolved o rows v i.pins → IsTypeSolved o rows u i.pins
    by None k = tt
    by (Some t) k = type-Agree rows bits v u agree t t.role i.pins written.pins k

pub insts-Agree : (types : List CellType) (rows : List Row) (bits : ℕ) (v u : List Bool) → Agree bits v u → (insts : List Inst) → AllByRecursion (IsWrittenInst bits) insts
    → AllByRecursion (IsInstSolved types rows v) insts → AllByRecursion (IsInstSolved types rows u) insts
insts-Agree types rows bits v u agree [] written h = tt
insts-Agree types rows bits v u agree (i ∷ is) written h = (inst-Agree types rows bits v u agree i written.0 h.0, insts-Agree types rows bits v u agree is written.1 h.1)

pub assigns-Agree : (bits : ℕ) (v u : List Bool) → Agree bits v u → (assigns : List Assign) → AllByRecursion (IsWrittenAssign bits) assigns
    → AllByRecursion (IsAssignSolved v) assigns → AllByRecursion (IsAssignSolved u) assigns
assigns-Agree bits v u agree [] written h = tt
assigns-Agree bits v u agree (a ∷ more) written h =
    (sym (agree (Net a.left) written.0.left) ∙ h.0 ∙ agree a.right written.0.right, assigns-Agree bits v u agree more written.1 h.1)

-- ---- a connection that is tied to a source of the same value

pin_value-tied : (v : List Bool) (front : List Pin) (x y : Pin) (back : List Pin) → x.name ≡ y.name → source_value v x.source ≡ source_value v y.source → (name : List ℕ)
    → pin_value v (front ++ x ∷ back) name ≡ pin_value v (front ++ y ∷ back) name
pin_value-tied v [] x y back named same name = ap (λ n. cond (bytes_eq name n) (source_value v x.source) (pin_value v back name)) named ∙ ap (λ s. cond (bytes_eq name y.name) s (pin_value v back name)) same
pin_value-tied v (z ∷ front) x y back named same name = ap (λ r. cond (bytes_eq name z.name) (source_value v z.source) r) (pin_value-tied v front x y back named same name)

follows-same : (rows : List Row) (v : List Bool) (t : CellType) (whole other : List Pin) → input_values v t whole ≡ input_values v t other
    → (pins : List Pin) → AllByRecursion (FollowsRows rows v t whole) pins → AllByRecursion (FollowsRows rows v t other) pins
follows-same rows v t whole other same [] h = tt
follows-same rows v t whole other same (pin ∷ pins) h = (
  λ out. subst (λ ins. HasValue v pin.source (output_value rows t.name pin.name ins)) same (h.0 out),
  follows-same rows v t whole other same pins h.1,
)

cell-tied : (rows : List Row) (v : List Bool) (t : CellType) (role : Role) (front : List Pin) (x y : Pin) (back : List Pin) → x.name ≡ y.name → source_value v x.source ≡ source_value v y.source
    → is_output_pin t y.name ≡ false → IsCellSolved role rows v t (front ++ x ∷ back) → IsCellSolved role rows v t (front ++ y ∷ back)
cell-tied rows v t Comb front x y back named same input h =
    let ins : input_values v t (front ++ x ∷ back) ≡ input_values v t (front ++ y ∷ back) =
    map-same (pin_value v (front ++ x ∷ back)) (pin_value v (front ++ y ∷ back)) (pin_value-tied v front x y back named same) t.inputs in
    let moved = follows-same rows v t (front ++ x ∷ back) (front ++ y ∷ back) ins (front ++ x ∷ back) h in
    AllByRecursion-append (FollowsRows rows v t (front ++ y ∷ back)) front (y ∷ back)
    (AllByRecursion-append_left (FollowsRows rows v t (front ++ y ∷ back)) front (x ∷ back) moved)
    ((λ out. let never : true ≡ false = sym out ∙ input in cc), (AllByRecursion-append_right (FollowsRows rows v t (front ++ y ∷ back)) front (x ∷ back) moved).1)
cell-tied rows v t Register front x y back named same input h = tt
cell-tied rows v t Opaque front x y back named same input h = tt

type-tied : (rows : List Row) (v : List Bool) (o : Option CellType) (front : List Pin) (x y : Pin) (back : List Pin) → x.name ≡ y.name → source_value v x.source ≡ source_value v y.source
    → IsInputName o y.name → IsTypeSolved o rows v (front ++ x ∷ back) → IsTypeSolved o rows v (front ++ y ∷ back)
type-tied rows v None front x y back named same input h = tt
type-tied rows v (Some t) front x y back named same input h = cell-tied rows v t t.role front x y back named same input h

-- both ways, for all instances
abbrev pub tied_inst : {types : List CellType} {insts : List Inst} {p : ℕ} → IsInputAt types insts p → Source → Inst
tied_inst h s = with_pins h.at.inst (tied_pin h.at.inst.pins h.at.place s)

pub insts-tied : (types : List CellType) (rows : List Row) (v : List Bool) (insts : List Inst) (p : ℕ) (h : IsInputAt types insts p) (s : Source)
    → source_value v s ≡ source_value v h.at.at.pin.source → AllByRecursion (IsInstSolved types rows v) insts → AllByRecursion (IsInstSolved types rows v) (tied insts p s)
insts-tied types rows v insts p h s same solved =
    let at = h.at.at in
    let P = λ (i : Inst). IsInstSolved types rows v i in
    let all = subst (AllByRecursion P) h.at.whole solved in
    let here = AllByRecursion-append_right P h.at.before (h.at.inst ∷ h.at.after) all in
    let old = subst (λ pins. IsTypeSolved (type_named h.at.inst.kind types) rows v pins) at.whole here.0 in
    let new = type-tied rows v (type_named h.at.inst.kind types) at.front at.pin (on_source at.pin s) at.back refl (sym same) h.input old in
    subst (AllByRecursion P) (sym (h.at.tied s))
    (AllByRecursion-append P h.at.before (tied_inst h s ∷ h.at.after) (AllByRecursion-append_left P h.at.before (h.at.inst ∷ h.at.after) all)
    (subst (λ pins. IsTypeSolved (type_named h.at.inst.kind types) rows v pins) (sym (at.tied s)) new, here.1))

pub tied-insts : (types : List CellType) (rows : List Row) (v : List Bool) (insts : List Inst) (p : ℕ) (h : IsInputAt types insts p) (s : Source)
    → source_value v s ≡ source_value v h.at.at.pin.source → AllByRecursion (IsInstSolved types rows v) (tied insts p s) → AllByRecursion (IsInstSolved types rows v) insts
tied-insts types rows v insts p h s same solved =
    let at = h.at.at in
    let P = λ (i : Inst). IsInstSolved types rows v i in
    let all = subst (AllByRecursion P) (h.at.tied s) solved in
    let here = AllByRecursion-append_right P h.at.before (tied_inst h s ∷ h.at.after) all in
    let old = subst (λ pins. IsTypeSolved (type_named h.at.inst.kind types) rows v pins) (at.tied s) here.0 in
    let new = type-tied rows v (type_named h.at.inst.kind types) at.front (on_source at.pin s) at.pin at.back refl same h.input old in
    subst (AllByRecursion P) (sym h.at.whole)
    (AllByRecursion-append P h.at.before (h.at.inst ∷ h.at.after) (AllByRecursion-append_left P h.at.before (tied_inst h s ∷ h.at.after) all)
    (subst (λ pins. IsTypeSolved (type_named h.at.inst.kind types) rows v pins) (sym at.whole) new, here.1))

-- ---- a buffer

-- a combinational type of one input and one output, which are two pins
pub record IsCopier (types : List CellType) (kind : Kind) : Type 0 where
  pub t : CellType
  pub named : type_named kind.cell types ≡ Some t
  pub comb : t.role ≡ Comb
  pub inputs : t.inputs ≡ kind.input ∷ []
  pub outputs : t.outputs ≡ kind.output ∷ []
  pub differ : kind.input ≢ kind.output

type_named-name : (name : List ℕ) (types : List CellType) (t : CellType) → type_named name types ≡ Some t → t.name ≡ name
type_named-name name [] t h = cc
type_named-name name (x ∷ types) t h = by (bytes_eq name x.name) refl h (λ k. type_named-name name types t k)
  where
    by : (b : Bool) → bytes_eq name x.name ≡ b → cond b (Some x) (type_named name types) ≡ Some t → (type_named name types ≡ Some t → t.name ≡ name) → t.name ≡ name
    by true is k later = let same : x ≡ t = cc in ap (λ (y : CellType). y.name) (sym same) ∙ sym (bytes_eq-same name x.name is)
    by false is k later = later k

abbrev buffer_pins : Kind → Source → NetNo → List Pin
buffer_pins kind s net = record { name = kind.input; source = s } ∷ record { name = kind.output; source = Net net } ∷ []

buffer-inputs : (v : List Bool) (t : CellType) (kind : Kind) (s : Source) (net : NetNo) → t.inputs ≡ kind.input ∷ [] → input_values v t (buffer_pins kind s net) ≡ source_value v s ∷ []
buffer-inputs v t kind s net inputs =
    ap (λ names. map (pin_value v (buffer_pins kind s net)) names) inputs
    ∙ ap (λ (b : Bool). cond b (source_value v s) (pin_value v (record { name = kind.output; source = Net net } ∷ []) kind.input) ∷ []) (bytes_eq-self kind.input)

among-one : (name other : List ℕ) → (bytes_eq name other || false) ≡ true → name ≡ other
among-one name other h = by (bytes_eq name other) refl h
  where
    by : (b : Bool) → bytes_eq name other ≡ b → (b || false) ≡ true → name ≡ other
    by true is k = bytes_eq-same name other is
    by false is k = cc

-- it is solved exactly where its net bit has the output's value under the value of its source
abbrev pub IsBufferOutput : List Row → List Bool → Kind → Source → NetNo → Type 0
IsBufferOutput rows v kind s net = bit_at v net.0 ≡ output_value rows kind.cell kind.output (source_value v s ∷ [])

module _ (types : List CellType) (rows : List Row) (v : List Bool) (kind : Kind) (h : IsCopier types kind) (s : Source) (net : NetNo) where
  ins : input_values v h.t (buffer_pins kind s net) ≡ source_value v s ∷ []
  ins = buffer-inputs v h.t kind s net h.inputs

  output : output_value rows h.t.name kind.output (input_values v h.t (buffer_pins kind s net)) ≡ output_value rows kind.cell kind.output (source_value v s ∷ [])
  output = ap (λ l. output_value rows h.t.name kind.output l) ins ∙ ap (λ name. output_value rows name kind.output (source_value v s ∷ [])) (type_named-name kind.cell types h.t h.named)

  is-out : is_output_pin h.t kind.output ≡ true
  is-out = ap (λ names. is_among kind.output names) h.outputs ∙ ap (λ (b : Bool). b || false) (bytes_eq-self kind.output)

  pub buffer-solved : (n i : ℕ) → IsBufferOutput rows v kind s net → IsInstSolved types rows v (buffer n i kind s net)
  buffer-solved n i e = subst (λ o. IsTypeSolved o rows v (buffer_pins kind s net)) (sym h.named)
      (subst (λ r. IsCellSolved r rows v h.t (buffer_pins kind s net)) (sym h.comb) (
        (λ out. absurd (h.differ (among-one kind.input kind.output (sym (ap (λ names. is_among kind.input names) h.outputs) ∙ out)))),
        ((λ out. e ∙ sym output), tt),
      ))

  pub solved-buffer : (n i : ℕ) → IsInstSolved types rows v (buffer n i kind s net) → IsBufferOutput rows v kind s net
  solved-buffer n i solved =
      let typed = subst (λ o. IsTypeSolved o rows v (buffer_pins kind s net)) h.named solved in
      let cell = subst (λ r. IsCellSolved r rows v h.t (buffer_pins kind s net)) h.comb typed in
      cell.1.0 is-out ∙ output
