-- The types of instances, found one by one.
use Rattle.std.proofs.Common.{◌≡◌, ℕ, zero, suc, ◌+◌, ◌<◌, List, [], ◌∷◌, ◌++◌, length, drop, get_or, false, cond, Option, Some, None, refl, sym, ap, ◌∙◌, is_none, arith, subst}
use Rattle.std.specs.Prelude.{slice_get, unwrap_or}
use Rattle.std.proofs.lemmas.List.{append_assoc}
use Rattle.std.proofs.lemmas.Option.{get_or_from_slice_get, slice_get_within}
use Rattle.std.specs.Option.{option_map, option_or}
use Rattle.hold_base.proofs.Bools.{cond-None}
use Rattle.hold_base.proofs.Lists.{drop-here}
use Rattle.hold_base.proofs.Options.{option_map-None, option_or-None}
use Rattle.hold_netlist.specs.declared.inst.Inst.{Inst}
use Rattle.hold_netlist.specs.Design.{Design}
use Rattle.hold_roles.specs.declared.role.CellType.{CellType}
use Rattle.hold_roles.specs.declared.fault.RoleFault.TheVariants.{Limit, NoRole}
use Rattle.hold_roles.specs.Binding.{Binding, binding}
use Rattle.hold_roles.specs.Types.{type_named, type_names, IsTypeOf}
use Rattle.hold_roles.specs.Faults.{first_bad_pin, first_unknown, passed_limit, plain_fault, IsSound}
use Rattle.hold_roles.specs.inner.Cells.{cell_places}
use Rattle.hold_roles.specs.inner.NamePlaces.{first_at}
use Rattle.hold_roles.proofs.NamePlaceLemmas.{is_none-place, no_type, type_at}

module _ (types : List CellType) where
  -- the first of these instances has an unknown type
  pub unknown-here : (insts : List Inst) (n : ℕ) (i : Inst) → n < length insts → i ≡ get_or insts n i → None ≡ first_at 0 i.kind (type_names types)
      → first_unknown types (drop n insts) ≡ first_unknown types insts → first_unknown types insts ≡ Some i.kind
  unknown-here insts n i within here none left =
      sym left ∙ ap (first_unknown types) (drop-here insts n i within here)
      ∙ ap (λ b. cond b (Some i.kind) (first_unknown types (drop (n + 1) insts))) (sym (is_none-place 0 i.kind types) ∙ ap is_none (sym none))

  -- it has a known one
  pub unknown-next : (insts : List Inst) (n place : ℕ) (i : Inst) → n < length insts → i ≡ get_or insts n i → Some place ≡ first_at 0 i.kind (type_names types)
      → first_unknown types (drop n insts) ≡ first_unknown types insts → first_unknown types (drop (n + 1) insts) ≡ first_unknown types insts
  unknown-next insts n place i within here some left =
      ap (λ b. cond b (Some i.kind) (first_unknown types (drop (n + 1) insts))) (ap is_none some ∙ is_none-place 0 i.kind types)
      ∙ ap (first_unknown types) (sym (drop-here insts n i within here)) ∙ left

  pub places-next : (insts : List Inst) (n place : ℕ) (i : Inst) (old new : List ℕ) → n < length insts → i ≡ get_or insts n i → Some place ≡ first_at 0 i.kind (type_names types)
      → new ≡ old ++ place ∷ [] → old ++ cell_places types (drop n insts) ≡ cell_places types insts → new ++ cell_places types (drop (n + 1) insts) ≡ cell_places types insts
  places-next insts n place i old new within here some pushed left =
      ap (λ l. l ++ cell_places types (drop (n + 1) insts)) pushed ∙ append_assoc old (place ∷ []) (cell_places types (drop (n + 1) insts))
      ∙ ap (λ p. old ++ p ∷ cell_places types (drop (n + 1) insts)) (ap (λ o. unwrap_or o 0) some)
      ∙ ap (λ l. old ++ cell_places types l) (sym (drop-here insts n i within here)) ∙ left

-- an instance of a netlist without unknown types has one, which stands at its place
record HasCell (types : List CellType) (insts : List Inst) (i : ℕ) : Type 0 where
  pub t : CellType
  pub type_of : IsTypeOf types insts i t
  pub stands : slice_get types (get_or (cell_places types insts) i 0) ≡ Some t

cell-here : (types : List CellType) (x : Inst) (xs : List Inst) (o : Option CellType) (p : Option ℕ) → type_named x.kind types ≡ o → is_none o ≡ false
    → first_at 0 x.kind (type_names types) ≡ p → HasCell types (x ∷ xs) 0
cell-here types x xs None p named known at = absurd cc
cell-here types x xs (Some t) None named known at = let lost = sym (no_type x.kind types at) ∙ named in absurd cc
cell-here types x xs (Some t) (Some place) named known at = record {
  t = t;
  type_of = record { inst = x; at = refl; named = named };
  stands = ap (slice_get types) (ap (λ o. unwrap_or o 0) at) ∙ type_at x.kind types place at ∙ named;
}

has_cell : (types : List CellType) (insts : List Inst) (i : ℕ) → first_unknown types insts ≡ None → i < length insts → HasCell types insts i
has_cell types [] i known within = absurd (omega arith)
has_cell types (x ∷ xs) zero known within =
    let parts = cond-None (is_none (type_named x.kind types)) x.kind (first_unknown types xs) known in
    cell-here types x xs (type_named x.kind types) (first_at 0 x.kind (type_names types)) refl parts.0 refl
has_cell types (x ∷ xs) (suc i) known within =
    let parts = cond-None (is_none (type_named x.kind types)) x.kind (first_unknown types xs) known in
    let rest = has_cell types xs i parts.1 (omega arith) in
    record { t = rest.t; type_of = record { inst = rest.type_of.inst; at = rest.type_of.at; named = rest.type_of.named }; stands = rest.stands }

plain-known : (types : List CellType) (d : Design) → plain_fault types d ≡ None → first_unknown types d.insts ≡ None
plain-known types d h =
    let later = option_or-None (option_map Limit (passed_limit d)) (option_or (option_map NoRole (first_unknown types d.insts)) (first_bad_pin types d.insts)) h in
    option_map-None NoRole (first_unknown types d.insts) (option_or-None (option_map NoRole (first_unknown types d.insts)) (first_bad_pin types d.insts) later.1).0

module _ (b : Binding) (types : List CellType) (d : Design) (view : binding types d ≡ b) (sound : IsSound types d) (i : ℕ) (within : i < length b.netlist.insts) where
  netlist_is : d ≡ b.netlist
  netlist_is = ap (λ (x : Binding). x.netlist) view

  cell : HasCell types d.insts i
  cell = has_cell types d.insts i (plain-known types d sound.plain) (subst (λ (x : Design). i < length x.insts) (sym netlist_is) within)

  -- the place is one of the library
  pub cell-within : (cells : List ℕ) → cells ≡ cell_places types d.insts → get_or cells i 0 < length types
  cell-within cells is = slice_get_within types (get_or cells i 0) cell.t (ap (λ l. slice_get types (get_or l i 0)) is ∙ cell.stands)

  -- and what stands there is the type of the instance
  pub cell-type : (cells : List ℕ) (seen : List CellType) (t : CellType) → cells ≡ cell_places types d.insts → seen ≡ types → t ≡ get_or seen (get_or cells i 0) t
      → IsTypeOf b.types b.netlist.insts i t
  cell-type cells seen t is lent read =
      let stands : slice_get types (get_or cells i 0) ≡ Some cell.t = ap (λ l. slice_get types (get_or l i 0)) is ∙ cell.stands in
      let same : t ≡ cell.t = read ∙ ap (λ l. get_or l (get_or cells i 0) t) lent ∙ get_or_from_slice_get types (get_or cells i 0) cell.t t stands in
      subst (λ (x : Binding). IsTypeOf x.types x.netlist.insts i t) view (subst (IsTypeOf types d.insts i) (sym same) cell.type_of)
