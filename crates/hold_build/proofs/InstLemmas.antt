-- What is made of instances one by one: the next one's.
use Rattle.std.proofs.Common.{◌≡◌, ℕ, ◌+◌, ◌<◌, ◌≤◌, List, ◌++◌, length, drop, get_or, sym, ap, ◌∙◌, arith, append_assoc}
use Rattle.std.specs.Prelude.{Some}
use Rattle.std.proofs.lemmas.List.Sums.{sum_by-cons}
use Rattle.std.proofs.lemmas.Option.{get_or_from_slice_get}
use Rattle.hold_base.proofs.Lists.{drop-here}
use Rattle.hold_netlist.specs.declared.inst.Inst.{Inst}
use Rattle.hold_netlist.specs.declared.inst.Pin.{Pin}
use Rattle.hold_netlist.specs.Pins.{connection_count, pin_count}
use Rattle.hold_roles.specs.declared.role.CellType.{CellType}
use Rattle.hold_roles.specs.Types.{type_named, IsTypeOf}
use Rattle.hold_build.specs.inner.CellArcs.{cell_count, over_count, role_count}
use Rattle.hold_build.specs.inner.Insts.{over_cell, over_insts}

-- the type of the instance that stands at a place
pub type-here : (types : List CellType) (insts : List Inst) (n : ℕ) (i : Inst) (t : CellType) → i ≡ get_or insts n i → IsTypeOf types insts n t → type_named i.kind types ≡ Some t
type-here types insts n i t here h =
    let same : i ≡ h.inst = here ∙ get_or_from_slice_get insts n h.inst i h.at in
    ap (λ (x : Inst). type_named x.kind types) same ∙ h.named

-- The instances as they were lent, and one of them with its connections.
module _ (insts seen : List Inst) (same : seen ≡ insts) (n : ℕ) (i : Inst) (inside : n < length seen) (read : i ≡ get_or seen n i) (pins : List Pin) (lent : pins ≡ i.pins) where
  within : n < length insts
  within = let long : length seen ≡ length insts = ap (λ (l : List Inst). length l) same in omega (arith, inside)

  here : i ≡ get_or insts n i
  here = read ∙ ap (λ (l : List Inst). get_or l n i) same

  pub few-next : (first limit : ℕ) → first + connection_count (drop n insts) ≤ limit → first + length pins + connection_count (drop (n + 1) insts) ≤ limit
  few-next first limit few =
      omega (arith, ap connection_count (drop-here insts n i within here), sum_by-cons pin_count i (drop (n + 1) insts), ap (λ (l : List Pin). length l) lent)

  pub over_insts-next : {X : Type 0} (f : CellType → ℕ → List Pin → List X) (types : List CellType) (first : ℕ) (t : CellType) (old new whole : List X)
      → IsTypeOf types insts n t → new ≡ old ++ f t first pins → old ++ over_insts f types first (drop n insts) ≡ whole
      → new ++ over_insts f types (first + length pins) (drop (n + 1) insts) ≡ whole
  over_insts-next f types first t old new whole typed put so_far =
      ap (λ l. l ++ over_insts f types (first + length pins) (drop (n + 1) insts)) put
      ∙ append_assoc old (f t first pins) (over_insts f types (first + length pins) (drop (n + 1) insts))
      ∙ ap (λ (l : List Pin). old ++ (f t first l ++ over_insts f types (first + length l) (drop (n + 1) insts))) lent
      ∙ ap (λ o. old ++ (over_cell f o first i.pins ++ over_insts f types (first + length i.pins) (drop (n + 1) insts))) (sym (type-here types insts n i t here typed))
      ∙ ap (λ l. old ++ over_insts f types first l) (sym (drop-here insts n i within here))
      ∙ so_far

  pub over_count-next : (types : List CellType) (t : CellType) (count more total : ℕ) → IsTypeOf types insts n t → more ≡ role_count t.role t pins
      → count + over_count types (drop n insts) ≡ total → count + more + over_count types (drop (n + 1) insts) ≡ total
  over_count-next types t count more total typed is so_far =
      let next : over_count types (drop n insts) ≡ role_count t.role t pins + over_count types (drop (n + 1) insts) =
      ap (over_count types) (drop-here insts n i within here)
      ∙ ap (λ o. cell_count o i.pins + over_count types (drop (n + 1) insts)) (type-here types insts n i t here typed)
      ∙ ap (λ (l : List Pin). role_count t.role t l + over_count types (drop (n + 1) insts)) (sym lent) in
      omega (arith, next)
