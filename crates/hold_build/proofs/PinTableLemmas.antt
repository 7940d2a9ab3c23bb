-- Tables of the pins of instances: one more, and what a table tells.
use Rattle.std.proofs.Common.{◌≡◌, ℕ, ◌<◌, inl, inr, List, [], ◌∷◌, ◌++◌, length, get_or, sym, ap, subst, ◌∙◌}
use Rattle.std.specs.Prelude.{Option, Some, slice_get, slice_set}
use Rattle.std.proofs.lemmas.Option.{get_or_from_slice_get, slice_get-get_or, slice_get_within}
use Rattle.hold_base.proofs.Lists.{slice_get-append, slice_get-seam}
use Rattle.hold_netlist.specs.declared.inst.Inst.{Inst}
use Rattle.hold_netlist.specs.Names.{pin_names}
use Rattle.hold_netlist.specs.NameTable.{number_of}
use Rattle.hold_roles.specs.inner.NamePlaces.{first_at, TellsPlaces}
use Rattle.hold_roles.proofs.MarkLemmas.{slice_get-set}
use Rattle.hold_build.specs.inner.Names.{IsTableOf}

module _ (insts : List Inst) (of_inst : List (Option ℕ)) (tables : List (List (List ℕ × ℕ)))
    (right : (k n : ℕ) (i : Inst) → slice_get insts k ≡ Some i → slice_get of_inst k ≡ Some (Some n) → IsTableOf i tables n) where
  pub table-added : (new : List (List (List ℕ × ℕ))) (inst place : ℕ) (j : Inst) (table : List (List ℕ × ℕ)) → inst < length insts → inst < length of_inst
      → j ≡ get_or insts inst j → place ≡ length tables → new ≡ tables ++ table ∷ [] → TellsPlaces (pin_names j.pins) table → (k n : ℕ) (i : Inst) → slice_get insts k ≡ Some i
      → slice_get (slice_set of_inst inst (Some place)) k ≡ Some (Some n) → IsTableOf i new n
  table-added new inst place j table within inside here at put tells k n i is has =
      elim (slice_get-set of_inst inst (Some place) k (Some n) inside has) [
        | inl e ↦ (
            let there : slice_get insts inst ≡ Some j = slice_get-get_or insts inst j within ∙ ap Some (sym here) in
            let same : Some j ≡ Some i = sym there ∙ ap (slice_get insts) (sym e.0) ∙ is in
            let inst_is : j ≡ i = cc in
            let stored : Some n ≡ Some place = e.1 in
            let number : n ≡ length tables = (let first : n ≡ place = cc in first ∙ at) in
            record {
              table = table;
              at = ap (λ (l : List (List (List ℕ × ℕ))). slice_get l n) put ∙ ap (slice_get (tables ++ table ∷ [])) number ∙ slice_get-seam tables [] table;
              tells = subst (λ (x : Inst). TellsPlaces (pin_names x.pins) table) inst_is tells;
            }
            )
        | inr d ↦ (
            let old = right k n i is d.1 in
            record {
              table = old.table;
              at = ap (λ (l : List (List (List ℕ × ℕ))). slice_get l n) put ∙ slice_get-append tables (table ∷ []) n old.table old.at;
              tells = old.tells;
            }
            )
      ]

  -- a table that an instance has is one
  pub table-within : (inst n : ℕ) → inst < length insts → slice_get of_inst inst ≡ Some (Some n) → n < length tables
  table-within inst n within has =
      let none : Inst = record { name = []; kind = []; pins = [] } in
      let old = right inst n (get_or insts inst none) (slice_get-get_or insts inst none within) has in
      slice_get_within tables n old.table old.at

  -- and tells the place of a name
  pub table-tells : (inst n : ℕ) (i : Inst) (name : List ℕ) (found : Option ℕ) (seen e : List (List ℕ × ℕ)) → slice_get insts inst ≡ Some i → slice_get of_inst inst ≡ Some (Some n)
      → seen ≡ get_or tables n e → found ≡ number_of name seen → found ≡ first_at 0 name (pin_names i.pins)
  table-tells inst n i name found seen e is has read told =
      let old = right inst n i is has in
      told ∙ ap (number_of name) (read ∙ get_or_from_slice_get tables n old.table e old.at) ∙ old.tells.each name
