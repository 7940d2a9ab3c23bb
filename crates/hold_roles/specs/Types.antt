-- type_names types: the names of types, in order.
-- type_named name types: the first type of that name; None where no type has it.
-- first_repeat_from place seen names: the place of the first of the names that is among those seen, or among those before it,
--   where the first of all has that place. None where each is new.
-- first_double types: the place of the first type that has an earlier one's name; None where each name is new.
-- double_fault place: the fault that names that place; None where there is none.
-- IsTypeOf types insts i t: t is the type of instance i. IsRoleOf types insts i role: that is its type's role.
use Rattle.std.specs.Prelude.{◌≡◌, ℕ, ◌+◌, List, [], ◌∷◌, ◌++◌, map, Option, Some, None, bytes_eq, slice_get, if◌then◌else◌}
use Rattle.std.specs.Option.{option_map}
use Rattle.hold_netlist.specs.declared.inst.Inst.{Inst}
use Rattle.hold_netlist.specs.Names.{is_among}
use Rattle.hold_roles.specs.declared.role.Role.{Role}
use Rattle.hold_roles.specs.declared.role.CellType.{CellType}
use Rattle.hold_roles.specs.declared.fault.LibraryFault.{LibraryFault}
use Rattle.hold_roles.specs.declared.fault.LibraryFault.TheVariants.{Double}

abbrev pub type_names : List CellType → List (List ℕ)
type_names types = map (λ t. t.name) types

abbrev pub type_named : List ℕ → List CellType → Option CellType
type_named name [] = None
type_named name (t ∷ ts) = if bytes_eq name t.name then Some t else type_named name ts

abbrev pub first_repeat_from : ℕ → List (List ℕ) → List (List ℕ) → Option ℕ
first_repeat_from place seen [] = None
first_repeat_from place seen (n ∷ ns) = if is_among n seen then Some place else first_repeat_from (place + 1) (seen ++ n ∷ []) ns

abbrev pub first_double : List CellType → Option ℕ
first_double types = first_repeat_from 0 [] (type_names types)

abbrev pub double_fault : Option ℕ → Option LibraryFault
double_fault place = option_map Double place

pub record IsTypeOf (types : List CellType) (insts : List Inst) (i : ℕ) (t : CellType) : Type 0 where
  pub inst : Inst
  pub at : slice_get insts i ≡ Some inst
  pub named : type_named inst.kind types ≡ Some t

pub record IsRoleOf (types : List CellType) (insts : List Inst) (i : ℕ) (role : Role) : Type 0 where
  pub t : CellType
  pub type_of : IsTypeOf types insts i t
  pub is : t.role ≡ role
