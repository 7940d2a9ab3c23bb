-- What a table of the registers' names, made one instance after another, says of a name.
use Rattle.std.proofs.Common.{◌≡◌, ℕ, List, [], ◌∷◌, Bool, true, false, cond, Option, Some, None, refl, sym, ap, ◌∙◌, is_some, length, drop, ◌≤◌}
use Rattle.std.specs.Prelude.{bytes_eq, ◌||◌, ◌&&◌}
use Rattle.std.proofs.lemmas.Bool.{false≢true, and_parts}
use Rattle.std.proofs.Math.Bool.{or-false, or_assoc}
use Rattle.std.specs.List.{list_any}
use Rattle.std.specs.Cmp.Derive.{both_true}
use Rattle.std.proofs.lemmas.List.{drop_all}
use Rattle.std.proofs.lemmas.List.Folds.{Any-from_list_any, list_any-from_Any}
use Rattle.std.proofs.lemmas.Slice.Eq.{bytes_eq-Decides}
use Rattle.hold_netlist.specs.declared.inst.Inst.{Inst}
use Rattle.hold_netlist.specs.NameTable.{number_of}
use Rattle.hold_plain.specs.declared.cell.Cell.{Cell}
use Rattle.hold_plain.specs.declared.cell.Role.{Role}
use Rattle.hold_plain.specs.declared.cell.Role.TheVariants.{Comb, Register}
use Rattle.hold_plain.specs.declared.timing.Timing.{Timing}
use Rattle.hold_plain.specs.Cells.{cell_named, or_else}
use Rattle.hold_plain.specs.Served.{IsRegister}
use Rattle.hold_plain.specs.inner.Tables.{is_register, is_register_cell, is_register_role, TellsRegisters}
use Rattle.hold_plain.proofs.TableLemmas.{with_name, number_of-with_name}

-- the table once each of these instances that is a register put its name in
abbrev pub with_registers : Timing → List (List ℕ × ℕ) → List Inst → List (List ℕ × ℕ)
with_registers timing table [] = table
with_registers timing table (i ∷ is) = with_registers timing (cond (is_register timing i) (with_name i.name 0 table) table) is

-- whether the instance is a register of that name
abbrev is_named : Timing → List ℕ → Inst → Bool
is_named timing name i = is_register timing i && bytes_eq name i.name

-- ---- what the table has

with_register : (timing : Timing) (name : List ℕ) (table : List (List ℕ × ℕ)) (i : Inst) →
    is_some (number_of name (cond (is_register timing i) (with_name i.name 0 table) table)) ≡ (is_some (number_of name table) || (is_register timing i && bytes_eq name i.name))
with_register timing name table i = by (is_register timing i)
  where
    either : (o : Option ℕ) (b : Bool) → is_some (or_else o (cond b (Some 0) None)) ≡ (is_some o || b)
    either None true = refl
    either None false = refl
    either (Some n) b = refl

    by : (b : Bool) → is_some (number_of name (cond b (with_name i.name 0 table) table)) ≡ (is_some (number_of name table) || (b && bytes_eq name i.name))
    by true = ap is_some (number_of-with_name name i.name 0 table) ∙ either (number_of name table) (bytes_eq name i.name)
    by false = sym (or-false (is_some (number_of name table)))

in_table : (timing : Timing) (name : List ℕ) (table : List (List ℕ × ℕ)) (insts : List Inst) →
    is_some (number_of name (with_registers timing table insts)) ≡ (is_some (number_of name table) || list_any (is_named timing name) insts)
in_table timing name table [] = sym (or-false (is_some (number_of name table)))
in_table timing name table (i ∷ is) =
    in_table timing name (cond (is_register timing i) (with_name i.name 0 table) table) is
    ∙ ap (λ (b : Bool). b || list_any (is_named timing name) is) (with_register timing name table i)
    ∙ or_assoc (is_some (number_of name table)) (is_register timing i && bytes_eq name i.name) (list_any (is_named timing name) is)

-- ---- what it means

role_is : (role : Role) → is_register_role role ≡ true → role ≡ Register
role_is Comb is = absurd (false≢true is)
role_is Register is = refl

cell_is : (o : Option Cell) → is_register_cell o ≡ true → (cell : Cell) × (o ≡ Some cell) × (cell.role ≡ Register)
cell_is None is = absurd (false≢true is)
cell_is (Some cell) is = (cell, refl, role_is cell.role is)

is_cell : (o : Option Cell) (cell : Cell) → o ≡ Some cell → cell.role ≡ Register → is_register_cell o ≡ true
is_cell o cell is role = ap is_register_cell is ∙ ap is_register_role role

register_is : (timing : Timing) (insts : List Inst) (name : List ℕ) → list_any (is_named timing name) insts ≡ true → IsRegister timing insts name
register_is timing insts name is =
    let found = Any-from_list_any (is_named timing name) insts is in
    let both = and_parts (is_register timing found.1) (bytes_eq name found.1.name) found.4 in
    let cell = cell_is (cell_named found.1.kind timing.cells) both.0 in
    record {
      inst = found.1;
      listed = (found.0, found.2, found.3);
      named = sym ((bytes_eq-Decides name found.1.name).0 both.1);
      cell = cell.0;
      known = cell.1;
      role = cell.2;
    }

is_there : (timing : Timing) (insts : List Inst) (name : List ℕ) → IsRegister timing insts name → list_any (is_named timing name) insts ≡ true
is_there timing insts name r =
    let kept : is_register timing r.inst ≡ true = is_cell (cell_named r.inst.kind timing.cells) r.cell r.known r.role in
    let same : bytes_eq name r.inst.name ≡ true = (bytes_eq-Decides name r.inst.name).1 (sym r.named) in
    let named : is_named timing name r.inst ≡ true = both_true kept same in
    list_any-from_Any (is_named timing name) insts (r.listed.0, r.inst, r.listed.1, r.listed.2, named)

-- ---- both

-- a table of the registers' names has exactly those
pub tells_registers : (timing : Timing) (insts : List Inst) (place : ℕ) (table : List (List ℕ × ℕ)) → length insts ≤ place →
    with_registers timing table (drop place insts) ≡ with_registers timing [] insts → TellsRegisters timing insts table
tells_registers timing insts place table past is =
    let whole : table ≡ with_registers timing [] insts = (rw (drop_all place insts past) at is) in
    let each : (name : List ℕ) → is_some (number_of name table) ≡ list_any (is_named timing name) insts =
    λ name. ap (λ (t : List (List ℕ × ℕ)). is_some (number_of name t)) whole ∙ in_table timing name [] insts in
    record {
      each = λ name. (
        λ there. register_is timing insts name (sym (each name) ∙ there),
        λ register. each name ∙ is_there timing insts name register,
      );
    }
