-- What a table's answer for a name says of the name being double.
use Rattle.std.proofs.Common.{◌≡◌, ℕ, List, Bool, true, false, refl, sym, ap, ◌∙◌, not, is_none}
use Rattle.std.specs.Prelude.{Some, None, Ok, Err, if◌then◌else◌}
use Rattle.hold_base.specs.Answers.{unless}
use Rattle.hold_netlist.specs.declared.fault.NetFault.TheVariants.{DoubleName}
use Rattle.hold_netlist.specs.Faults.{double_fault}
use Rattle.hold_netlist.specs.Names.{is_among}
use Rattle.hold_netlist.specs.inner.NameTable.{names_of}
use Rattle.hold_netlist.specs.NameTable.{number_of}
use Rattle.hold_netlist.proofs.NameTableLemmas.{is_none_number}

not_double : (name : List ℕ) (among : Bool) → not among ≡ true → unless (double_fault (if among then Some name else None)) (tt {0}) ≡ Ok tt
not_double name true h = cc
not_double name false h = refl

double : (name found : List ℕ) (among : Bool) → not among ≡ false → found ≡ name → unless (double_fault (if among then Some name else None)) (tt {0}) ≡ Err (DoubleName found)
double name found true h same = ap (λ n. Err (DoubleName n)) (sym same)
double name found false h same = cc

-- a name that is new to the table is no double
pub new_name : (name : List ℕ) (pairs : List (List ℕ × ℕ)) (new : Bool) → new ≡ is_none (number_of name pairs) → new ≡ true
    → unless (double_fault (if is_among name (names_of pairs) then Some name else None)) (tt {0}) ≡ Ok tt
new_name name pairs new is h = not_double name _ (sym (is_none_number name pairs) ∙ sym is ∙ h)

-- a name that the table has is double
pub old_name : (name found : List ℕ) (pairs : List (List ℕ × ℕ)) (new : Bool) → new ≡ is_none (number_of name pairs) → new ≡ false → found ≡ name
    → unless (double_fault (if is_among name (names_of pairs) then Some name else None)) (tt {0}) ≡ Err (DoubleName found)
old_name name found pairs new is h same = double name found _ (sym (is_none_number name pairs) ∙ sym is ∙ h) same
