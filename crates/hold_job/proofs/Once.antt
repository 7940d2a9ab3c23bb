-- Jobs in which nothing stands a second time.
use Rattle.std.proofs.Common.{◌≡◌, ℕ, ◌+◌, List, [], ◌∷◌, ◌++◌, Bool, true, false, cond, Option, Some, None, length, map, codes, refl, ap, sym, ◌∙◌, bytes_eq}
use Rattle.std.specs.Prelude.{Ok, Err}
use Rattle.hold_netlist.specs.declared.kind.Kind.{Kind}
use Rattle.hold_netlist.specs.Names.{is_among}
use Rattle.hold_roles.specs.Types.{first_repeat_from, first_double, type_names}
use Rattle.hold_job.specs.declared.listed_type.ListedType.{ListedType}
use Rattle.hold_job.specs.declared.inst_times.Clock.{Clock}
use Rattle.hold_job.specs.Outcome.{Outcome, ◌>>=◌, at}
use Rattle.hold_job.specs.Doubles.{again, second, once, arcs_once, checks_once, of_each, no_doubles}
use Rattle.hold_job.specs.inner.Listed.{cells_in}

-- what led on gave something
pub led_on : {A B : Type 0} (m : Outcome A) (f : A → Outcome B) (y : B) → (m >>= f) ≡ Ok y → (x : A) × (m ≡ Ok x) × (f x ≡ Ok y)
led_on (Ok x) f y e = (x, refl, e)
led_on (Err fault) f y e = cc

pub at_Ok : {A : Type 0} (step : List ℕ) (m : Outcome A) (x : A) → at step m ≡ Ok x → m ≡ Ok x
at_Ok step (Ok y) x e = e
at_Ok step (Err fault) x e = cc

pub second_none : (key : List ℕ) (place : Option ℕ) → second key place ≡ Ok tt → place ≡ None
second_none key None e = refl
second_none key (Some n) e = cc

-- what is asked of a job before it is made
pub record NoDoubles (types : List ListedType) (kinds : List Kind) (clocks : List Clock) : Type 0 where
  pub by_name : once (codes "name") (map (λ t. t.cell.name) types) ≡ Ok tt
  pub by_type : once (codes "type") (map (λ k. k.cell) kinds) ≡ Ok tt
  pub by_inst : once (codes "inst") (map (λ c. c.inst) clocks) ≡ Ok tt
  pub by_ends : of_each arcs_once 0 types ≡ Ok tt
  pub by_pin : of_each checks_once 0 types ≡ Ok tt

pub no_doubles_parts : (types : List ListedType) (kinds : List Kind) (clocks : List Clock) → no_doubles types kinds clocks ≡ Ok tt → NoDoubles types kinds clocks
unfolding no_doubles
no_doubles_parts types kinds clocks e =
    let (a, one, rest1) = led_on (at (codes "type") (once (codes "name") (map (λ (t : ListedType). t.cell.name) types))) _ tt e in
    let (b, two, rest2) = led_on (at (codes "kind") (once (codes "type") (map (λ (k : Kind). k.cell) kinds))) _ tt rest1 in
    let (c, three, rest3) = led_on (at (codes "clock") (once (codes "inst") (map (λ (k : Clock). k.inst) clocks))) _ tt rest2 in
    let (d, four, five) = led_on (at (codes "type") (of_each arcs_once 0 types)) _ tt rest3 in
    record {
      by_name = at_Ok (codes "type") _ _ one;
      by_type = at_Ok (codes "kind") _ _ two;
      by_inst = at_Ok (codes "clock") _ _ three;
      by_ends = at_Ok (codes "type") _ _ four;
      by_pin = at_Ok (codes "type") _ _ five;
    }

-- names that differ by one count differ by the other
again_repeat : (place : ℕ) (seen names : List (List ℕ)) → again bytes_eq seen names ≡ None → first_repeat_from place seen names ≡ None
again_repeat place seen [] e = refl
again_repeat place seen (n ∷ ns) e = by (is_among n seen) e (again_repeat (place + 1) (seen ++ n ∷ []) ns)
  where
    by : (b : Bool) → cond b (Some (length seen)) (again bytes_eq (seen ++ n ∷ []) ns) ≡ None
        → (again bytes_eq (seen ++ n ∷ []) ns ≡ None → first_repeat_from (place + 1) (seen ++ n ∷ []) ns ≡ None)
        → cond b (Some place) (first_repeat_from (place + 1) (seen ++ n ∷ []) ns) ≡ None
    by true h rest = cc
    by false h rest = rest h

pub names_of_cells : (types : List ListedType) → map (λ t. t.cell.name) types ≡ type_names (cells_in types)
names_of_cells [] = refl
names_of_cells (t ∷ ts) = ap (λ ns. t.cell.name ∷ ns) (names_of_cells ts)

-- so the types make a library
pub cells_differ : (types : List ListedType) (kinds : List Kind) (clocks : List Clock) → no_doubles types kinds clocks ≡ Ok tt → first_double (cells_in types) ≡ None
cells_differ types kinds clocks e =
    let none = second_none (codes "name") (again bytes_eq [] (map (λ (t : ListedType). t.cell.name) types)) (no_doubles_parts types kinds clocks e).by_name in
    again_repeat 0 [] (type_names (cells_in types)) (ap (again bytes_eq []) (sym (names_of_cells types)) ∙ none)
