-- What a job keeps in which nothing stands a second time: its names and pairs differ, and a type is found by its name.
use Rattle.std.proofs.Common.{◌≡◌, ℕ, zero, suc, ◌+◌, List, [], ◌∷◌, map, bytes_eq, cond, true, false, Some, codes, refl, ap, sym, ◌∙◌, subst}
use Rattle.std.specs.Prelude.{Ok, slice_get, flat_map}
use Rattle.std.specs.List.{AllByRecursion}
use Rattle.std.specs.Fmt.{decimal}
use Rattle.std.proofs.lemmas.Bool.{false_from_ne_true}
use Rattle.std.proofs.lemmas.List.{map-id}
use Rattle.std.proofs.lemmas.Option.{same_Some, slice_get-map}
use Rattle.std.specs.Option.{option_map}
use Rattle.hold_base.proofs.Bools.{and-true}
use Rattle.hold_base.proofs.Bytes.{bytes_eq-self, bytes_eq-same}
use Rattle.hold_base.proofs.Lists.{AllByRecursion-weaken}
use Rattle.hold_netlist.specs.declared.kind.Kind.{Kind}
use Rattle.hold_roles.specs.declared.role.CellType.{CellType}
use Rattle.hold_roles.specs.Types.{type_names, type_named}
use Rattle.hold_job.specs.declared.cell_times.TypeArc.{TypeArc}
use Rattle.hold_job.specs.declared.cell_times.TypeCheck.{TypeCheck}
use Rattle.hold_job.specs.declared.listed_type.ListedType.{ListedType}
use Rattle.hold_job.specs.declared.inst_times.Clock.{Clock}
use Rattle.hold_job.specs.Outcome.{Outcome, at}
use Rattle.hold_job.specs.Doubles.{again, second, once, same_ends, arcs_once, checks_once, of_each, no_doubles}
use Rattle.hold_job.specs.inner.Listed.{cells_in}
use Rattle.hold_job.proofs.Once.{led_on, at_Ok, second_none, no_doubles_parts, names_of_cells}
use Rattle.hold_job.specs.Rules.{arc_key, check_key}
use Rattle.hold_job.proofs.DifferLemmas.{Differ, at_place, again_Differ, Differ-parts}
use Rattle.hold_job.proofs.TypeRules.{IsListedArc, IsListedCheck, KeepsListedRules}

once_Differ : (key : List ℕ) (names : List (List ℕ)) → once key names ≡ Ok tt → Differ names
once_Differ key names e =
    subst Differ (map-id names)
    (again_Differ bytes_eq (λ n. n) (λ a b same. ap (bytes_eq b) same ∙ bytes_eq-self b) [] names (second_none key (again bytes_eq [] names) e))

of_each_Ok : (form : ListedType → Outcome Unit) (place : ℕ) (types : List ListedType) → of_each form place types ≡ Ok tt → AllByRecursion (λ t. form t ≡ Ok tt) types
of_each_Ok form place [] e = tt
of_each_Ok form place (t ∷ ts) e =
    let (u, one, rest) = led_on (at (decimal place) (form t)) (λ _. of_each form (place + 1) ts) tt e in
    (at_Ok (decimal place) (form t) u one, of_each_Ok form (place + 1) ts rest)

same_by_ends : (a b : TypeArc) → arc_key a ≡ arc_key b → same_ends b a ≡ true
same_by_ends a b same =
    and-true (bytes_eq b.from a.from) (bytes_eq b.to a.to)
    (ap (bytes_eq b.from) (ap (λ k. k.1) same) ∙ bytes_eq-self b.from)
    (ap (bytes_eq b.to) (ap (λ k. k.2) same) ∙ bytes_eq-self b.to)

arcs_Differ : (t : ListedType) → arcs_once t ≡ Ok tt → Differ (map arc_key t.arcs)
arcs_Differ t e =
    again_Differ same_ends arc_key same_by_ends [] t.arcs
    (second_none (codes "from") (again same_ends [] t.arcs) (at_Ok (codes "arcs") (second (codes "from") (again same_ends [] t.arcs)) tt e))

-- pins that differ tell checks apart
by_pins : (checks : List TypeCheck) → Differ (map (λ c. c.pin) checks) → Differ (map check_key checks)
by_pins [] h = tt
by_pins (c ∷ cs) h = (others cs h.0, by_pins cs h.1)
  where
    others : (ds : List TypeCheck) → AllByRecursion (λ pin. c.pin ≡ pin → ⊥) (map (λ d. d.pin) ds) → AllByRecursion (λ k. check_key c ≡ k → ⊥) (map check_key ds)
    others [] apart = tt
    others (d ∷ ds) apart = (λ same. apart.0 (ap (λ k. k.1) same), others ds apart.1)

checks_Differ : (t : ListedType) → checks_once t ≡ Ok tt → Differ (map check_key t.checks)
checks_Differ t e = by_pins t.checks (once_Differ (codes "pin") (map (λ c. c.pin) t.checks) (at_Ok (codes "checks") (once (codes "pin") (map (λ c. c.pin) t.checks)) tt e))

pub record AllDiffer (types : List ListedType) (kinds : List Kind) (clocks : List Clock) : Type 0 where
  pub by_name : Differ (type_names (cells_in types))
  pub by_type : Differ (map (λ k. k.cell) kinds)
  pub by_inst : Differ (map (λ c. c.inst) clocks)
  pub by_ends : Differ (map arc_key (flat_map (λ t. t.arcs) types))
  pub by_pin : Differ (map check_key (flat_map (λ t. t.checks) types))

pub all_differ : (corners : ℕ) (types : List ListedType) (kinds : List Kind) (clocks : List Clock) → AllByRecursion (KeepsListedRules corners) types
    → no_doubles types kinds clocks ≡ Ok tt → AllDiffer types kinds clocks
all_differ corners types kinds clocks rules e =
    let once = no_doubles_parts types kinds clocks e in
    let names = once_Differ (codes "name") (map (λ (t : ListedType). t.cell.name) types) once.by_name in
    record {
      by_name = subst Differ (names_of_cells types) names;
      by_type = once_Differ (codes "type") (map (λ (k : Kind). k.cell) kinds) once.by_type;
      by_inst = once_Differ (codes "inst") (map (λ (c : Clock). c.inst) clocks) once.by_inst;
      by_ends = Differ-parts (λ (t : ListedType). t.arcs) arc_key (λ k. k.0) (λ t. t.cell.name) types
          (AllByRecursion-weaken (KeepsListedRules corners) (λ t. AllByRecursion (λ a. a.kind ≡ t.cell.name) t.arcs)
          (λ t h. AllByRecursion-weaken (IsListedArc corners t.cell) (λ a. a.kind ≡ t.cell.name) (λ a i. i.named) t.arcs h.arcs) types rules)
          (AllByRecursion-weaken (λ t. arcs_once t ≡ Ok tt) (λ t. Differ (map arc_key t.arcs)) arcs_Differ types (of_each_Ok arcs_once 0 types once.by_ends)) names;
      by_pin = Differ-parts (λ (t : ListedType). t.checks) check_key (λ k. k.0) (λ t. t.cell.name) types
          (AllByRecursion-weaken (KeepsListedRules corners) (λ t. AllByRecursion (λ c. c.kind ≡ t.cell.name) t.checks)
          (λ t h. AllByRecursion-weaken (IsListedCheck corners t.cell) (λ c. c.kind ≡ t.cell.name) (λ c i. i.named) t.checks h.checks) types rules)
          (AllByRecursion-weaken (λ t. checks_once t ≡ Ok tt) (λ t. Differ (map check_key t.checks)) checks_Differ types (of_each_Ok checks_once 0 types once.by_pin)) names;
    }

-- ---- types by name

-- types whose names differ are found by them
pub type_named_at : (types : List CellType) (k : ℕ) (t : CellType) → Differ (type_names types) → slice_get types k ≡ Some t → type_named t.name types ≡ Some t
type_named_at [] k t h at = cc
type_named_at (u ∷ us) zero t h at =
    let same = same_Some u t at in
    subst (λ (v : CellType). type_named v.name (u ∷ us) ≡ Some v) same (ap (λ b. cond b (Some u) (type_named u.name us)) (bytes_eq-self u.name))
type_named_at (u ∷ us) (suc k) t h at =
    let name_at : slice_get (type_names us) k ≡ Some t.name = slice_get-map (λ (v : CellType). v.name) us k ∙ ap (option_map (λ (v : CellType). v.name)) at in
    let apart : bytes_eq t.name u.name ≡ false =
    false_from_ne_true (bytes_eq t.name u.name) (λ same. at_place (λ y. u.name ≡ y → ⊥) (type_names us) k t.name h.0 name_at (sym (bytes_eq-same t.name u.name same))) in
    ap (λ b. cond b (Some u) (type_named t.name us)) apart ∙ type_named_at us k t h.1 at

each_place : {A : Type 0} (P : A → Type 0) (xs : List A) → ((k : ℕ) (x : A) → slice_get xs k ≡ Some x → P x) → AllByRecursion P xs
each_place P [] holds = tt
each_place P (x ∷ xs) holds = (holds 0 x refl, each_place P xs (λ k y at. holds (suc k) y at))

pub each_named : (types : List ListedType) → Differ (type_names (cells_in types)) → AllByRecursion (λ t. type_named t.cell.name (cells_in types) ≡ Some t.cell) types
each_named types differ =
    each_place (λ t. type_named t.cell.name (cells_in types) ≡ Some t.cell) types
    (λ k t at. type_named_at (cells_in types) k t.cell differ (slice_get-map (λ (u : ListedType). u.cell) types k ∙ ap (option_map (λ (u : ListedType). u.cell)) at))
