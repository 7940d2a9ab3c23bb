-- Arcs and checks that are read by sets of pins, beside those read by the lists that the sets were made of.
use Rattle.std.proofs.Common.{◌≡◌, ℕ, List, [], ◌∷◌, Option, Some, None, codes, refl, ap, sym, ◌∙◌}
use Rattle.std.specs.Prelude.{Ok}
use Rattle.toml.specs.Data.{Data, Members, as_array, get_member}
use Rattle.hold_netlist.specs.Names.{is_among}
use Rattle.hold_job.specs.declared.cell_times.TypeArc.{TypeArc}
use Rattle.hold_job.specs.declared.cell_times.TypeCheck.{TypeCheck}
use Rattle.hold_job.specs.Outcome.{◌>>=◌, of_kind, at}
use Rattle.hold_job.specs.Keys.{Form, table_of, required, given_or, or_else}
use Rattle.hold_job.specs.Lists.{every}
use Rattle.hold_job.specs.Names.{one_of}
use Rattle.hold_job.specs.Numbers.{earliest, spans, values}
use Rattle.hold_job.specs.CellTypes.{arc_of, check_of}
use Rattle.hold_job.proofs.NameSetLemmas.{in_turn_same, one_of_same}

-- the set has the names of the list
abbrev pub Same : List (List ℕ) → List (List ℕ) → Type 0
Same set names = (n : List ℕ) → is_among n set ≡ is_among n names

every_same : {A : Type 0} (f g : Form A) → ((d : Data) → f d ≡ g d) → (d : Data) → every f d ≡ every g d
every_same f g same d = ap (λ r. of_kind (as_array d) >>= r) (λ i items. in_turn_same (λ so_far. f) (λ so_far. g) (λ so_far. same) [] items i)

or_else_same : {A : Type 0} (x : A) (f g : Form A) → ((d : Data) → f d ≡ g d) → (key : List ℕ) (ms : Members) → or_else x f key ms ≡ or_else x g key ms
or_else_same x f g same key ms = by (get_member key ms)
  where
    by : (o : Option Data) → at key (given_or x f o) ≡ at key (given_or x g o)
    by None = refl
    by (Some d) = ap (at key) (same d)

arc_by : ℕ → List ℕ → Form (List ℕ) → Form (List ℕ) → Form TypeArc
arc_by corners kind from_form to_form d = do
  ms ← table_of (codes "from" ∷ codes "to" ∷ codes "spans" ∷ []) d
  from ← required from_form (codes "from") ms
  to ← required to_form (codes "to") ms
  delays ← required (spans earliest corners) (codes "spans") ms
  Ok (record { kind = kind; from = from; to = to; spans = delays })

arc_is : (corners : ℕ) (kind : List ℕ) (sources outputs : List (List ℕ)) (d : Data) → arc_of corners kind sources outputs d ≡ arc_by corners kind (one_of sources) (one_of outputs) d
unfolding arc_of arc_by
arc_is corners kind sources outputs d = refl

arc_same : (corners : ℕ) (kind : List ℕ) (s t o u : List (List ℕ)) → Same s t → Same o u → (d : Data) → arc_of corners kind s o d ≡ arc_of corners kind t u d
arc_same corners kind s t o u sources outputs d =
    arc_is corners kind s o d
    ∙ ap (λ f. arc_by corners kind f (one_of o) d) (λ i e. one_of_same s t sources e i)
    ∙ ap (λ f. arc_by corners kind (one_of t) f d) (λ i e. one_of_same o u outputs e i)
    ∙ sym (arc_is corners kind t u d)

pub arcs_same : (none : List TypeArc) → none ≡ [] → (corners : ℕ) (kind : List ℕ) (s t o u : List (List ℕ)) → Same s t → Same o u → (ms : Members)
    → or_else none (every (arc_of corners kind s o)) (codes "arcs") ms ≡ or_else [] (every (arc_of corners kind t u)) (codes "arcs") ms
arcs_same none empty corners kind s t o u sources outputs ms =
    ap (λ x. or_else x (every (arc_of corners kind s o)) (codes "arcs") ms) empty
    ∙ or_else_same [] (every (arc_of corners kind s o)) (every (arc_of corners kind t u))
    (every_same (arc_of corners kind s o) (arc_of corners kind t u) (arc_same corners kind s t o u sources outputs)) (codes "arcs") ms

check_by : ℕ → List ℕ → Form (List ℕ) → Form TypeCheck
check_by corners kind pin_form d = do
  ms ← table_of (codes "pin" ∷ codes "setup" ∷ codes "hold" ∷ []) d
  pin ← required pin_form (codes "pin") ms
  setup ← required (values corners) (codes "setup") ms
  hold ← required (values corners) (codes "hold") ms
  Ok (record { kind = kind; pin = pin; setup = setup; hold = hold })

check_is : (corners : ℕ) (kind : List ℕ) (pins : List (List ℕ)) (d : Data) → check_of corners kind pins d ≡ check_by corners kind (one_of pins) d
unfolding check_of check_by
check_is corners kind pins d = refl

check_same : (corners : ℕ) (kind : List ℕ) (s t : List (List ℕ)) → Same s t → (d : Data) → check_of corners kind s d ≡ check_of corners kind t d
check_same corners kind s t pins d =
    check_is corners kind s d ∙ ap (λ f. check_by corners kind f d) (λ i e. one_of_same s t pins e i) ∙ sym (check_is corners kind t d)

pub checks_same : (none : List TypeCheck) → none ≡ [] → (corners : ℕ) (kind : List ℕ) (s t : List (List ℕ)) → Same s t → (ms : Members)
    → or_else none (every (check_of corners kind s)) (codes "checks") ms ≡ or_else [] (every (check_of corners kind t)) (codes "checks") ms
checks_same none empty corners kind s t pins ms =
    ap (λ x. or_else x (every (check_of corners kind s)) (codes "checks") ms) empty
    ∙ or_else_same [] (every (check_of corners kind s)) (every (check_of corners kind t))
    (every_same (check_of corners kind s) (check_of corners kind t) (check_same corners kind s t pins)) (codes "checks") ms
