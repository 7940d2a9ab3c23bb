-- The line that gives a port its direction, where the names in the header are those of the lines.
use Rattle.std.proofs.Common.{◌≡◌, ℕ, List, [], ◌∷◌, map, Bool, true, false, ◌||◌, refl, ◌∙◌, ap, subst, bytes_eq, is_none}
use Rattle.std.specs.Prelude.{Option, Some, None, if◌then◌else◌}
use Rattle.std.specs.List.{AllByRecursion}
use Rattle.std.proofs.lemmas.Bool.{or_parts, or_right}
use Rattle.std.proofs.lemmas.Slice.Eq.{bytes_eq-Decides}
use Rattle.hold_base.proofs.Bytes.{bytes_eq-self, bytes_eq-swap}
use Rattle.hold_base.proofs.Lists.{AllByRecursion-weaken}
use Rattle.hold_netlist.specs.Names.{is_among}
use Rattle.hold_netlist.specs.declared.wire.Direction.{Direction}
use Rattle.hold_vsyntax.specs.declared.tree.Ident.{Ident}
use Rattle.hold_vparse.specs.Lines.{PortLine, port_line, line_of, as_declared}
use Rattle.hold_vparse.specs.Nets.{names}
use Rattle.hold_vparse.proofs.DeclaredWires.{line_names}
use Rattle.hold_vparse.proofs.NameLists.{Differ}

-- each of some identifiers is among their names
pub each_among : (is : List Ident) → AllByRecursion (λ (i : Ident). is_among i.name (names is) ≡ true) is
each_among [] = tt
each_among (i ∷ is) = (
  rw (bytes_eq-self i.name) refl,
  AllByRecursion-weaken (λ (j : Ident). is_among j.name (names is) ≡ true) (λ (j : Ident). is_among j.name (names (i ∷ is)) ≡ true)
      (λ j among. or_right (bytes_eq j.name i.name) (is_among j.name (names is)) among) is (each_among is),
)

-- a name that no line declares
pub line_of_none : (name : List ℕ) (ls : List PortLine) → is_among name (line_names ls) ≡ false → line_of name ls ≡ None
line_of_none name [] h = refl
line_of_none name (l ∷ ls) h =
    let parts = or_parts (bytes_eq name l.name.name) (is_among name (line_names ls)) h in
    let other = parts.0 in
    rw other (line_of_none name ls parts.1)

-- a name that some line declares
declared_by : (same : Bool) (l : PortLine) (rest : Option PortLine) (more : Bool) → (same || more) ≡ true → (more ≡ true → is_none rest ≡ false) → is_none (if same then Some l else rest) ≡ false
declared_by true l rest more h later = refl
declared_by false l rest more h later = later h

pub line_of_some : (name : List ℕ) (ls : List PortLine) → is_among name (line_names ls) ≡ true → is_none (line_of name ls) ≡ false
line_of_some name [] h = absurd cc
line_of_some name (l ∷ ls) h = declared_by (bytes_eq name l.name.name) l (line_of name ls) (is_among name (line_names ls)) h (λ more. line_of_some name ls more)

-- a line of another name is passed
pass_line : (l : PortLine) (ls : List PortLine) (is : List Ident) → is_among l.name.name (names is) ≡ false
    → map (λ (i : Ident). as_declared i (line_of i.name (l ∷ ls))) is ≡ map (λ (i : Ident). as_declared i (line_of i.name ls)) is
pass_line l ls [] h = refl
pass_line l ls (i ∷ is) h =
    let parts = or_parts (bytes_eq l.name.name i.name) (is_among l.name.name (names is)) h in
    let other = bytes_eq-swap l.name.name i.name parts.0 in
    rw other (ap (λ r. as_declared i (line_of i.name ls) ∷ r) (pass_line l ls is parts.1))

module _ {X : Type 0} (f : PortLine → X) (by_name : (direction : Direction) (range : Option (ℕ × ℕ)) (i j : Ident) → i.name ≡ j.name → f (port_line direction range i) ≡ f (port_line direction range j)) where
  -- each port has the direction and the range of the line in its place
  pub ports_as_lines : (is : List Ident) (ls : List PortLine) → names is ≡ line_names ls → Differ (names is)
      → map f (map (λ (i : Ident). as_declared i (line_of i.name ls)) is) ≡ map f ls
  ports_as_lines [] [] same differ = refl
  ports_as_lines [] (l ∷ ls) same differ = absurd cc
  ports_as_lines (i ∷ is) [] same differ = absurd cc
  ports_as_lines (i ∷ is) (l ∷ ls) same differ =
      let here : i.name ≡ l.name.name = cc in
      let rest : names is ≡ line_names ls = cc in
      let new : is_among l.name.name (names is) ≡ false = subst (λ n. is_among n (names is) ≡ false) here differ.0 in
      let found : bytes_eq i.name l.name.name ≡ true = (bytes_eq-Decides i.name l.name.name).1 here in
      let first : f (as_declared i (line_of i.name (l ∷ ls))) ≡ f l = rw found (by_name l.direction l.range i l.name here) in
      let others = ap (map f) (pass_line l ls is new) ∙ ports_as_lines is ls rest differ.1 in
      cc
