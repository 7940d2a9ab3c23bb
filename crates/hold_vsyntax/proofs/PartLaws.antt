-- A part, a right side and an assignment that are read are written so, and those that are written are read.
use Rattle.std.proofs.Common.{◌≡◌, ℕ, List, ◌∷◌, ◌++◌, drop, refl, sym, ap, Bool, true, false, ◌∙◌, ◌⊎◌, inl, inr, append_assoc}
use Rattle.std.specs.Prelude.{Option, Some, None}
use Rattle.std.specs.Option.{option_and_then}
use Rattle.hold_base.proofs.Bools.{cond-cases}
use Rattle.hold_base.proofs.Options.{option_and_then-Some}
use Rattle.hold_vsyntax.specs.declared.mark.Mark.TheVariants.{Colon, Equals, LeftBracket, RightBracket}
use Rattle.hold_vsyntax.specs.declared.tree.Selected.{Selected}
use Rattle.hold_vsyntax.specs.declared.tree.Selected.TheVariants.{Whole, Bit, Part as Bits}
use Rattle.hold_vsyntax.specs.declared.tree.Part.{Part}
use Rattle.hold_vsyntax.specs.declared.tree.Right.{Right}
use Rattle.hold_vsyntax.specs.declared.tree.Right.TheVariants.{Net as Side, Constant as ConstantSide}
use Rattle.hold_vsyntax.specs.declared.tree.Assignment.{Assignment}
use Rattle.hold_vsyntax.specs.declared.tree.Range.{Range}
use Rattle.hold_vsyntax.specs.Symbols.{Symbol, Marked, Named, Counted}
use Rattle.hold_vsyntax.specs.Grammar.{selected_symbols, part_symbols, right_symbols, assignment_symbols}
use Rattle.hold_vsyntax.specs.inner.Reading.{begins, after, ident_at, number_at, constant_at, right_bound_at, bits_after, index_after, selected_at, part_at, right_by, right_at, assignment_at}
use Rattle.hold_vsyntax.proofs.ReadingLemmas.{ends, begins_is, after_ok, number_ok, ident_ok, constant_ok, Spells, Shrinks, shrinks}
use Rattle.hold_vsyntax.proofs.RangeLaws.{right_bound_sound}

index_sound : (ss : List Symbol) (s : Selected) (rest : List Symbol) → index_after ss ≡ Some (s, rest) → Marked LeftBracket ∷ ss ≡ selected_symbols s ++ rest
unfolding index_after
index_sound ss s rest h =
    let left = option_and_then-Some _ (number_at ss) (s, rest) h in
    let first = number_ok ss left.0.0 left.0.1 left.1 in
    by left.0.0 left.0.1 first (cond-cases (begins RightBracket left.0.1) _ _ (Some (s, rest)) left.2)
  where
    bits : Range × List Symbol → Option (Selected × List Symbol)
    bits r = Some (Bits r.0, r.1)

    by : (n : ℕ) (u : List Symbol) → ss ≡ Counted n ∷ u
        → ((begins RightBracket u ≡ true) × (◌≡◌ {A = Option (Selected × List Symbol)} (Some (Bit n, drop 1 u)) (Some (s, rest))))
        ⊎ ((begins RightBracket u ≡ false) × (option_and_then (bits_after n) (after Colon u) ≡ Some (s, rest)))
        → Marked LeftBracket ∷ ss ≡ selected_symbols s ++ rest
    by n u first (inl e) =
        let close = begins_is RightBracket u e.0 in
        let whole : ss ≡ Counted n ∷ Marked RightBracket ∷ drop 1 u = cc in
        ap (λ l. Marked LeftBracket ∷ l) whole ∙ ends selected_symbols (Bit n) s (drop 1 u) rest e.1
    by n u first (inr e) =
        let colon = option_and_then-Some (bits_after n) (after Colon u) (s, rest) e.1 in
        let second = after_ok Colon u colon.0 colon.1 in
        let r = option_and_then-Some bits (right_bound_at n colon.0) (s, rest) colon.2 in
        let whole : ss ≡ Counted n ∷ Marked Colon ∷ colon.0 = cc in
        ap (λ l. Marked LeftBracket ∷ l) whole ∙ right_bound_sound n colon.0 r.0.0 r.0.1 r.1 ∙ ends selected_symbols (Bits r.0.0) s r.0.1 rest r.2

selected_sound : (ss : List Symbol) (s : Selected) (rest : List Symbol) → selected_at ss ≡ Some (s, rest) → ss ≡ selected_symbols s ++ rest
unfolding selected_at
selected_sound ss s rest h = by (cond-cases (begins LeftBracket ss) _ _ (Some (s, rest)) h)
  where
    by : ((begins LeftBracket ss ≡ true) × (index_after (drop 1 ss) ≡ Some (s, rest)))
        ⊎ ((begins LeftBracket ss ≡ false) × (◌≡◌ {A = Option (Selected × List Symbol)} (Some (Whole, ss)) (Some (s, rest)))) → ss ≡ selected_symbols s ++ rest
    by (inl e) = begins_is LeftBracket ss e.0 ∙ index_sound (drop 1 ss) s rest e.1
    by (inr e) = ends selected_symbols Whole s ss rest e.1

selected_complete : (s : Selected) (rest : List Symbol) → begins LeftBracket rest ≡ false → selected_at (selected_symbols s ++ rest) ≡ Some (s, rest)
unfolding selected_at index_after
selected_complete Whole rest h = rw h refl
selected_complete (Bit index) rest h = refl
selected_complete (Bits r) rest h = refl

part_sound : (ss : List Symbol) (p : Part) (rest : List Symbol) → part_at ss ≡ Some (p, rest) → ss ≡ part_symbols p ++ rest
unfolding part_at
part_sound ss p rest h =
    let net = option_and_then-Some _ (ident_at ss) (p, rest) h in
    let s = option_and_then-Some _ (selected_at net.0.1) (p, rest) net.2 in
    ident_ok ss net.0.0 net.0.1 net.1
    ∙ ap (λ l. Named net.0.0 ∷ l) (selected_sound net.0.1 s.0.0 s.0.1 s.1)
    ∙ ends part_symbols (record { net = net.0.0; selected = s.0.0 }) p s.0.1 rest s.2

part_complete : (p : Part) (rest : List Symbol) → begins LeftBracket rest ≡ false → part_at (part_symbols p ++ rest) ≡ Some (p, rest)
unfolding part_at
part_complete p rest h = rw (selected_complete p.selected rest h) refl

right_sound : (ss : List Symbol) (r : Right) (rest : List Symbol) → right_at ss ≡ Some (r, rest) → ss ≡ right_symbols r ++ rest
unfolding right_at
right_sound ss r rest h = by (constant_at ss) refl h
  where
    side : Part × List Symbol → Option (Right × List Symbol)
    side p = Some (Side p.0, p.1)

    by : (o : Option (Bool × List Symbol)) → constant_at ss ≡ o → right_by o ss ≡ Some (r, rest) → ss ≡ right_symbols r ++ rest
    by (Some b) e k = constant_ok ss b.0 b.1 e ∙ ends right_symbols (ConstantSide b.0) r b.1 rest k
    by None e k =
        let p = option_and_then-Some side (part_at ss) (r, rest) k in
        part_sound ss p.0.0 p.0.1 p.1 ∙ ends right_symbols (Side p.0.0) r p.0.1 rest p.2

right_complete : (r : Right) (rest : List Symbol) → begins LeftBracket rest ≡ false → right_at (right_symbols r ++ rest) ≡ Some (r, rest)
unfolding right_at
right_complete (ConstantSide b) rest h = refl
right_complete (Side p) rest h = rw (part_complete p rest h) refl

assignment_sound : (ss : List Symbol) (a : Assignment) (rest : List Symbol) → assignment_at ss ≡ Some (a, rest) → ss ≡ assignment_symbols a ++ rest
unfolding assignment_at
assignment_sound ss a rest h =
    let left = option_and_then-Some _ (part_at ss) (a, rest) h in
    let equals = option_and_then-Some _ (after Equals left.0.1) (a, rest) left.2 in
    let right = option_and_then-Some _ (right_at equals.0) (a, rest) equals.2 in
    let first = part_sound ss left.0.0 left.0.1 left.1 in
    let second = after_ok Equals left.0.1 equals.0 equals.1 ∙ ap (λ l. Marked Equals ∷ l) (right_sound equals.0 right.0.0 right.0.1 right.1) in
    first ∙ ap (λ l. part_symbols left.0.0 ++ l) second
    ∙ sym (append_assoc (part_symbols left.0.0) (Marked Equals ∷ right_symbols right.0.0) right.0.1)
    ∙ ends assignment_symbols (record { left = left.0.0; right = right.0.0 }) a right.0.1 rest right.2

assignment_complete : (a : Assignment) (rest : List Symbol) → begins LeftBracket rest ≡ false → assignment_at (assignment_symbols a ++ rest) ≡ Some (a, rest)
unfolding assignment_at
assignment_complete a rest h =
    ap assignment_at (append_assoc (part_symbols a.left) (Marked Equals ∷ right_symbols a.right) rest)
    ∙ rw (part_complete a.left (Marked Equals ∷ (right_symbols a.right ++ rest)) refl, right_complete a.right rest h) refl

pub assignment_laws : Spells assignment_symbols assignment_at
assignment_laws = record { sound = assignment_sound; complete = assignment_complete }

pub assignment_shrinks : Shrinks assignment_at
assignment_shrinks = shrinks assignment_symbols assignment_at assignment_laws
