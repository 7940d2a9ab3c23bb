-- A range that is read is written so, and one that is written is read.
use Rattle.std.proofs.Common.{◌≡◌, ℕ, List, ◌∷◌, ◌++◌, drop, refl, ap, true, false, ◌∙◌, ◌⊎◌, inl, inr}
use Rattle.std.specs.Prelude.{Option, Some, None}
use Rattle.std.specs.Option.{option_and_then}
use Rattle.hold_base.proofs.Bools.{cond-cases}
use Rattle.hold_base.proofs.Options.{option_and_then-Some}
use Rattle.hold_vsyntax.specs.declared.mark.Mark.TheVariants.{Colon, LeftBracket, RightBracket}
use Rattle.hold_vsyntax.specs.declared.tree.Range.{Range}
use Rattle.hold_vsyntax.specs.Symbols.{Symbol, Marked, Counted}
use Rattle.hold_vsyntax.specs.Grammar.{bounds_symbols, range_symbols}
use Rattle.hold_vsyntax.specs.inner.Reading.{begins, after, number_at, right_bound_at, bounds_after, range_at}
use Rattle.hold_vsyntax.proofs.ReadingLemmas.{ends, begins_is, after_ok, number_ok}

pub right_bound_sound : (left : ℕ) (ss : List Symbol) (r : Range) (rest : List Symbol) → right_bound_at left ss ≡ Some (r, rest)
    → Marked LeftBracket ∷ Counted left ∷ Marked Colon ∷ ss ≡ bounds_symbols r ++ rest
right_bound_sound left ss r rest h =
    let right = option_and_then-Some _ (number_at ss) (r, rest) h in
    let close = option_and_then-Some _ (after RightBracket right.0.1) (r, rest) right.2 in
    let first = number_ok ss right.0.0 right.0.1 right.1 in
    let second = after_ok RightBracket right.0.1 close.0 close.1 in
    let whole : ss ≡ Counted right.0.0 ∷ Marked RightBracket ∷ close.0 = cc in
    ap (λ l. Marked LeftBracket ∷ Counted left ∷ Marked Colon ∷ l) whole ∙ ends bounds_symbols (record { left = left; right = right.0.0 }) r close.0 rest close.2

pub bounds_sound : (ss : List Symbol) (r : Range) (rest : List Symbol) → bounds_after ss ≡ Some (r, rest) → Marked LeftBracket ∷ ss ≡ bounds_symbols r ++ rest
unfolding bounds_after
bounds_sound ss r rest h =
    let left = option_and_then-Some _ (number_at ss) (r, rest) h in
    let colon = option_and_then-Some _ (after Colon left.0.1) (r, rest) left.2 in
    let first = number_ok ss left.0.0 left.0.1 left.1 in
    let second = after_ok Colon left.0.1 colon.0 colon.1 in
    let whole : ss ≡ Counted left.0.0 ∷ Marked Colon ∷ colon.0 = cc in
    ap (λ l. Marked LeftBracket ∷ l) whole ∙ right_bound_sound left.0.0 colon.0 r rest colon.2

pub range_sound : (ss : List Symbol) (o : Option Range) (rest : List Symbol) → range_at ss ≡ Some (o, rest) → ss ≡ range_symbols o ++ rest
unfolding range_at
range_sound ss o rest h = by (cond-cases (begins LeftBracket ss) _ _ (Some (o, rest)) h)
  where
    some : Range × List Symbol → Option (Option Range × List Symbol)
    some r = Some (Some r.0, r.1)

    by : ((begins LeftBracket ss ≡ true) × (option_and_then some (bounds_after (drop 1 ss)) ≡ Some (o, rest)))
        ⊎ ((begins LeftBracket ss ≡ false) × (◌≡◌ {A = Option (Option Range × List Symbol)} (Some (None, ss)) (Some (o, rest)))) → ss ≡ range_symbols o ++ rest
    by (inl e) =
        let r = option_and_then-Some some (bounds_after (drop 1 ss)) (o, rest) e.1 in
        begins_is LeftBracket ss e.0 ∙ bounds_sound (drop 1 ss) r.0.0 r.0.1 r.1 ∙ ends range_symbols (Some r.0.0) o r.0.1 rest r.2
    by (inr e) = ends range_symbols None o ss rest e.1

pub range_complete : (o : Option Range) (rest : List Symbol) → begins LeftBracket rest ≡ false → range_at (range_symbols o ++ rest) ≡ Some (o, rest)
unfolding range_at bounds_after
range_complete None rest h = rw h refl
range_complete (Some r) rest h = refl
