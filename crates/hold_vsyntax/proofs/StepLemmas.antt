-- What the first piece of the tokens is, where a statement, the end of the module or neither was read.
use Rattle.std.proofs.Common.{◌≡◌, ◌≢◌, ℕ, List, [], ◌∷◌, ◌++◌, map, length, refl, sym, ap, subst, true, false, ◌∙◌, inl, inr, append_assoc, ◌<◌, arith, length-append}
use Rattle.std.specs.Prelude.{Option, Some, None}
use Rattle.std.proofs.lemmas.List.{map-append}
use Rattle.hold_vlex.specs.Lexed.{Lexeme}
use Rattle.hold_vlex.specs.declared.token.Token.{Token}
use Rattle.hold_vsyntax.specs.declared.fault.SyntaxFault.{SyntaxFault}
use Rattle.hold_vsyntax.specs.declared.mark.Mark.TheVariants.{EndModule}
use Rattle.hold_vsyntax.specs.declared.tree.Item.{Item}
use Rattle.hold_vsyntax.specs.Symbols.{Symbol, Marked, symbol, symbols}
use Rattle.hold_vsyntax.specs.Pieces.{is_piece, pieces}
use Rattle.hold_vsyntax.specs.inner.Passing.{first_piece, rest_behind}
use Rattle.hold_vsyntax.specs.Grammar.{item_symbols, item_piece, end_piece}
use Rattle.hold_vsyntax.specs.inner.Reading.{begins, item_at}
use Rattle.hold_vsyntax.specs.inner.Tokens.{IsPopped, in_sight}
use Rattle.hold_vsyntax.specs.inner.Body.{blamed, IsStatement, Follows, Stops, HasRead}
use Rattle.hold_vsyntax.proofs.ReadingLemmas.{begins_is}
use Rattle.hold_vsyntax.proofs.PieceLaws.{cut_piece, whole_piece, length-rest_behind, item_first}
use Rattle.hold_vsyntax.proofs.ItemLaws.{item_sound, item_complete}

-- what ends in some symbol isn't empty
pub not_empty : (a : List Symbol) (s : Symbol) (b : List Symbol) → [] ≡ (a ++ s ∷ []) ++ b → ⊥
not_empty a s b h = omega (arith, ap length h, length-append (a ++ s ∷ []) b, length-append a (s ∷ []))

-- a statement that is read is the first piece
pub step_ok : (ts : List Lexeme) (i : Item) (rest : List Symbol) → item_at (symbols ts) ≡ Some (i, rest)
    → IsStatement i (pieces ts) (pieces (rest_behind ts)) × (length (rest_behind ts) < length ts)
step_ok [] i rest h = absurd (not_empty (item_symbols i) _ rest (item_sound [] i rest h))
step_ok (t ∷ ts) i rest h = (
  record { piece = first_piece (t ∷ ts); cut = cut_piece t ts; written = item_first (t ∷ ts) i rest (item_sound (symbols (t ∷ ts)) i rest h) },
  length-rest_behind t ts,
)

pub symbols_cut : (ts : List Lexeme) (a : List Symbol) → symbols (first_piece ts) ≡ a → symbols ts ≡ a ++ symbols (rest_behind ts)
symbols_cut ts a h = sym (ap symbols (whole_piece ts)) ∙ map-append symbol (first_piece ts) (rest_behind ts) ∙ ap (λ l. l ++ symbols (rest_behind ts)) h

-- where no statement is read and the module doesn't end, the first piece can't stand
pub step_bad : (ts : List Lexeme) (end : ℕ) (fault : SyntaxFault) → in_sight ts ≢ None → begins EndModule (symbols ts) ≡ false → item_at (symbols ts) ≡ None
    → fault ≡ blamed ts → Stops (pieces ts) end fault
step_bad [] end fault some no_end none is = absurd (some refl)
step_bad (t ∷ ts) end fault some no_end none is =
    subst (λ ps. Stops ps end fault) (sym (cut_piece t ts)) (inl (record {
      no_end = λ h. closes (ap (begins EndModule) (symbols_cut (t ∷ ts) end_piece h));
      no_statement = λ i h. stands i (ap item_at (symbols_cut (t ∷ ts) (item_piece i) h) ∙ item_complete i (symbols (rest_behind (t ∷ ts))));
      named = is;
    }))
  where
    closes : begins EndModule (symbols (t ∷ ts)) ≡ true → ⊥
    closes h = cc

    stands : (i : Item) → item_at (symbols (t ∷ ts)) ≡ Some (i, symbols (rest_behind (t ∷ ts))) → ⊥
    stands i h = cc

-- the word that closes the module is a piece
end_cut : (ts new : List Lexeme) (t : Option Token) → begins EndModule (symbols ts) ≡ true → IsPopped ts t new
    → (p : List Lexeme) × (pieces ts ≡ p ∷ pieces new) × (symbols p ≡ end_piece)
end_cut [] new t is popped = absurd (empty is)
  where
    empty : false ≡ true → ⊥
    empty h = cc
end_cut (x ∷ xs) new None is popped = absurd (empty popped.0)
  where
    empty : x ∷ xs ≡ [] → ⊥
    empty h = cc
end_cut (x ∷ xs) new (Some t) is popped =
    let front = begins_is EndModule (symbols (x ∷ xs)) is in
    let first : symbol x ≡ Marked EndModule = cc in
    let rest : xs ≡ new = let same = popped in cc in
    (x ∷ [], rw (ap is_piece first) (ap (λ l. (x ∷ []) ∷ pieces l) rest), ap (λ s. s ∷ []) first)

pub end_bad : (ts new : List Lexeme) (t : Option Token) (end : ℕ) (fault : SyntaxFault) → begins EndModule (symbols ts) ≡ true → IsPopped ts t new → in_sight new ≢ None
    → fault ≡ blamed new → Stops (pieces ts) end fault
end_bad ts [] t end fault is popped some named = absurd (some refl)
end_bad ts (x ∷ xs) t end fault is popped some named =
    let p = end_cut ts (x ∷ xs) t is popped in
    let follows : Follows (pieces (x ∷ xs)) fault = subst (λ ps. Follows ps fault) (sym (cut_piece x xs)) named in
    subst (λ ps. Stops ps end fault) (sym p.1) (inr (p.2, follows))

-- the statements read so far
pub one_read : (ps qs rs : List (List Lexeme)) (items more : List Item) (i : Item) → HasRead ps items qs → IsStatement i qs rs → more ≡ items ++ i ∷ []
    → HasRead ps more rs
one_read ps qs rs items more i read is same = record {
  done = read.done ++ is.piece ∷ [];
  cut = read.cut ∙ ap (λ l. read.done ++ l) is.cut ∙ sym (append_assoc read.done (is.piece ∷ []) rs);
  written = map-append symbols read.done (is.piece ∷ []) ∙ ap (λ l. l ++ symbols is.piece ∷ []) read.written ∙ ap (λ s. map item_piece items ++ s ∷ []) is.written
      ∙ sym (map-append item_piece items (i ∷ [])) ∙ ap (map item_piece) (sym same);
}
