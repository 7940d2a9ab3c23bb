-- What is known of the symbols once the token in sight is known, or read.
use Rattle.std.proofs.Common.{◌≡◌, List, [], ◌∷◌, refl, drop}
use Rattle.std.specs.Prelude.{Option, Some, None}
use Rattle.hold_vlex.specs.Lexed.{Lexeme}
use Rattle.hold_vlex.specs.declared.token.Token.{Token}
use Rattle.hold_vsyntax.specs.Symbols.{Symbol, symbol, symbols}
use Rattle.hold_vsyntax.specs.inner.Tokens.{IsPopped, in_sight}

-- the symbol in sight is the first
pub symbols_popped : (old : List Lexeme) (t : Option Token) (new : List Lexeme) (s : Symbol)
    → in_sight old ≡ Some s → IsPopped old t new → symbols old ≡ s ∷ symbols new
symbols_popped [] t new s seen popped = cc
symbols_popped (x ∷ xs) None new s seen popped = let h = popped.0 in cc
symbols_popped (x ∷ xs) (Some t) new s seen popped =
    let same : xs ≡ new = cc in
    let first : symbol x ≡ s = cc in
    cc

-- where none is in sight there is none
pub symbols_end : (old : List Lexeme) → in_sight old ≡ None → symbols old ≡ []
symbols_end [] seen = refl
symbols_end (x ∷ xs) seen = cc

-- the symbol in sight is the first, also where it isn't read
pub symbols_seen : (old : List Lexeme) (s : Symbol) → in_sight old ≡ Some s → symbols old ≡ s ∷ drop 1 (symbols old)
symbols_seen [] s seen = cc
symbols_seen (x ∷ xs) s seen = let first : symbol x ≡ s = cc in cc
