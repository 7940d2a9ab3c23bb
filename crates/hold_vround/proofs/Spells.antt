-- What is seen of a text's tokens, when one text follows another.
--
-- Seen: the symbols of the tokens that are read from a text, and the fault at which reading stops, if any.
-- seen at text: what is seen of a text whose first byte has the place at.
-- after ss s: the symbols ss, and then s.
-- Spells at text rest ss: at that place, and where rest follows, the text is read as the symbols ss, whole, and
--   then the rest is read.
-- Stops p rest: rest has no first byte that passes the test.
use Rattle.std.proofs.Common.{◌≡◌, ℕ, suc, ◌+◌, Bool, true, false, List, [], ◌∷◌, ◌++◌, length, take, drop, Option, None, refl, sym, ◌∙◌, ap, arith}
use Rattle.std.specs.Prelude.{◌&&◌}
use Rattle.std.specs.List.{prefix_len, take_while, list_all}
use Rattle.std.proofs.lemmas.List.{append_assoc, append-nil, length-append}
use Rattle.std.proofs.Math.Seq.{take-append_seam}
use Rattle.hold_vlex.specs.Front.{Front, Past, Read, front}
use Rattle.hold_vlex.specs.Lexed.{Lexed, lexed_by, lexed_from, lexed}
use Rattle.hold_vlex.specs.declared.token.Sort.{Sort}
use Rattle.hold_vlex.specs.declared.fault.LexFault.{LexFault}
use Rattle.hold_vlex.proofs.LexedLemmas.{lexed_from-front}
use Rattle.hold_vsyntax.specs.Symbols.{Symbol, symbols, symbol_of}

pub record Seen : Type 0 where
  pub symbols : List Symbol
  pub fault : Option LexFault

abbrev pub seen_of : Lexed → Seen
seen_of l = record { symbols = symbols l.tokens; fault = l.fault }

abbrev pub seen : ℕ → List ℕ → Seen
seen at text = seen_of (lexed_from 0 at text)

abbrev pub after : List Symbol → Seen → Seen
after ss s = record { symbols = ss ++ s.symbols; fault = s.fault }

after-after : (ss ts : List Symbol) (s : Seen) → after ss (after ts s) ≡ after (ss ++ ts) s
after-after ss ts s = ap (λ (l : List Symbol). record { symbols = l; fault = s.fault }) (sym (append_assoc ss ts s.symbols))

pub record Spells (at : ℕ) (text rest : List ℕ) (ss : List Symbol) : Type 0 where
  pub spells : seen at (text ++ rest) ≡ after ss (seen (at + length text) rest)

-- one text after another; the second stands where the first ends
pub join : (at place : ℕ) (a b rest : List ℕ) (ss ts : List Symbol) → at + length a ≡ place → Spells at a (b ++ rest) ss → Spells place b rest ts → Spells at (a ++ b) rest (ss ++ ts)
join at place a b rest ss ts e first second =
    let later : seen (at + length a) (b ++ rest) ≡ after ts (seen (place + length b) rest) = rw e second.spells in
    let end : place + length b ≡ at + length (a ++ b) = omega (arith, e, length-append a b) in
    record {
      spells =
          ap (seen at) (append_assoc a b rest)
          ∙ first.spells
          ∙ ap (after ss) later
          ∙ after-after ss ts (seen (place + length b) rest)
          ∙ ap (λ (n : ℕ). after (ss ++ ts) (seen n rest)) end;
    }

pub Spells-nil : (at : ℕ) (rest : List ℕ) → Spells at [] rest []
Spells-nil at rest = record { spells = ap (λ (n : ℕ). seen n rest) (omega arith) }

-- what is read past
pub Spells-past : (at : ℕ) (text rest : List ℕ) → front (text ++ rest) ≡ Past (length text) → drop (length text) (text ++ rest) ≡ rest → Spells at text rest []
Spells-past at text rest e d = record {
  spells =
      ap seen_of (lexed_from-front at (text ++ rest))
      ∙ ap (λ (f : Front). seen_of (lexed_by at f (λ n. lexed_from 0 (at + n) (drop n (text ++ rest))))) e
      ∙ ap (seen (at + length text)) d;
}

-- a token
pub Spells-read : (at : ℕ) (text rest : List ℕ) (sort : Sort) (name : List ℕ) (s : Symbol) → front (text ++ rest) ≡ Read sort name (length text) → drop (length text) (text ++ rest) ≡ rest → symbol_of sort name at ≡ s → Spells at text rest (s ∷ [])
Spells-read at text rest sort name s e d same = record {
  spells =
      ap seen_of (lexed_from-front at (text ++ rest))
      ∙ ap (λ (f : Front). seen_of (lexed_by at f (λ n. lexed_from 0 (at + n) (drop n (text ++ rest))))) e
      ∙ ap (λ (l : List ℕ). after (symbol_of sort name at ∷ []) (seen (at + length text) l)) d
      ∙ ap (λ (x : Symbol). after (x ∷ []) (seen (at + length text) rest)) same;
}

pub Spells-as : (at : ℕ) (text rest : List ℕ) (ss ts : List Symbol) → ss ≡ ts → Spells at text rest ss → Spells at text rest ts
Spells-as at text rest ss ts e h = record { spells = h.spells ∙ ap (λ (l : List Symbol). after l (seen (at + length text) rest)) e }

-- a whole text
pub seen-whole : (text : List ℕ) (ss : List Symbol) → Spells 0 text [] ss → (symbols (lexed text).tokens ≡ ss) × ((lexed text).fault ≡ None)
unfolding lexed_from
seen-whole text ss h =
    let e : seen 0 text ≡ after ss (seen (0 + length text) []) = ap (seen 0) (sym (append-nil text)) ∙ h.spells in
    (ap (λ (s : Seen). s.symbols) e ∙ append-nil ss, ap (λ (s : Seen). s.fault) e)

abbrev pub Stops : (ℕ → Bool) → List ℕ → Type 0
Stops p [] = Unit {0}
Stops p (b ∷ bs) = p b ≡ false

pub prefix_len-run : (p : ℕ → Bool) (xs rest : List ℕ) → list_all p xs ≡ true → Stops p rest → prefix_len p (xs ++ rest) ≡ length xs
prefix_len-run p [] [] h stop = refl
prefix_len-run p [] (b ∷ bs) h stop = rw stop refl
prefix_len-run p (x ∷ xs) rest h stop = by_first (p x) refl h (λ more. prefix_len-run p xs rest more stop)
  where
    by_first : (b : Bool) → p x ≡ b → (b && list_all p xs) ≡ true → (list_all p xs ≡ true → prefix_len p (xs ++ rest) ≡ length xs) → prefix_len p (x ∷ (xs ++ rest)) ≡ suc (length xs)
    by_first true e h run = rw e (omega (arith, run h))
    by_first false e h run = absurd cc

pub take_while-run : (p : ℕ → Bool) (xs rest : List ℕ) → list_all p xs ≡ true → Stops p rest → take_while p (xs ++ rest) ≡ xs
take_while-run p xs rest h stop = ap (λ (n : ℕ). take n (xs ++ rest)) (prefix_len-run p xs rest h stop) ∙ take-append_seam xs rest
