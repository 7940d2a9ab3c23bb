-- Counts of bytes, kept while a loop goes over a text: what is left of the text, counted on from the place
-- that is reached, gives what the whole text does.
use Rattle.std.proofs.Common.{◌≡◌, ℕ, suc, ◌+◌, ◌<◌, ◌≤◌, true, false, List, [], ◌∷◌, length, get_or, drop, refl, sym, ap, ◌∙◌, add-zero, arith}
use Rattle.std.specs.Prelude.{Option, None, Some, option_map, if◌then◌else◌, ◌==◌}
use Rattle.std.proofs.lemmas.List.{at_drop_more, at_drop_all}
use Rattle.hold_text.specs.Blanks.{quote, backslash}
use Rattle.hold_sdflex.specs.Front.{Front, atom, opening, closing, colon_sign, ends_atom, atom_length, mark_of, piece_length}
use Rattle.hold_sdflex.specs.inner.Waiting.{atom_left}

-- the number counted on from k
abbrev pub shift : ℕ → Option ℕ → Option ℕ
shift k o = option_map (λ n. k + n) o

pub shift-suc : (k : ℕ) (o : Option ℕ) → shift k (option_map suc o) ≡ shift (k + 1) o
shift-suc k None = refl
shift-suc k (Some n) = ap Some (omega arith)

-- one byte more of an atom
twice : (o : Option ℕ) → option_map (λ n. n + 2) o ≡ option_map suc (option_map suc o)
twice None = refl
twice (Some n) = ap Some (omega arith)

pub atom_more : (b : ℕ) (bytes : List ℕ) → ends_atom b ≡ false → atom_length (b ∷ bytes) ≡ option_map suc (atom_left (b == backslash) bytes)
atom_more b [] goes_on = rw goes_on (elim (b == backslash) as (λ t. (if t then None else Some 1) ≡ option_map suc (atom_left t [])) [
  | true ↦ refl
  | false ↦ refl
])
atom_more b (c ∷ bytes) goes_on = rw goes_on (elim (b == backslash) as (λ t. (if t then option_map (λ n. n + 2) (atom_length bytes) else option_map suc (atom_length (c ∷ bytes))) ≡ option_map suc (atom_left t (c ∷ bytes))) [
  | true ↦ twice (atom_length bytes)
  | false ↦ refl
])

atom_done : (b : ℕ) (bytes : List ℕ) → ends_atom b ≡ true → atom_length (b ∷ bytes) ≡ Some 0
atom_done b [] ended = rw ended refl
atom_done b (c ∷ bytes) ended = rw ended refl

module _ (bytes : List ℕ) (i d : ℕ) (within : i < length bytes) where
  pub atom_takes : shift i (atom_left true (drop i bytes)) ≡ shift (i + 1) (atom_left false (drop (i + 1) bytes))
  atom_takes = rw (at_drop_more (atom_left true) bytes i d within) (shift-suc i _)

  pub atom_ended : ends_atom (get_or bytes i d) ≡ true → shift i (atom_left false (drop i bytes)) ≡ Some i
  atom_ended ended = rw (at_drop_more (atom_left false) bytes i d within, atom_done (get_or bytes i d) (drop (i + 1) bytes) ended) (ap Some (add-zero i))

  pub atom_goes_on : ends_atom (get_or bytes i d) ≡ false → shift i (atom_left false (drop i bytes)) ≡ shift (i + 1) (atom_left (get_or bytes i d == backslash) (drop (i + 1) bytes))
  atom_goes_on goes_on = rw (at_drop_more (atom_left false) bytes i d within, atom_more (get_or bytes i d) (drop (i + 1) bytes) goes_on) (shift-suc i _)

module _ (bytes : List ℕ) (i : ℕ) (past : length bytes ≤ i) where
  pub atom_whole : shift i (atom_left false (drop i bytes)) ≡ Some i
  atom_whole = rw (at_drop_all (atom_left false) bytes i past) (ap Some (add-zero i))

  pub atom_unended : shift i (atom_left true (drop i bytes)) ≡ None
  atom_unended = rw (at_drop_all (atom_left true) bytes i past) refl

-- an atom's front, of which the first byte is no end of one
pub atom_front : (b : ℕ) (bytes : List ℕ) → ends_atom b ≡ false → option_map {U = Front} (λ n. record { mark = Some atom; len = n + 1 }) (atom_left (b == backslash) bytes) ≡ option_map (λ n. record { mark = Some atom; len = n }) (atom_length (b ∷ bytes))
atom_front b bytes goes_on = longer (atom_left (b == backslash) bytes) ∙ ap (option_map (λ n. record { mark = Some atom; len = n })) (sym (atom_more b bytes goes_on))
  where
    longer : (o : Option ℕ) → option_map {U = Front} (λ n. record { mark = Some atom; len = n + 1 }) o ≡ option_map (λ n. record { mark = Some atom; len = n }) (option_map suc o)
    longer None = refl
    longer (Some n) = let next : n + 1 ≡ suc n = omega arith in ap (λ len. Some (record { mark = Some atom; len = len })) next

-- and that of a piece whose first byte is no other piece's
pub piece_atom : (o : Option Front) (b : ℕ) (rest : List ℕ) → (b == opening) ≡ false → (b == closing) ≡ false → (b == colon_sign) ≡ false → (b == quote) ≡ false →
    o ≡ option_map (λ n. record { mark = Some atom; len = n }) (atom_length (b ∷ rest)) → o ≡ option_map (λ n. record { mark = Some (mark_of b); len = n }) (piece_length (mark_of b) (b ∷ rest))
piece_atom o b rest opened closed divided quoted is = rw (opened, closed, divided, quoted) is

-- what a loop over an atom needs
pub ruleset atom_steps = (atom_takes, atom_ended, atom_goes_on, atom_whole, atom_unended)
