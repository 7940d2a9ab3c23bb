-- Backslashes taken away, kept while a loop goes over an atom.
use Rattle.std.proofs.Common.{◌≡◌, ℕ, suc, ◌+◌, ◌<◌, ◌≤◌, Bool, true, false, List, [], ◌∷◌, ◌++◌, length, get_or, drop, refl, sym, ap, add-zero, append_assoc, append-nil, arith}
use Rattle.std.specs.Prelude.{Option, None, Some, option_map, if◌then◌else◌, ◌==◌, ◌||◌}
use Rattle.std.specs.Option.{option_or}
use Rattle.std.specs.List.{list_any}
use Rattle.std.proofs.lemmas.List.{at_drop_more, at_drop_all}
use Rattle.hold_text.specs.Blanks.{backslash}
use Rattle.hold_sdflex.specs.Backslashes.{plain_behind, plain, last_bare_behind}
use Rattle.hold_sdflex.proofs.Counting.{shift, shift-suc}

-- without a backslash nothing is taken away
pub plain_none : (bytes : List ℕ) → list_any (λ b. b == backslash) bytes ≡ false → plain bytes ≡ bytes
plain_none [] none = refl
plain_none (b ∷ bs) none = by_first (plain_none bs) (b == backslash) none
  where
    by_first : (list_any (λ c. c == backslash) bs ≡ false → plain bs ≡ bs) → (t : Bool) → t || list_any (λ c. c == backslash) bs ≡ false → (if t then plain_behind true bs else b ∷ plain_behind false bs) ≡ b ∷ bs
    by_first rest true e = cc
    by_first rest false e = ap (λ bytes. b ∷ bytes) (rest e)

-- one byte more is read
module _ (bytes : List ℕ) (i d : ℕ) (within : i < length bytes) where
  pub plain_takes : (out : List ℕ) → (get_or bytes i d == backslash) ≡ true → out ++ plain_behind false (drop i bytes) ≡ out ++ plain_behind true (drop (i + 1) bytes)
  plain_takes out is = rw (at_drop_more (plain_behind false) bytes i d within, is) refl

  pub plain_taken : (out : List ℕ) → out ++ plain_behind true (drop i bytes) ≡ (out ++ get_or bytes i d ∷ []) ++ plain_behind false (drop (i + 1) bytes)
  plain_taken out = rw (at_drop_more (plain_behind true) bytes i d within) (sym (append_assoc out (get_or bytes i d ∷ []) (plain_behind false (drop (i + 1) bytes))))

  pub plain_keeps : (out : List ℕ) → (get_or bytes i d == backslash) ≡ false → out ++ plain_behind false (drop i bytes) ≡ (out ++ get_or bytes i d ∷ []) ++ plain_behind false (drop (i + 1) bytes)
  plain_keeps out is = rw (at_drop_more (plain_behind false) bytes i d within, is) (sym (append_assoc out (get_or bytes i d ∷ []) (plain_behind false (drop (i + 1) bytes))))

-- the last of what is left, counted on from the place that is reached, or the last that was found before
abbrev pub latest : ℕ → Option ℕ → Option ℕ → Option ℕ
latest i o last = option_or (shift i o) last

latest-found : (i : ℕ) (o last : Option ℕ) → latest i (option_or (option_map suc o) (Some 0)) last ≡ latest (i + 1) o (Some i)
latest-found i None last = ap Some (add-zero i)
latest-found i (Some n) last = ap Some (omega arith)

latest-other : (i : ℕ) (o last : Option ℕ) → latest i (option_or (option_map suc o) None) last ≡ latest (i + 1) o last
latest-other i None last = refl
latest-other i (Some n) last = ap Some (omega arith)

module _ (sign : ℕ) (bytes : List ℕ) (i d : ℕ) (last : Option ℕ) (within : i < length bytes) where
  pub bare_taken : latest i (last_bare_behind sign true (drop i bytes)) last ≡ latest (i + 1) (last_bare_behind sign false (drop (i + 1) bytes)) last
  bare_taken = rw (at_drop_more (last_bare_behind sign true) bytes i d within) (ap (λ o. option_or o last) (shift-suc i _))

  pub bare_takes : (get_or bytes i d == backslash) ≡ true → latest i (last_bare_behind sign false (drop i bytes)) last ≡ latest (i + 1) (last_bare_behind sign true (drop (i + 1) bytes)) last
  bare_takes is = rw (at_drop_more (last_bare_behind sign false) bytes i d within, is) (ap (λ o. option_or o last) (shift-suc i _))

  pub bare_found : (get_or bytes i d == backslash) ≡ false → (get_or bytes i d == sign) ≡ true → latest i (last_bare_behind sign false (drop i bytes)) last ≡ latest (i + 1) (last_bare_behind sign false (drop (i + 1) bytes)) (Some i)
  bare_found other is = rw (at_drop_more (last_bare_behind sign false) bytes i d within, other, is) (latest-found i (last_bare_behind sign false (drop (i + 1) bytes)) last)

  pub bare_other : (get_or bytes i d == backslash) ≡ false → (get_or bytes i d == sign) ≡ false → latest i (last_bare_behind sign false (drop i bytes)) last ≡ latest (i + 1) (last_bare_behind sign false (drop (i + 1) bytes)) last
  bare_other other not_sign = rw (at_drop_more (last_bare_behind sign false) bytes i d within, other, not_sign) (latest-other i (last_bare_behind sign false (drop (i + 1) bytes)) last)

pub bare_end : (sign : ℕ) (bytes : List ℕ) (taken : Bool) (i : ℕ) (last : Option ℕ) → length bytes ≤ i → latest i (last_bare_behind sign taken (drop i bytes)) last ≡ last
bare_end sign bytes taken i last past = rw (at_drop_all (last_bare_behind sign taken) bytes i past) refl

pub plain_end : (bytes out : List ℕ) (taken : Bool) (i : ℕ) → length bytes ≤ i → out ++ plain_behind taken (drop i bytes) ≡ out
plain_end bytes out taken i past = rw (at_drop_all (plain_behind taken) bytes i past) (append-nil out)

pub ruleset plain_steps = (plain_takes, plain_taken, plain_keeps, plain_end)

pub ruleset bare_steps = (bare_taken, bare_takes, bare_found, bare_other, bare_end)
