-- The pieces of a text, kept while a loop goes over it: those that are found, and then those of what is left,
-- are the whole text's.
use Rattle.std.proofs.Common.{◌≡◌, ℕ, zero, suc, ◌+◌, ◌-◌, ◌<◌, List, [], ◌∷◌, ◌++◌, length, get_or, drop, refl, sym, ap, ◌∙◌, add-zero, append_assoc, arith}
use Rattle.std.specs.Prelude.{Option, None, Some, option_map}
use Rattle.std.proofs.lemmas.List.{at_drop_more, drop-drop}
use Rattle.hold_sdflex.specs.Front.{Front, front_of}
use Rattle.hold_sdflex.specs.Pieces.{Marked, pieces_of, pieces_from}

-- these pieces, and then those
abbrev pub before : List Marked → Option (List Marked) → Option (List Marked)
before front None = None
before front (Some rest) = Some (front ++ rest)

before-map : (front more : List Marked) (o : Option (List Marked)) → before front (option_map (λ ps. more ++ ps) o) ≡ before (front ++ more) o
before-map front more None = refl
before-map front more (Some rest) = ap Some (sym (append_assoc front more rest))

-- what is passed over
pieces_from-skip : (bytes : List ℕ) (skip at : ℕ) → pieces_from bytes skip at ≡ pieces_from (drop skip bytes) 0 (at + skip)
pieces_from-skip [] zero at = refl
pieces_from-skip [] (suc skip) at = refl
pieces_from-skip (b ∷ bytes) zero at = ap (pieces_from (b ∷ bytes) 0) (sym (add-zero at))
pieces_from-skip (b ∷ bytes) (suc skip) at =
    let same : at + 1 + skip ≡ at + suc skip = omega arith in
    pieces_from-skip bytes skip (at + 1) ∙ ap (pieces_from (drop skip bytes) 0) same

module _ (text : List ℕ) (at d : ℕ) (within : at < length text) where
  pub front_missing : (found : List Marked) → front_of (get_or text at d) (drop (at + 1) text) ≡ None → before found (pieces_from (drop at text) 0 at) ≡ None
  front_missing found missing = rw (at_drop_more (λ bs. pieces_from bs 0 at) text at d within, missing) refl

  pub front_found : (found : List Marked) (front : Front) → front_of (get_or text at d) (drop (at + 1) text) ≡ Some front → 0 < front.len → before found (pieces_from (drop at text) 0 at) ≡ before (found ++ pieces_of front.mark at (at + front.len)) (pieces_from (drop (at + front.len) text) 0 (at + front.len))
  front_found found front is not_empty =
      let place : at + 1 + (front.len - 1) ≡ at + front.len = omega arith in
      let rest : pieces_from (drop (at + 1) text) (front.len - 1) (at + 1) ≡ pieces_from (drop (at + front.len) text) 0 (at + front.len) =
      pieces_from-skip (drop (at + 1) text) (front.len - 1) (at + 1) ∙ rw (drop-drop (front.len - 1) (at + 1) text, place) refl in
      rw (at_drop_more (λ bs. pieces_from bs 0 at) text at d within, is, rest) (before-map found (pieces_of front.mark at (at + front.len)) _)
