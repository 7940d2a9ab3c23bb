-- Pieces paired from the last one on, as one piece more comes to stand before the list.
use Rattle.std.proofs.Common.{◌≡◌, ℕ, zero, suc, ◌+◌, ◌<◌, ◌≤◌, List, [], ◌∷◌, length, get_or, set, take, drop, refl, sym, ap, ◌∙◌, add-zero, arith}
use Rattle.std.specs.Prelude.{Option, None, Some, option_map, option_and_then}
use Rattle.std.proofs.lemmas.List.{at_drop_more, length-set, take-set, take-take, drop-set, get_or-take}
use Rattle.hold_sdflex.specs.declared.piece.Form.{Form}
use Rattle.hold_sdflex.specs.declared.piece.Form.TheVariants.{Open}
use Rattle.hold_sdflex.specs.declared.piece.Piece.{Piece}
use Rattle.hold_sdflex.specs.Front.{Mark}
use Rattle.hold_sdflex.specs.Pieces.{Marked}
use Rattle.hold_sdflex.specs.Nesting.{form_of, marks, paired, mark_in}
use Rattle.hold_sdflex.specs.inner.Waiting.{shown_piece, shown, AreWaiting}

-- the marks of pieces, and these paired
abbrev pub seen : List Piece → List Mark
seen ps = marks (shown ps)

abbrev pub paired_shown : List Piece → ℕ → Option (List Piece)
paired_shown ps place = paired (shown ps) place

-- one piece more is paired
paired_front : (ps rest : List Piece) (i : ℕ) (d p : Piece) (form : Form) → i < length ps → get_or ps i d ≡ p → Some form ≡ form_of (mark_in p.form) i (seen (drop (i + 1) ps)) → paired_shown (drop (i + 1) ps) (i + 1) ≡ Some rest → paired_shown (drop i ps) i ≡ Some (record p { form = form } ∷ rest)
paired_front ps rest i d p form within here is found = rw (at_drop_more (λ qs. paired_shown qs i) ps i d within, here, ← is, found) refl

-- a piece without a partner, and those after it
unpaired_front : (ps : List Piece) (i : ℕ) (d p : Piece) → i < length ps → get_or ps i d ≡ p → None ≡ form_of (mark_in p.form) i (seen (drop (i + 1) ps)) → paired_shown (drop i ps) i ≡ None
unpaired_front ps i d p within here is = rw (at_drop_more (λ qs. paired_shown qs i) ps i d within, here, ← is) refl

-- where the end of a list has no pairs, the list has none
no_rest : (p : Marked) (form : Option Form) → option_and_then {U = List Piece} (λ f. option_map (λ rest. record { form = f; from = p.from; to = p.to } ∷ rest) None) form ≡ None
no_rest p None = refl
no_rest p (Some form) = refl

unpaired_end : (ps : List Piece) (i at : ℕ) → paired_shown (drop i ps) (at + i) ≡ None → paired_shown ps at ≡ None
unpaired_end ps zero at none = ap (paired_shown ps) (sym (add-zero at)) ∙ none
unpaired_end [] (suc i) at none = none
unpaired_end (p ∷ ps) (suc i) at none =
    let place : at + suc i ≡ at + 1 + i = omega arith in
    let rest : paired_shown ps (at + 1) ≡ None = unpaired_end ps i (at + 1) (rw place at none) in
    rw rest (no_rest (shown_piece p) (form_of (mark_in p.form) at (seen ps)))

-- of a list the pieces from this place on are paired in another, and those before it stand there as they are
pub record ArePairedFrom (all now : List Piece) (closings : List ℕ) (place : ℕ) : Type 0 where
  pub within : place ≤ length all
  pub length_stays : length now ≡ length all
  pub before : take place now ≡ take place all
  pub after : paired_shown (drop place all) place ≡ Some (drop place now)
  pub waiting : AreWaiting closings (seen (drop place all)) place

module _ (all now : List Piece) (closings : List ℕ) (i : ℕ) (d : Piece) (from : ArePairedFrom all now closings (i + 1)) where
  same_here : get_or now i d ≡ get_or all i d
  same_here = sym (get_or-take (i + 1) now i d (omega arith)) ∙ ap (λ ps. get_or ps i d) from.before ∙ get_or-take (i + 1) all i d (omega arith)

  pub paired_one : (form : Form) (left : List ℕ) → Some form ≡ form_of (mark_in (get_or now i d).form) i (seen (drop (i + 1) all)) → AreWaiting left (mark_in (get_or now i d).form ∷ seen (drop (i + 1) all)) i → ArePairedFrom all (set now i (record (get_or now i d) { form = form })) left i
  paired_one form left is waits =
      let in_all : i < length all = omega (arith, from.within) in
      let in_now : i < length now = omega (arith, from.length_stays) in
      record {
        within = omega arith;
        length_stays = length-set now i _ ∙ from.length_stays;
        before = take-set now i _ ∙ sym (take-take i (i + 1) now (omega arith)) ∙ ap (take i) from.before ∙ take-take i (i + 1) all (omega arith);
        after = paired_front all (drop (i + 1) now) i d (get_or now i d) form in_all (sym same_here) is from.after ∙ ap Some (sym (drop-set now i _ in_now));
        waiting = rw (at_drop_more seen all i d in_all, ← same_here) waits;
      }

  pub none_paired : None ≡ form_of (mark_in (get_or now i d).form) i (seen (drop (i + 1) all)) → paired_shown all 0 ≡ None
  none_paired is =
      let in_all : i < length all = omega (arith, from.within) in
      let zero_add : 0 + i ≡ i = omega arith in
      unpaired_end all i 0 (rw zero_add (unpaired_front all i d (get_or now i d) in_all (sym same_here) is))

-- what a read past the end of the pieces gives
abbrev pub nowhere : Piece
nowhere = record { form = Open 0; from = 0; to = 0 }
