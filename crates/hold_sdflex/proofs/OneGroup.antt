-- How the pieces of a text stand that is one whole group.
use Rattle.std.proofs.Common.{◌≡◌, ℕ, zero, suc, ◌+◌, ◌-◌, ◌<◌, ◌≤◌, List, [], ◌∷◌, length, map, take, drop, refl, sym, ap, ◌∙◌, subst, inl, inr, arith}
use Rattle.std.specs.Prelude.{Option, None, Some, option_map, slice_get, Ok, Err}
use Rattle.std.specs.Option.{option_map_or}
use Rattle.std.proofs.lemmas.List.{drop-drop, drop-map, take-map}
use Rattle.std.proofs.lemmas.Option.{option_and_then_some, slice_get_within, slice_get-get_or, slice_get-map}
use Rattle.std.proofs.lemmas.Bool.{cases_lt}
use Rattle.hold_sdflex.specs.declared.piece.Form.{Form}
use Rattle.hold_sdflex.specs.declared.piece.Form.TheVariants.{Open, Close, Colon, Text, Atom}
use Rattle.hold_sdflex.specs.declared.piece.Piece.{Piece}
use Rattle.hold_sdflex.specs.Front.{Mark, opens, closes}
use Rattle.hold_sdflex.specs.Pieces.{Marked, pieces_of_text}
use Rattle.hold_sdflex.specs.Nesting.{inside, marks, paired, mark_in, depth_over}
use Rattle.hold_sdflex.specs.inner.Waiting.{shown}
use Rattle.hold_sdflex.specs.Groups.{paired_pieces, after_group, stray, group_or_fault, group_of, form_at, IsGroup, AreOneGroup, AreInOrder}
use Rattle.hold_base.proofs.Options.{option_map-None, option_map-Some}
use Rattle.hold_sdflex.proofs.Rising.{AreRising, pieces_from-rising, rising_fit, rising-in_order}
use Rattle.hold_sdflex.proofs.Partners.{inside-nested, inside-balanced, paired_shown, closing_of}

-- the marks of pieces
abbrev marks_in : List Piece → List Mark
marks_in ps = map (λ p. mark_in p.form) ps

marks_shown : (ps : List Piece) → marks (shown ps) ≡ marks_in ps
marks_shown [] = refl
marks_shown (p ∷ ps) = ap (λ ms. mark_in p.form ∷ ms) (marks_shown ps)

slice_get-drop : (ms : List Mark) (k i : ℕ) → slice_get (drop k ms) i ≡ slice_get ms (k + i)
slice_get-drop ms zero i = ap (slice_get ms) (omega arith)
slice_get-drop [] (suc k) i = refl
slice_get-drop (m ∷ ms) (suc k) i = let place : suc (k + i) ≡ suc k + i = omega arith in slice_get-drop ms k i ∙ ap (slice_get (m ∷ ms)) place

mark_at : (o : Option Piece) (form : Form) → option_map (λ p. p.form) o ≡ Some form → option_map (λ p. mark_in p.form) o ≡ Some (mark_in form)
mark_at None form is = cc
mark_at (Some p) form is = ap (option_map (λ f. mark_in f)) is

close_in : (form : Form) → mark_in form ≡ closes → form ≡ Close
close_in (Open c) is = cc
close_in Close is = refl
close_in Colon is = cc
close_in Text is = cc
close_in Atom is = cc

close_at : (o : Option Piece) → option_map (λ p. mark_in p.form) o ≡ Some closes → option_map (λ p. p.form) o ≡ Some Close
close_at None is = cc
close_at (Some p) is = ap Some (close_in p.form (cc is))

form_at_within : (ps : List Piece) (i : ℕ) (form : Form) → form_at ps i ≡ Some form → i < length ps
form_at_within ps i form is = let found = option_map-Some (λ (p : Piece). p.form) (slice_get ps i) form is in slice_get_within ps i found.0 found.1

-- paired pieces, where a later group's end is found by the marks
module _ (was : List Marked) (ps : List Piece) (is_paired : paired was 0 ≡ Some ps) where
  same_marks : marks was ≡ marks_in ps
  same_marks = ap marks (sym (paired_shown was ps 0 is_paired)) ∙ marks_shown ps

  closing_at : (i c : ℕ) → form_at ps i ≡ Some (Open c) → (n : ℕ) × (inside (drop (suc i) (marks_in ps)) 0 ≡ Some n) × (c ≡ 0 + i + 1 + n)
  closing_at i c begins = rw same_marks at (closing_of was ps 0 i c is_paired begins)

  group_at : (i c : ℕ) → form_at ps i ≡ Some (Open c) → IsGroup ps i c
  group_at i c begins =
      let closing = closing_at i c begins in
      let n = closing.0 in
      let balanced = inside-balanced (drop (suc i) (marks_in ps)) 0 n closing.1 in
      let place : suc i + n ≡ c = omega (arith, closing.2) in
      let first : suc i ≡ i + 1 = omega arith in
      let count : n ≡ c - (i + 1) = omega (arith, closing.2) in
      let ends : slice_get (marks_in ps) c ≡ Some closes = ap (slice_get (marks_in ps)) (sym place) ∙ sym (slice_get-drop (marks_in ps) (suc i) n) ∙ balanced.1 in
      let commute : take (c - (i + 1)) (drop (i + 1) (marks_in ps)) ≡ marks_in (take (c - (i + 1)) (drop (i + 1) ps)) =
      ap (take (c - (i + 1))) (drop-map (λ p. mark_in p.form) (i + 1) ps) ∙ take-map (λ p. mark_in p.form) (c - (i + 1)) (drop (i + 1) ps) in
      let between : depth_over (take (c - (i + 1)) (drop (i + 1) (marks_in ps))) 0 ≡ Some 0 =
      subst (λ k. depth_over (take (c - (i + 1)) (drop k (marks_in ps))) 0 ≡ Some 0) first (subst (λ k. depth_over (take k (drop (suc i) (marks_in ps))) 0 ≡ Some 0) count balanced.0) in
      record {
        later = omega (arith, closing.2);
        closes = close_at (slice_get ps c) (sym (slice_get-map (λ p. mark_in p.form) ps c) ∙ ends);
        balanced = subst (λ ms. depth_over ms 0 ≡ Some 0) commute between;
      }

  nested_at : (i c j d : ℕ) → form_at ps i ≡ Some (Open c) → form_at ps j ≡ Some (Open d) → i < j → j < c → d < c
  nested_at i c j d outer inner after before =
      let first = closing_at i c outer in
      let second = closing_at j d inner in
      let k = j - suc i in
      let place : suc i + k ≡ j = omega arith in
      let next : suc i + suc k ≡ suc j = omega arith in
      let begins : slice_get (drop (suc i) (marks_in ps)) k ≡ Some opens =
      slice_get-drop (marks_in ps) (suc i) k ∙ ap (slice_get (marks_in ps)) place ∙ slice_get-map (λ p. mark_in p.form) ps j ∙ mark_at (slice_get ps j) (Open d) inner in
      let rest : inside (drop (suc k) (drop (suc i) (marks_in ps))) 0 ≡ Some second.0 = ap (λ qs. inside qs 0) (drop-drop (suc k) (suc i) (marks_in ps) ∙ ap (λ m. drop m (marks_in ps)) next) ∙ second.1 in
      let within : k < first.0 = omega (arith, first.2) in
      let less = inside-nested (drop (suc i) (marks_in ps)) 0 first.0 k second.0 first.1 within begins rest in
      omega (arith, less, first.2, second.2)

no_stray : (p : Piece) (ps : List Piece) (form : Form) → p.form ≡ form → slice_get (p ∷ ps) (after_group form) ≡ None → ((c : ℕ) → form ≡ Open c → c < length (p ∷ ps)) → form ≡ Open (length (p ∷ ps) - 1)
no_stray p ps (Open c) is none within =
    let last : c < length (p ∷ ps) = within c refl in
    elim (cases_lt (c + 1) (length (p ∷ ps))) [
      | inl more ↦ absurd (contradiction more)
      | inr past ↦ ap Open (omega arith)
    ]
  where
    contradiction : c + 1 < length (p ∷ ps) → ⊥
    contradiction more = let some = slice_get-get_or (p ∷ ps) (c + 1) p more in cc
no_stray p ps Close is none within = cc
no_stray p ps Colon is none within = cc
no_stray p ps Text is none within = cc
no_stray p ps Atom is none within = cc

-- paired pieces without a stray one are one group
one_group : (was : List Marked) (p : Piece) (ps : List Piece) → paired was 0 ≡ Some (p ∷ ps) → stray (p ∷ ps) ≡ None → AreOneGroup (p ∷ ps)
one_group was p ps is none =
    record {
      whole = ap Some (no_stray p ps p.form refl (option_map-None (λ q. q.from) (slice_get (p ∷ ps) (after_group p.form)) none) (λ c begins. form_at_within (p ∷ ps) c Close (group_at was (p ∷ ps) is 0 c (ap Some begins)).closes));
      groups = group_at was (p ∷ ps) is;
      nested = nested_at was (p ∷ ps) is;
    }

text_rising : (text : List ℕ) (ps : List Marked) → pieces_of_text text ≡ Some ps → AreRising ps 0 (length text)
text_rising text ps is =
    let whole = pieces_from-rising text 0 0 (omega arith) in
    let rising : AreRising ps (0 + 0) (0 + length text) = (rw is at whole) in
    let end : 0 + length text ≡ length text = omega arith in
    rw end at rising

-- there are no more pieces than bytes
pub pieces_fit : (text : List ℕ) (ps : List Marked) → Some ps ≡ pieces_of_text text → length ps ≤ length text
pieces_fit text ps is = let fit = rising_fit ps 0 (length text) (text_rising text ps (sym is)) in omega arith

in_order : (text : List ℕ) (qs : List Piece) → paired_pieces text ≡ Some qs → AreInOrder qs (length text)
in_order text qs is = option_and_then_some (λ ps. paired ps 0) (pieces_of_text text) qs is (λ ps was found. rising-in_order qs 0 (length text) (rw (paired_shown ps qs 0 found) (text_rising text ps was)))

-- what a group's pieces are
parts_of : (end : ℕ) (o : Option (List Piece)) (ps : List Piece) → group_or_fault end o ≡ Ok ps → (p : Piece) × (rest : List Piece) × (p ∷ rest ≡ ps) × (o ≡ Some (p ∷ rest)) × (stray (p ∷ rest) ≡ None)
parts_of end None ps is = cc
parts_of end (Some []) ps is = cc
parts_of end (Some (p ∷ rest)) ps is = found (stray (p ∷ rest)) refl is
  where
    found : (o : Option ℕ) → stray (p ∷ rest) ≡ o → option_map_or (λ at. Err at) o (Ok (p ∷ rest)) ≡ Ok ps → (q : Piece) × (more : List Piece) × (q ∷ more ≡ ps) × (Some (p ∷ rest) ≡ Some (q ∷ more)) × (stray (q ∷ more) ≡ None)
    found None none same = (p, rest, cc, refl, none)
    found (Some at) some same = cc

-- The pieces of a text that is one whole group are one group, and lie in order.
pub one_group_of : (text : List ℕ) (ps : List Piece) → group_of text ≡ Ok ps → AreOneGroup ps
one_group_of text ps is =
    let parts = parts_of (length text) (paired_pieces text) ps is in
    subst AreOneGroup parts.2 (option_and_then_some (λ ps. paired ps 0) (pieces_of_text text) (parts.0 ∷ parts.1) parts.3 (λ was is found. one_group was parts.0 parts.1 found parts.4))

pub in_order_of : (text : List ℕ) (ps : List Piece) → group_of text ≡ Ok ps → AreInOrder ps (length text)
in_order_of text ps is =
    let parts = parts_of (length text) (paired_pieces text) ps is in
    subst (λ qs. AreInOrder qs (length text)) parts.2 (in_order text (parts.0 ∷ parts.1) parts.3)
