-- The items of a group, as they are read one by one.
use Rattle.std.proofs.Common.{◌≡◌, ℕ, zero, suc, ◌+◌, ◌-◌, ◌<◌, ◌≤◌, max, List, [], ◌∷◌, length, get_or, drop, refl, sym, ap, ◌∙◌, arith}
use Rattle.std.specs.Prelude.{IsSome}
use Rattle.std.proofs.lemmas.Bool.{false≢true}
use Rattle.std.proofs.lemmas.List.{drop-drop, drop_more, drop_all, length-drop}
use Rattle.hold_sdflex.specs.declared.piece.Form.{Form}
use Rattle.hold_sdflex.specs.declared.piece.Form.TheVariants.{Open, Close, Colon, Text, Atom}
use Rattle.hold_sdflex.specs.declared.piece.Piece.{Piece}
use Rattle.hold_sdflex.specs.Items.{Token, token_by, token_of, tokens_from, items_behind, items_in, first_item, behind}
use Rattle.hold_sdflex.specs.inner.Steps.{after_item}

-- what belongs to the item that was read last is passed over
items_behind-skip : (text : List ℕ) (ps : List Piece) (skip place : ℕ) → items_behind skip (tokens_from text place ps) ≡ items_behind 0 (tokens_from text (place + skip) (drop skip ps))
items_behind-skip text [] zero place = refl
items_behind-skip text [] (suc skip) place = refl
items_behind-skip text (p ∷ ps) zero place = ap (λ n. items_behind 0 (tokens_from text n (p ∷ ps))) (omega arith)
items_behind-skip text (p ∷ ps) (suc skip) place =
    let same : place + 1 + skip ≡ place + suc skip = omega arith in
    items_behind-skip text ps skip (place + 1) ∙ ap (λ n. items_behind 0 (tokens_from text n (drop skip ps))) same

length-tokens_from : (text : List ℕ) (place : ℕ) (ps : List Piece) → length (tokens_from text place ps) ≡ length ps
length-tokens_from text place [] = refl
length-tokens_from text place (p ∷ ps) = ap suc (length-tokens_from text (place + 1) ps)

-- the tokens from the next piece on
abbrev pub left : List ℕ → List Piece → ℕ → List Token
left text ps place = tokens_from text place (drop place ps)

pub left-front : (text : List ℕ) (ps : List Piece) (place : ℕ) (p : Piece) → place < length ps → p ≡ get_or ps place p → left text ps place ≡ token_of text place p ∷ left text ps (place + 1)
left-front text ps place p within here =
    let front : drop place ps ≡ p ∷ drop (place + 1) ps = drop_more ps place p within ∙ ap (λ q. q ∷ drop (place + 1) ps) (sym here) in
    ap (tokens_from text place) front

-- where the next item is read, the others are left
left-behind_form : (form : Form) (text : List ℕ) (ps : List Piece) (place : ℕ) (p : Piece) → IsSome (first_item (items_in (token_by form text place p ∷ left text ps (place + 1)))) →
    items_in (left text ps (after_item form place)) ≡ behind (items_in (token_by form text place p ∷ left text ps (place + 1)))
unfolding items_in
left-behind_form (Open close) text ps place p some =
    let to : place + 1 + (close - place) ≡ max close place + 1 = omega arith in
    sym (items_behind-skip text (drop (place + 1) ps) (close - place) (place + 1)
    ∙ ap (λ qs. items_behind 0 (tokens_from text (place + 1 + (close - place)) qs)) (drop-drop (close - place) (place + 1) ps)
    ∙ ap (λ n. items_behind 0 (left text ps n)) to)
left-behind_form Close text ps place p some = absurd (false≢true some)
left-behind_form Colon text ps place p some = refl
left-behind_form Text text ps place p some = refl
left-behind_form Atom text ps place p some = refl

pub left-behind : (text : List ℕ) (ps : List Piece) (place : ℕ) (p : Piece) → place < length ps → p ≡ get_or ps place p → IsSome (first_item (items_in (token_of text place p ∷ left text ps (place + 1)))) →
    items_in (left text ps (after_item p.form place)) ≡ behind (items_in (left text ps place))
left-behind text ps place p within here some =
    left-behind_form p.form text ps place p some ∙ ap (λ ts. behind (items_in ts)) (sym (left-front text ps place p within here))

pub left-end : (text : List ℕ) (ps : List Piece) (place : ℕ) → length ps ≤ place → left text ps place ≡ []
left-end text ps place past = ap (tokens_from text place) (drop_all place ps past)

after_item-later : (form : Form) (place : ℕ) → place < after_item form place
after_item-later (Open close) place = omega arith
after_item-later Close place = omega arith
after_item-later Colon place = omega arith
after_item-later Text place = omega arith
after_item-later Atom place = omega arith

pub left-less : (form : Form) (text : List ℕ) (ps : List Piece) (place : ℕ) → place < length ps → length (left text ps (after_item form place)) < length (left text ps place)
left-less form text ps place within = simp (length-tokens_from, length-drop) (omega (arith, after_item-later form place))
