use Rattle.std.proofs.Common.{◌≡◌, ◌<◌, ◌≤◌, length, get_or, sym, ap, ◌∙◌, subst, arith}
use Rattle.std.specs.Prelude.{is_some}
use Rattle.std.proofs.lemmas.Bool.Decides.{nat_tests}
use Rattle.hold_sdflex.specs.Items.{items_in, first_item, behind}
use Rattle.hold_sdflex.specs.inner.Steps.{after_item}
use Rattle.hold_sdflex.proofs.Reading.{left, left-behind, left-end, left-less}
use Rattle.hold_sdflex.proofs.items.Items.next.Goals as goal

pub returns-in_default-clause-item : goal.returns-in_default-clause-item
unfolding items_in
returns-in_default-clause-item c =
    let s = c.self.inside in
    let past : length s.pieces.now ≤ s.place = grind (arith, nat_tests, c.in_default.ensures.lookup) in
    let none = left-end s.text.now s.pieces.now s.place past in
    sym (ap (λ ts. first_item (items_in ts)) (sym c.self.view_is ∙ none))

pub returns-in_default-clause-rest : goal.returns-in_default-clause-rest
unfolding items_in
returns-in_default-clause-rest c =
    let s = c.self.inside in
    let past : length s.pieces.now ≤ s.place = grind (arith, nat_tests, c.in_default.ensures.lookup) in
    let none = sym c.self.view_is ∙ left-end s.text.now s.pieces.now s.place past in
    ap items_in none ∙ sym (ap (λ ts. behind (items_in ts)) none)

pub returns-clause-rest : goal.returns-clause-rest
returns-clause-rest c =
    let s = c.self.inside in
    let p = c.in-Some.piece.now in
    let within : s.place < length s.pieces.now = grind (arith, nat_tests, c.in-Some.ensures.lookup) in
    let here : p ≡ get_or s.pieces.now s.place p = c.in-Some.ensures.lookup.1 in
    ap (λ n. items_in (left s.text.now s.pieces.now n)) c.after_item-self-inside.ensures
    ∙ left-behind s.text.now s.pieces.now s.place p within here (ap (λ o. is_some o) (sym c.in-Some-item_of.ensures)) ∙ ap (λ ts. behind (items_in ts)) c.self.view_is

pub returns-clause-less : goal.returns-clause-less
returns-clause-less c = λ some.
    let s = c.self.inside in
    let within : s.place < length s.pieces.now = grind (arith, nat_tests, c.in-Some.ensures.lookup) in
    subst (λ n. length (left s.text.now s.pieces.now n) < length c.args.self.now) (sym c.after_item-self-inside.ensures)
    (subst (λ ts. length (left s.text.now s.pieces.now (after_item c.in-Some.piece.now.form s.place)) < length ts) c.self.view_is
    (left-less c.in-Some.piece.now.form s.text.now s.pieces.now s.place within))
