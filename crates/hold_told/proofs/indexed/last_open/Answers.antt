use Rattle.std.proofs.Common.{◌≡◌, ◌+◌, ◌++◌, ◌∷◌, [], List, ℕ, length, take, get_or, sym, ap, ◌∙◌, subst, arith}
use Rattle.std.specs.Prelude.{Some}
use Rattle.std.proofs.lemmas.List.{take_more, length-take}
use Rattle.hold_told.specs.inner.Indexed.{IsLastOpen}
use Rattle.hold_told.proofs.IndexLemmas.{open-here, open-kept}
use Rattle.hold_told.proofs.indexed.last_open.Goals as goal
use Rattle.hold_told.proofs.indexed.last_open.Goals.{then-byte-eq91, else-byte-eq91}

pub loop-at-preserved : goal.loop-at-preserved
loop-at-preserved c =
    let text = c.args.text.now in
    let at = c.loop-at.at in
    let more = take_more text at 0 c.loop-at-test.true in
    let len = length-take at text in
    let count : length (take at text) ≡ at = (let lt = c.loop-at-test.true in omega arith) in
    elim c.if-byte-eq91.branch [
      | then-byte-eq91 w ↦
          let there : take (at + 1) text ≡ take at text ++ 91 ∷ [] = more ∙ ap (λ b. take at text ++ b ∷ []) w.if-byte-eq91.true in
          let last : c.if-byte-eq91.last ≡ Some (length (take at text)) = w.last-is ∙ ap (λ n. Some n) (sym count) in
          subst (λ (l : List ℕ). IsLastOpen l c.if-byte-eq91.last) (sym there) (subst (IsLastOpen (take at text ++ 91 ∷ [])) (sym last) (open-here (take at text)))
      | else-byte-eq91 w ↦
          subst (λ (l : List ℕ). IsLastOpen l c.if-byte-eq91.last) (sym more)
          (subst (IsLastOpen (take at text ++ get_or text at 0 ∷ [])) (sym w.last-is) (open-kept (take at text) (get_or text at 0) c.loop-at.last w.if-byte-eq91.false c.loop-at.invariant))
    ]
