use Rattle.std.proofs.Common.{◌+◌, get_or, drop, sym, ◌∙◌, arith}
use Rattle.std.proofs.lemmas.List.{take_rest, drop_more}
use Rattle.hold_sdflex.specs.inner.Waiting.{shown_front, shown}
use Rattle.hold_sdflex.proofs.Cutting.{front_missing, front_found}
use Rattle.hold_sdflex.proofs.cut.pieces_of_text.Goals as goal

-- what stands at the place has no end
pub returns-in_default : goal.returns-in_default
returns-in_default c =
    let text = c.args.text.now in
    let at = c.loop-at.at in
    let front_is = c.in_default.ensures.value (get_or text at 0) (drop (at + 1) text) (rw take_rest (drop_more text at 0 (omega arith))) in
    sym (front_missing text at 0 (omega arith) (shown c.loop-at.pieces.items) (sym front_is)) ∙ c.loop-at.invariant.found

-- what stands at the place joins the pieces that are found
pub loop-at-preserved : goal.loop-at-preserved
loop-at-preserved c =
    let text = c.args.text.now in
    let at = c.loop-at.at in
    let front_is = c.in-Some.ensures.value (get_or text at 0) (drop (at + 1) text) (rw take_rest (drop_more text at 0 (omega arith))) in
    record {
      within = omega (arith, c.in-Some.ensures.within);
      found =
          rw c.in_ok-push_front.ensures
          (sym (front_found text at 0 (omega arith) (shown c.loop-at.pieces.items) (shown_front c.in-Some.front) (sym front_is) c.in-Some.ensures.not_empty) ∙ c.loop-at.invariant.found);
    }
