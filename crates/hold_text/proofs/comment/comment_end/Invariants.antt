use Rattle.std.proofs.Common.{◌≡◌, drop}
use Rattle.hold_text.specs.Blanks.{comment_end}
use Rattle.hold_text.proofs.comment.comment_end.Given as goal

-- the text that is left ends the comment where the whole text does
abbrev pub invariant-loop-i : goal.invariant-loop-i
invariant-loop-i l = comment_end l.i (drop l.i l.text) ≡ comment_end 2 (drop 2 l.text)
