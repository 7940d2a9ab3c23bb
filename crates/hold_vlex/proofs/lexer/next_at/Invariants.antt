use Rattle.std.proofs.Common.{◌≡◌, ◌≤◌, ◌-◌, length}
use Rattle.hold_vlex.specs.inner.Lexed.{lexed_at}
use Rattle.hold_vlex.proofs.lexer.next_at.Given as goal

-- what is left to be read is what was to be read at the start
abbrev pub invariant-loop-n : goal.invariant-loop-n
invariant-loop-n l = (lexed_at l.place l.text ≡ lexed_at l.fn.from l.fn.text) × (l.place ≤ length l.text)

abbrev pub decreases-loop-n : goal.decreases-loop-n
decreases-loop-n l = length l.text - l.place
