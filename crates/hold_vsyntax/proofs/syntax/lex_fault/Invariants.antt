use Rattle.std.proofs.Common.{◌≡◌, length}
use Rattle.hold_vlex.specs.Lexed.{lexed}
use Rattle.hold_vsyntax.proofs.syntax.lex_fault.Given as goal

abbrev pub invariant-loop-fault : goal.invariant-loop-fault
invariant-loop-fault l = l.lexer.fault ≡ (lexed l.text).fault

abbrev pub decreases-loop-fault : goal.decreases-loop-fault
decreases-loop-fault l = length l.lexer.tokens
