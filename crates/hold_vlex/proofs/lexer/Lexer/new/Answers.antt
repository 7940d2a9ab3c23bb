use Rattle.hold_vlex.proofs.SliceLemmas.{lexed-AreSlices, lexed-spelled}
use Rattle.hold_vlex.proofs.lexer.Lexer.new.Goals as goal

pub returns-clause-slices : goal.returns-clause-slices
returns-clause-slices c = lexed-AreSlices c.args.text.now

pub returns-clause-spelled : goal.returns-clause-spelled
returns-clause-spelled c = lexed-spelled c.args.text.now
