use Rattle.hold_certtext.proofs.WordLemmas.{is_nil-left}
use Rattle.hold_certtext.proofs.words.Words.is_done.Goals as goal

pub returns : goal.returns
returns c = is_nil-left c.args.self.more c.args.self.text.now
