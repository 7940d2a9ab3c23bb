use Rattle.hold_words.proofs.Cases.{same_upper}
use Rattle.hold_words.proofs.table.is_same_in_any_case.Goals as goal

pub returns : goal.returns
returns c = same_upper _ _ _ c.eq_ignore_ascii_case.ensures.test
