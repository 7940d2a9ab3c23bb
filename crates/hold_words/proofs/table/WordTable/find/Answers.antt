use Rattle.hold_words.proofs.Places.{found_is_first, none_is_nowhere}
use Rattle.hold_words.proofs.table.WordTable.find.Goals as goal

pub returns-clause-found : goal.returns-clause-found
returns-clause-found g c = found_is_first _ _ _ c.place_of.ensures.place

pub returns-clause-nowhere : goal.returns-clause-nowhere
returns-clause-nowhere g c = none_is_nowhere _ _ _ c.place_of.ensures.place
