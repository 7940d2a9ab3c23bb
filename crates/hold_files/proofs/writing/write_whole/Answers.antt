use Rattle.hold_files.proofs.Progress.{IsWrittenTo-more}
use Rattle.hold_files.proofs.writing.write_whole.Goals as goal

pub loop-place-preserved : goal.loop-place-preserved
loop-place-preserved g c = IsWrittenTo-more _ _ _ _ _ _ _ c.loop-place.invariant c.in_ok-place.ensures.count c.in_ok-place.ensures.appended c.put.ensures.stays
