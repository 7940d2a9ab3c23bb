use Rattle.std.proofs.Common.{length, ◌-◌}
use Rattle.hold_files.proofs.Progress.{IsWrittenTo}
use Rattle.hold_files.proofs.writing.write_whole.Given as goal

abbrev pub invariant-loop-place : goal.invariant-loop-place
invariant-loop-place g l = IsWrittenTo (g.F.Files.told l.fn.files) (g.F.Files.told l.files) l.name l.text l.place

abbrev pub decreases-loop-place : goal.decreases-loop-place
decreases-loop-place g l = length l.text - l.place
