use Rattle.std.proofs.Common.{length, ◌-◌, ◌<◌, vec_len}
use Rattle.hold_files.proofs.Progress.{IsReadTo}
use Rattle.hold_files.proofs.reading.read_whole.Given as goal

abbrev pub invariant-loop-text : goal.invariant-loop-text
invariant-loop-text g l = record {
  front : IsReadTo (g.F.Files.told l.fn.files) (g.F.Files.told l.files) l.name l.text.items l.limit;
  piece : 0 < vec_len l.piece;
}

abbrev pub decreases-loop-text : goal.decreases-loop-text
decreases-loop-text g l = l.limit - length l.text.items
