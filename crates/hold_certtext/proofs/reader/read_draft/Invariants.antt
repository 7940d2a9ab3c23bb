use Rattle.std.proofs.Common.{length}
use Rattle.hold_certtext.specs.inner.Reading.{so_far}
use Rattle.hold_certtext.proofs.ProgressLemmas.{Progress}
use Rattle.hold_certtext.proofs.reader.read_draft.Given as goal

abbrev pub invariant-loop-alloc : goal.invariant-loop-alloc
invariant-loop-alloc l = Progress l.text l.rest (so_far l.draft) l.number

abbrev pub decreases-loop-alloc : goal.decreases-loop-alloc
decreases-loop-alloc l = length l.rest
