use Rattle.std.proofs.Common.{arith}
use Rattle.hold_plain.proofs.TableLemmas.{tells_places}
use Rattle.hold_plain.proofs.tables.clock_places.Goals as goal

pub returns : goal.returns
returns c = tells_places (λ clock. clock.inst) c.args.clocks.now c.loop-place.place c.loop-place.table (omega arith) c.loop-place.invariant
