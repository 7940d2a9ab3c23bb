use Rattle.std.proofs.Common.{arith}
use Rattle.hold_plain.proofs.TableLemmas.{tells_places}
use Rattle.hold_plain.proofs.tables.cell_places.Goals as goal

pub returns : goal.returns
returns c = tells_places (λ cell. cell.name) c.args.cells.now c.loop-place.place c.loop-place.table (omega arith) c.loop-place.invariant
