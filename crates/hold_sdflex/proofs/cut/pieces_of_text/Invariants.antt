use Rattle.std.proofs.Common.{◌≡◌, ◌≤◌, ◌-◌, length, drop}
use Rattle.hold_sdflex.specs.Pieces.{pieces_from, pieces_of_text}
use Rattle.hold_sdflex.specs.inner.Waiting.{shown}
use Rattle.hold_sdflex.proofs.Cutting.{before}
use Rattle.hold_sdflex.proofs.cut.pieces_of_text.Given as goal

abbrev pub invariant-loop-at : goal.invariant-loop-at
invariant-loop-at l = record {
  within : l.at ≤ length l.text;
  found : before (shown l.pieces.items) (pieces_from (drop l.at l.text) 0 l.at) ≡ pieces_of_text l.text;
}

abbrev pub decreases-loop-at : goal.decreases-loop-at
decreases-loop-at l = length l.text - l.at
