use Rattle.std.proofs.Common.{◌≡◌, length}
use Rattle.hold_certtext.specs.inner.Parsing.{pins_in}
use Rattle.hold_certtext.specs.inner.Words.{left}
use Rattle.hold_certtext.proofs.LoopLemmas.{with_pins}
use Rattle.hold_certtext.proofs.part.pins.Given as goal

abbrev pub invariant-loop-words : goal.invariant-loop-words
invariant-loop-words l = with_pins l.pins.items (pins_in (left l.words)) ≡ pins_in (left l.fn.words)

abbrev pub decreases-loop-words : goal.decreases-loop-words
decreases-loop-words l = length (left l.words)
