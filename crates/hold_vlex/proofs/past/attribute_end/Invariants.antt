use Rattle.std.proofs.Common.{◌≡◌, drop}
use Rattle.hold_vlex.specs.Front.{attribute_end}
use Rattle.hold_vlex.proofs.PastLemmas.{end_from}
use Rattle.hold_vlex.proofs.past.attribute_end.Given as goal

-- the text that is left ends the attribute where the whole text does
abbrev pub invariant-loop-i : goal.invariant-loop-i
invariant-loop-i l = end_from l.within l.i (drop l.i l.text) ≡ attribute_end 2 (drop 2 l.text)
