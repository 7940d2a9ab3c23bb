use Rattle.std.proofs.Common.{take}
use Rattle.std.specs.Prelude.{IsTrue, ◌↔◌}
use Rattle.std.specs.List.{AllZip}
use Rattle.hold_uses.specs.Uses.{IsCheckedStep}
use Rattle.hold_uses.proofs.uses.used_steps.Given as goal

abbrev pub invariant-loop-arc : goal.invariant-loop-arc
invariant-loop-arc l = AllZip (λ arc flag. IsTrue flag ↔ IsCheckedStep l.graph arc.from arc.to) (take l.arc-index l.arcs) l.used.items
