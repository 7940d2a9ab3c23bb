use Rattle.std.proofs.Common.{◌≡◌, ◌+◌, ◌++◌, drop}
use Rattle.hold_build.specs.inner.Sorts.{sort_pins}
use Rattle.hold_build.proofs.sort.put_sort_pins.Given as goal

-- what is left makes the list of all
abbrev pub invariant-loop-place : goal.invariant-loop-place
invariant-loop-place l = l.out.items ++ sort_pins l.sort l.cell (l.first + l.place) (drop l.place l.pins) ≡ l.fn.out.items ++ sort_pins l.sort l.cell l.first l.pins
