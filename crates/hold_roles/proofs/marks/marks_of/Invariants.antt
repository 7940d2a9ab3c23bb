use Rattle.std.proofs.Common.{◌≡◌, length}
use Rattle.hold_roles.specs.inner.Marks.{drivers_in, AreDone, AreMarked}
use Rattle.hold_roles.proofs.marks.marks_of.Given as goal

abbrev pub invariant-loop-net : goal.invariant-loop-net
invariant-loop-net l = record {
  each : length l.marks.items ≡ length l.slots;
  marked : AreMarked (drivers_in l.slots) l.marks.items;
  done : AreDone l.net l.marks.items;
}
