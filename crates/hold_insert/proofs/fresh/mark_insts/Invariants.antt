use Rattle.std.proofs.Common.{◌≡◌, ℕ, List, ◌++◌, length, take}
use Rattle.hold_insert.specs.NewNames.{inst_names}
use Rattle.hold_insert.specs.inner.Used.{AreUsed}
use Rattle.hold_insert.proofs.fresh.mark_insts.Given as goal

abbrev pub invariant-loop-inst : goal.invariant-loop-inst
invariant-loop-inst l = record {
  used : (names : List (List ℕ)) → AreUsed names l.fn.used.items → AreUsed (names ++ inst_names (take l.inst-index l.insts)) l.used.items;
  len : length l.used.items ≡ length l.fn.used.items;
}
