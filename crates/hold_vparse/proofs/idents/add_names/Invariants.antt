use Rattle.std.proofs.Common.{◌≡◌, ◌++◌, drop}
use Rattle.hold_vparse.specs.inner.Flat.{targets}
use Rattle.hold_vparse.proofs.idents.add_names.Given as goal

abbrev pub invariant-loop-name : goal.invariant-loop-name
invariant-loop-name l = targets l.list.items ++ drop l.name-index l.names ≡ targets l.fn.list.items ++ l.names
