use Rattle.std.proofs.Common.{◌≡◌, ◌++◌, drop}
use Rattle.hold_insert.specs.inner.Sources.{sources_of}
use Rattle.hold_insert.proofs.sources.sources_of.Given as goal

-- what is left makes the sources of all
abbrev pub invariant-loop-inst : goal.invariant-loop-inst
invariant-loop-inst l = l.sources.items ++ sources_of (drop l.inst-index l.insts) ≡ sources_of l.insts
