use Rattle.std.proofs.Common.{◌≡◌, drop}
use Rattle.hold_netlist.specs.Names.{is_among}
use Rattle.hold_job.specs.inner.Texts.{texts}
use Rattle.hold_job.proofs.keys.is_known.Given as goal

-- the key is one of those that are left where it is one of all
abbrev pub invariant-loop-known : goal.invariant-loop-known
invariant-loop-known l = is_among l.key (texts (drop l.known-index l.keys)) ≡ is_among l.key (texts l.keys)
