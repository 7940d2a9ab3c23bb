use Rattle.std.proofs.Common.{◌≡◌, take, drop, []}
use Rattle.hold_vparse.specs.inner.Barred.{Bars}
use Rattle.hold_vparse.specs.DoubleNames.{doubles}
use Rattle.hold_vparse.specs.inner.Flat.{seen_mentions}
use Rattle.hold_vparse.specs.inner.Found.{merged, found_ident}
use Rattle.hold_vparse.specs.Soonest.{soonest}
use Rattle.hold_vparse.proofs.double_names.first_double_name.Given as goal

-- the table tells of the mentions so far, and what is found is the soonest double among them
abbrev pub invariant-loop-mention : goal.invariant-loop-mention
invariant-loop-mention l = record {
  bars : Bars l.parts.tree.now l.seen (seen_mentions (take l.mention-index l.mention-items));
  so_far : merged (found_ident l.found) (soonest (doubles l.parts.tree.now (seen_mentions (take l.mention-index l.mention-items)) (seen_mentions (drop l.mention-index l.mention-items))))
      ≡ soonest (doubles l.parts.tree.now [] (seen_mentions l.mention-items));
}
