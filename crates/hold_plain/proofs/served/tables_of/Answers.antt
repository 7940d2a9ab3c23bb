use Rattle.std.proofs.Common.{sym, subst, ◌∙◌}
use Rattle.hold_plain.proofs.PlaceTables.{AreBelow}
use Rattle.hold_plain.proofs.ServedLemmas.{AreBelow-driven, AreBelow-fed}
use Rattle.hold_plain.proofs.served.tables_of.Goals as goal

pub places_of-requires-clause-below : goal.places_of-requires-clause-below
places_of-requires-clause-below c =
    subst (AreBelow c.args.nets) (sym (c.as_slice.ensures.value ∙ c.in_ok-driven.ensures)) (AreBelow-driven c.args.nets c.args.insts c.args.uses.now c.requires.within)

pub places_of-requires-2-clause-below : goal.places_of-requires-2-clause-below
places_of-requires-2-clause-below c =
    subst (AreBelow c.args.insts) (sym (c.as_slice-2.ensures.value ∙ c.in_ok-fed.ensures)) (AreBelow-fed c.args.nets c.args.insts c.args.uses.now c.requires.within)
