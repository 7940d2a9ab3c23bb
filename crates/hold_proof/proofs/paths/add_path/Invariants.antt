use Rattle.std.proofs.Common.{◌*◌, take, length}
use Rattle.hold_proof.specs.inner.LeafTerms.{path_numbers, pins_terms}
use Rattle.hold_proof.specs.inner.Changes.{IsRaised, site_unit}
use Rattle.hold_proof.proofs.paths.add_path.Given as goal

abbrev pub invariant-loop-pin : goal.invariant-loop-pin
invariant-loop-pin l =
    IsRaised (pins_terms (length l.kinds) l.sites (path_numbers l.side l.times l.kinds) (take l.pin-index l.pins)) (l.pin-index * (l.times * site_unit)) l.fn.factors.items l.factors.items
