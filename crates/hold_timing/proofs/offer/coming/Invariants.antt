use Rattle.std.proofs.Common.{◌≡◌, drop}
use Rattle.std.specs.Prelude.{None}
use Rattle.hold_timing.specs.inner.Pass.{offers_from}
use Rattle.hold_timing.proofs.offer.coming.Given as goal

abbrev pub invariant-loop-place : goal.invariant-loop-place
invariant-loop-place l =
    offers_from l.side l.arcs l.spans l.arrivals l.pad l.worst (drop l.place-index l.places) ≡ offers_from l.side l.arcs l.spans l.arrivals l.pad None l.places
