use Rattle.std.proofs.Common.{◌≡◌, ◌<◌, List, length, get_or}
use Rattle.std.specs.Prelude.{None}
use Rattle.hold_base.specs.declared.number.PinNo.{PinNo}
use Rattle.hold_graph.specs.SitePins.{AreSites}
use Rattle.hold_graph.specs.Sites.{buffers_of}
use Rattle.hold_timing.specs.Worst.{IsArrival}
use Rattle.hold_timing.specs.inner.Search.{IsWorstAmong}
use Rattle.hold_timing.proofs.worst.worst_end.Given as goal

abbrev pub invariant-loop-place : goal.invariant-loop-place
invariant-loop-place l = (sites : List PinNo) → AreSites l.problem.graph sites →
    ((pin : PinNo) → pin.0 < l.problem.graph.pins →
    IsArrival l.side l.problem l.spans (buffers_of (length l.problem.costs) sites l.counts) pin (get_or l.arrivals pin.0 None)) →
    IsWorstAmong l.side l.problem l.spans (buffers_of (length l.problem.costs) sites l.counts) l.place l.worst
