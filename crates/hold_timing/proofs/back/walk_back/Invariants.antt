use Rattle.std.proofs.Common.{◌≡◌, ℕ, ◌<◌, List, length, get_or}
use Rattle.std.specs.Prelude.{reverse, Some, None, ℤ, Contains}
use Rattle.hold_base.specs.declared.number.PinNo.{PinNo}
use Rattle.hold_graph.specs.Adjacency.{places_into}
use Rattle.hold_graph.specs.SitePins.{AreSites}
use Rattle.hold_graph.specs.Sites.{buffers_of}
use Rattle.hold_timing.specs.Worst.{IsArrival}
use Rattle.hold_timing.specs.inner.Pass.{coming}
use Rattle.hold_timing.proofs.WayBack.{rank, IsBack}
use Rattle.hold_timing.proofs.back.walk_back.Given as goal

abbrev pub invariant-loop-by : goal.invariant-loop-by
invariant-loop-by l = record {
  there : l.pin.0 < l.problem.graph.pins;
  listed : (place : ℕ) → l.by ≡ Some place → Contains (places_into l.problem.graph.arcs l.pin) place;
  back : (sites : List PinNo) → AreSites l.problem.graph sites →
      ((pin : PinNo) → pin.0 < l.problem.graph.pins →
      IsArrival l.side l.problem l.spans (buffers_of (length l.problem.costs) sites l.counts) pin (get_or l.arrivals pin.0 None)) → (total : ℤ) →
      coming l.side l.problem.graph l.spans (buffers_of (length l.problem.costs) sites l.counts) l.arrivals l.fn.capture ≡ Some total →
      IsBack l.side l.problem.graph l.spans (buffers_of (length l.problem.costs) sites l.counts) l.arrivals l.fn.capture total l.pin (reverse l.path.items) l.by;
}

abbrev pub decreases-loop-by : goal.decreases-loop-by
decreases-loop-by l = rank l.fn.order l.pin
