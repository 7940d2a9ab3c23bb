-- A checked path ends where the worst end is.
use Rattle.std.proofs.Common.{◌≡◌, ℕ, ◌<◌, List, [], length, get_or, ap}
use Rattle.std.specs.Prelude.{Option, Some}
use Rattle.std.proofs.lemmas.Option.{slice_get-get_or}
use Rattle.hold_base.specs.declared.number.PinNo.{PinNo}
use Rattle.hold_base.specs.declared.time.Side.{Side}
use Rattle.hold_graph.specs.declared.problem.Spans.{Spans}
use Rattle.hold_graph.specs.declared.problem.Problem.{Problem}
use Rattle.hold_graph.specs.SitePins.{AreSites}
use Rattle.hold_graph.specs.Sites.{buffers_of}
use Rattle.hold_timing.specs.declared.end.End.{End}
use Rattle.hold_timing.specs.Arrivals.{AtCorner}
use Rattle.hold_timing.specs.Ends.{EndsAt, IsWorstEnd}

no_spans : Spans
no_spans = record { arcs = []; launch = []; capture = []; setup = []; hold = []; kinds = [] }

pub path_ends : (side : Side) (problem : Problem) (counts : List ℕ) (corner : ℕ) (sites : List PinNo) (found : Option End) (end : End) →
    corner < length problem.corners → AreSites problem.graph sites → AtCorner problem counts corner (λ spans buffers. IsWorstEnd side problem spans buffers found) →
    found ≡ Some end → EndsAt problem.graph end.capture
path_ends side problem counts corner sites found end below are worst is =
    let there : IsWorstEnd side problem (get_or problem.corners corner no_spans) (buffers_of (length problem.costs) sites counts) found =
    worst (get_or problem.corners corner no_spans) sites (slice_get-get_or problem.corners corner no_spans below) are in
    let path = there.attained end is in
    (path.0, path.1, ap (λ (e : End). e.capture) path.2)
