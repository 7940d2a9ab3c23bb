use Rattle.std.proofs.Common.{◌≡◌, ◌*◌, length, ap, ◌∙◌, subst}
use Rattle.hold_graph.specs.Sites.{buffers_of}
use Rattle.hold_graph.specs.Sums.{Buffers, no_buffers}
use Rattle.hold_timing.specs.Ends.{IsWorstEnd}
use Rattle.hold_report.proofs.NoBuffers.{buffers_of-zeros}
use Rattle.hold_report.proofs.bare_end.bare_end.Goals as goal

pub returns : goal.returns
returns c = λ spans at.
    let sites = c.sites-sites.result.now in
    let kinds = length c.args.problem.now.costs in
    let none : buffers_of kinds sites c.args.arrivals.now.counts ≡ no_buffers =
    ap (buffers_of kinds sites) (c.requires.zeros sites c.sites-sites.ensures) ∙ buffers_of-zeros kinds (length sites * kinds) sites in
    subst (λ (buffers : Buffers). IsWorstEnd c.args.side c.args.problem.now spans buffers c.worst.result) none (c.worst.ensures.worst spans sites at c.sites-sites.ensures)
