use Rattle.std.proofs.Common.{◌≡◌, ◌∙◌, ap, subst, refl, ◌<◌, length}
use Rattle.std.specs.Prelude.{All, List, Contains}
use Rattle.std.proofs.lemmas.List.Elements.{All-contains}
use Rattle.hold_base.proofs.Results.{IfOk-weaken}
use Rattle.hold_base.specs.declared.number.PinNo.{PinNo}
use Rattle.hold_graph.specs.declared.graph.Parts.{Parts}
use Rattle.hold_graph.specs.Sites.{buffers_of}
use Rattle.hold_timing.proofs.WayBack.{back-least}
use Rattle.hold_timing.proofs.Slacks.{to_checked}
use Rattle.hold_timing.proofs.WorstEnds.{end_of-path_to, ends_at-path, ends_at-capture}
use Rattle.hold_timing.proofs.back.path_back.Goals as goal

pub returns-clause-checked : goal.returns-clause-checked
returns-clause-checked c = IfOk-weaken c.walk_back.result c.walk_back.ensures (λ path h.
    let some = ends_at-path c.args.problem.now.graph c.args.capture c.requires.ends in
    to_checked c.args.problem.now.graph c.args.capture path.items (ends_at-capture c.args.problem.now.graph c.args.capture c.requires.ends)
    (h c.sites-sites.result.now c.sites-sites.ensures (c.requires.right c.sites-sites.result.now c.sites-sites.ensures) some.0 some.1).0)

pub returns-clause-ends : goal.returns-clause-ends
returns-clause-ends c = IfOk-weaken c.walk_back.result c.walk_back.ensures (λ path h.
    let some = ends_at-path c.args.problem.now.graph c.args.capture c.requires.ends in
    end_of-path_to c.args.problem.now.graph c.args.capture path.items
    (h c.sites-sites.result.now c.sites-sites.ensures (c.requires.right c.sites-sites.result.now c.sites-sites.ensures) some.0 some.1).0)

pub returns-clause-least : goal.returns-clause-least
returns-clause-least c = IfOk-weaken c.walk_back.result c.walk_back.ensures (λ path h. λ sites are.
    let some = ends_at-path c.args.problem.now.graph c.args.capture c.requires.ends in
    let worst = h sites are (c.requires.right sites are) some.0 some.1 in
    back-least c.args.side c.args.problem.now c.args.spans.now (buffers_of (length c.args.problem.now.costs) sites c.args.counts.now) c.args.capture _ path.items worst.1 worst.0 refl)
