use Rattle.std.proofs.Common.{◌≡◌, ◌*◌, List, length, rules, ap, ◌∙◌}
use Rattle.hold_base.specs.declared.number.PinNo.{PinNo}
use Rattle.hold_graph.specs.declared.graph.Parts.{Parts}
use Rattle.hold_graph.proofs.SiteLists.{sites-unique}
use Rattle.hold_proof.proofs.RoomLemmas.{room-is}
use Rattle.hold_proof.proofs.scratch.Scratch.make.Goals as goal

pub returns : goal.returns
returns c = λ sites are.
    let same = sites-unique c.args.problem.now.graph c.sites.result.now sites c.sites.ensures are in
    let parts = c.parts-parts.ensures.same in
    let long : length c.in_ok-factors.factors.items ≡ length c.sites.result.now * length c.as_slice.result.now = search rules in
    room-is c.args.problem.now sites c.in_ok-launches.launches.listed.items c.in_ok-captures.captures.listed.items (length c.in_ok-factors.factors.items) (length c.in_ok-launches.launches.first.items)
    (long ∙ ap (λ (l : List PinNo). length l * length c.as_slice.result.now) same ∙ ap (λ l. length sites * length l) c.as_slice.ensures)
    (c.in_ok-launches.ensures.count_is ∙ ap (λ (p : Parts). p.pins) parts)
    (c.in_ok-launches.ensures.listed_are ∙ c.as_slice-2.ensures ∙ ap (λ (p : Parts). p.launches) parts)
    (c.in_ok-captures.ensures.listed_are ∙ c.as_slice-3.ensures ∙ ap (λ (p : Parts). p.captures) parts)
