use Rattle.std.proofs.Common.{length, rules, FitsSigned}
use Rattle.std.proofs.lemmas.Int.{to_z-of_z}
use mir.Syntax.{w128}
use Rattle.hold_proof.proofs.SiteLemmas.{site_at-Some, site_at-None, site-room}
use Rattle.hold_proof.proofs.ChangeLemmas.{settled-site, settled-no_site, settled-same}
use Rattle.hold_proof.proofs.paths.settle_pin.Goals as goal

pub settle_site-requires-clause-there : goal.settle_site-requires-clause-there
settle_site-requires-clause-there c =
    site-room c.args.sites.now (length c.args.over.now.costs.now) c.in-Some.site.0 (length c.args.factors.now.items) c.args.pin (c.in-Some.ensures.some c.args.sites.now c.requires.sites) c.requires.each

pub returns-in-Some : goal.returns-in-Some
returns-in-Some c =
    let fits : FitsSigned w128 c.settle_site.result = search rules in
    settled-same _ _ _ _ _ _ _ _ _
    (settled-site c.args.over.now.costs.now c.args.over.now.scale c.args.over.now.low.now c.args.over.now.high.now (length c.args.over.now.costs.now) _ c.in-Some.site.0 _ _ _
    (site_at-Some c.args.graph.now c.args.sites.now c.args.pin c.in-Some.site.0 c.requires.sites (c.in-Some.ensures.some c.args.sites.now c.requires.sites)) c.settle_site.ensures)
    (to_z-of_z w128 c.settle_site.result fits)

pub returns-in-None : goal.returns-in-None
returns-in-None c =
    settled-no_site c.args.over.now.costs.now c.args.over.now.scale c.args.over.now.low.now c.args.over.now.high.now (length c.args.over.now.costs.now) _ _
    (site_at-None c.args.graph.now c.args.sites.now c.args.pin c.requires.sites c.in-None.ensures.none)
