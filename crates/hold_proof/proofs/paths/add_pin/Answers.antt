use Rattle.std.proofs.Common.{◌*◌, length, arith}
use Rattle.std.proofs.Math.Nat.{mul-le-mul_right}
use Rattle.hold_base.specs.Limits.{time_limit}
use Rattle.hold_proof.proofs.SiteLemmas.{site_at-Some, site_at-None, site-room}
use Rattle.hold_proof.proofs.ChangeLemmas.{raised-site, raised-no_site}
use Rattle.hold_proof.proofs.paths.add_pin.Goals as goal

pub add_path_site-requires-clause-there : goal.add_path_site-requires-clause-there
add_path_site-requires-clause-there c =
    site-room c.args.sites.now (length c.args.kinds.now) c.in-Some.site.0 (length c.args.factors.now.items) c.args.pin (c.in-Some.ensures.some c.args.sites.now c.requires.sites) c.requires.each

pub returns-in-Some : goal.returns-in-Some
returns-in-Some c =
    let most = mul-le-mul_right (c.args.times * time_limit) c.requires.kinds in
    raised-site (length c.args.kinds.now) _ c.in-Some.site.0 _ _ _ _ _
    (site_at-Some c.args.graph.now c.args.sites.now c.args.pin c.in-Some.site.0 c.requires.sites (c.in-Some.ensures.some c.args.sites.now c.requires.sites))
    c.add_path_site.ensures (omega (arith, most))

pub returns-in_default : goal.returns-in_default
returns-in_default c =
    raised-no_site (length c.args.kinds.now) _ _ _ _ (site_at-None c.args.graph.now c.args.sites.now c.args.pin c.requires.sites c.in_default.ensures.none)
