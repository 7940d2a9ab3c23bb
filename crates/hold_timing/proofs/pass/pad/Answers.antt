use Rattle.std.proofs.Common.{◌∙◌, arith, w64}
use Rattle.std.specs.Prelude.{FitsSigned}
use Rattle.std.proofs.lemmas.Int.{ints, to_z-of_z}
use Rattle.hold_graph.specs.Problem.{IsWithin}
use Rattle.hold_timing.specs.inner.Pass.{pad_limit}
use Rattle.hold_timing.proofs.Pads.{if_some, if_none, site-room, site-position, pad_is}
use Rattle.hold_timing.proofs.pass.pad.Goals as goal

pub added-requires-clause-there : goal.added-requires-clause-there
added-requires-clause-there c = λ s is.
    site-room c.sites-sites.result.now c.args.pin s.0 c.args.spans.now.kinds c.as_slice.result.now _ _ c.as_slice.ensures c.requires.corner.kinds_each
    (c.requires.counts c.sites-sites.result.now c.sites-sites.ensures)
    (if_some _ c.site_of.result s is c.site_of.ensures.some c.sites-sites.result.now c.sites-sites.ensures)

pub returns-clause-value : goal.returns-clause-value
returns-clause-value c = λ sites are.
    let within : IsWithin pad_limit c.added.result = c.added.ensures.within in
    let in_range : FitsSigned w64 c.added.result = omega (arith, ints) in
    to_z-of_z w64 c.added.result in_range
    ∙ pad_is c.args.side c.args.spans.now.kinds c.as_slice.result.now _ c.args.counts.now sites c.args.pin c.site_of.result c.added.result c.as_slice.ensures c.requires.corner.kinds_each
    (site-position c.args.problem.now.graph sites are c.args.pin c.site_of.result
    (λ s is. if_some _ c.site_of.result s is c.site_of.ensures.some sites are)
    (λ is. if_none _ c.site_of.result is c.site_of.ensures.none))
    c.added.ensures.value
