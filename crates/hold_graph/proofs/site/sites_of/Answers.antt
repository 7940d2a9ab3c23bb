use Rattle.std.proofs.Common.{◌≡◌, ◌+◌, ◌++◌, ◌∷◌, [], ◌∙◌, ap, sym, subst, Vec, Global}
use Rattle.std.specs.Prelude.{List}
use Rattle.hold_base.specs.declared.number.PinNo.{PinNo}
use Rattle.hold_graph.specs.inner.Sites.{AreSitesBelow}
use Rattle.hold_graph.proofs.SiteLists.{sites-skip, sites-push}
use Rattle.hold_graph.proofs.site.sites_of.Goals as goal
use Rattle.hold_graph.proofs.site.sites_of.Goals.{then-is_site+in_ok-push, else-is_site}

pub loop-pin-preserved : goal.loop-pin-preserved
loop-pin-preserved c =
    let n = c.loop-pin.pin in
    let kept : List PinNo → Type 0 = λ sites. AreSitesBelow c.args.parts.now (n + 1) sites in
    elim c.if-is_site.branch [
      | then-is_site+in_ok-push w ↦
          subst kept (sym (ap (λ (v : Vec PinNo Global). v.items) w.sites-is ∙ w.in_ok-push.ensures.items))
          (sites-push c.args.parts.now n c.loop-pin.sites.items c.loop-pin.invariant (c.is_site.ensures.0 w.if-is_site.true))
      | else-is_site w ↦
          subst kept (sym (ap (λ (v : Vec PinNo Global). v.items) w.sites-is))
          (sites-skip c.args.parts.now n c.loop-pin.sites.items c.loop-pin.invariant (λ site. let is = c.is_site.ensures.1 site in let isnt = w.if-is_site.false in cc))
    ]
