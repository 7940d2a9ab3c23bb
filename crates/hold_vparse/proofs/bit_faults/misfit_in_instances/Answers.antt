use Rattle.std.proofs.Common.{◌≡◌, ap, sym, ◌∙◌}
use Rattle.std.specs.Prelude.{flat_map}
use Rattle.hold_base.proofs.Lists.{drop-here}
use Rattle.hold_vsyntax.specs.declared.tree.Connection.{Connection}
use Rattle.hold_vparse.specs.BitFaults.{misfit_tied, misfit_named}
use Rattle.hold_vparse.specs.inner.Flat.{seen_instance, seen_instances}
use Rattle.hold_vparse.specs.inner.Found.{merged, found_ident}
use Rattle.hold_vparse.specs.Soonest.{soonest}
use Rattle.hold_vparse.proofs.SoonestLemmas.{soonest-step}
use Rattle.hold_vparse.proofs.bit_faults.misfit_in_instances.Goals as goal

pub loop-named-preserved : goal.loop-named-preserved
loop-named-preserved c =
    let here = drop-here c.args.instances.now c.loop-named.named-index c.named-item.result c.loop-named-test.true c.named-item.is in
    let same : soonest (flat_map (λ (x : Connection). misfit_tied c.args.nets.now.nets.now x.tied) c.as_slice.result.now) ≡ soonest (misfit_named c.args.nets.now.nets.now (seen_instance c.named-item.result)) =
    ap (λ l. soonest (flat_map (λ (x : Connection). misfit_tied c.args.nets.now.nets.now x.tied) l)) c.as_slice.ensures in
    soonest-step (found_ident c.loop-named.found) (found_ident c.soonest_of-found.result) _ (misfit_named c.args.nets.now.nets.now (seen_instance c.named-item.result)) _
    (c.soonest_of-found.ensures ∙ ap (merged (found_ident c.loop-named.found)) (c.misfit_of_instance.ensures ∙ same))
    (ap (λ l. merged (found_ident c.loop-named.found) (soonest (flat_map (misfit_named c.args.nets.now.nets.now) (seen_instances l)))) (sym here) ∙ c.loop-named.invariant)
