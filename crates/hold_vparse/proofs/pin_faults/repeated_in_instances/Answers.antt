use Rattle.std.proofs.Common.{ap, sym, ◌∙◌}
use Rattle.std.specs.Prelude.{flat_map}
use Rattle.hold_vparse.specs.DoubleNames.{repeated_in}
use Rattle.hold_vparse.specs.inner.Flat.{seen_instance, seen_instances}
use Rattle.hold_vparse.specs.inner.Found.{merged, found_ident}
use Rattle.hold_vparse.specs.Soonest.{soonest}
use Rattle.hold_vparse.proofs.SoonestLemmas.{soonest-step}
use Rattle.std.proofs.Common.{[]}
use Rattle.hold_base.proofs.Lists.{drop-here}
use Rattle.hold_vparse.specs.DoubleNames.{repeated_pins}
use Rattle.hold_vparse.proofs.pin_faults.repeated_in_instances.Goals as goal

pub loop-named-preserved : goal.loop-named-preserved
loop-named-preserved c =
    let here = drop-here c.args.instances.now c.loop-named.named-index c.named-item.result c.loop-named-test.true c.named-item.is in
    soonest-step (found_ident c.loop-named.found) (found_ident c.soonest_of-found.result) _ (repeated_in (seen_instance c.named-item.result)) _
    (c.soonest_of-found.ensures ∙ ap (merged (found_ident c.loop-named.found)) (c.in_ok-again.ensures ∙ ap (λ l. soonest (repeated_pins [] l)) c.as_slice.ensures))
    (ap (λ l. merged (found_ident c.loop-named.found) (soonest (flat_map repeated_in (seen_instances l)))) (sym here) ∙ c.loop-named.invariant)
