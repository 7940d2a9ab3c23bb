use Rattle.std.proofs.Common.{map, ap, sym, ◌∙◌}
use Rattle.std.specs.Prelude.{flat_map}
use Rattle.hold_base.proofs.Loops.{pushed-whole}
use Rattle.hold_base.proofs.Lists.{drop-here, append-nil_left, append-nil_right}
use Rattle.hold_vparse.specs.BitFaults.{misfit_named}
use Rattle.hold_vparse.specs.Declares.{inst}
use Rattle.hold_vparse.specs.inner.Flat.{seen_instance, seen_instances}
use Rattle.hold_vparse.proofs.inst_list.inst_list.Goals as goal

pub inst_of-requires : goal.inst_of-requires
inst_of-requires c =
    let here = drop-here c.args.instances.now c.loop-named.named-index c.named-item.result c.loop-named-test.true c.named-item.is in
    append-nil_left _ _ (ap (λ l. flat_map (misfit_named c.args.layout.now.wires.now) (seen_instances l)) (sym here) ∙ c.loop-named.invariant.fit)

pub loop-named-preserved : goal.loop-named-preserved
loop-named-preserved c =
    let here = drop-here c.args.instances.now c.loop-named.named-index c.named-item.result c.loop-named-test.true c.named-item.is in
    record {
      made = pushed-whole c.loop-named.list.items c.push.new.self.items _ _ _ _ (inst c.args.layout.now.wires.now (seen_instance c.named-item.result)) c.in_ok-push.ensures.items c.in_ok-inst_of.ensures
          (ap (λ l. map (inst c.args.layout.now.wires.now) (seen_instances l)) here) c.loop-named.invariant.made;
      fit = append-nil_right (misfit_named c.args.layout.now.wires.now (seen_instance c.named-item.result)) _ (ap (λ l. flat_map (misfit_named c.args.layout.now.wires.now) (seen_instances l)) (sym here) ∙ c.loop-named.invariant.fit);
    }
