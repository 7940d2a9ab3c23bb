use Rattle.std.proofs.Common.{◌<◌, length, arith, ◌∙◌}
use Rattle.hold_job.proofs.NameSetLemmas.{set_step}
use Rattle.hold_job.proofs.name_set.set_of.Goals as goal

pub loop-name-preserved : goal.loop-name-preserved
loop-name-preserved c = λ n.
    let below : c.loop-name.name-index < length c.args.names.now = omega arith in
    set_step c.loop-name.set c.add.new.self c.args.names.now c.loop-name.name-index c.bytes.result.now c.name-item.result n c.in_ok-add.field-0
    below c.name-item.is c.bytes.ensures c.in_ok-add.ensures.new c.in_ok-add.ensures.added ∙ c.loop-name.invariant n
