use Rattle.hold_proof.proofs.WorkLemmas.{box-few}
use Rattle.hold_proof.specs.inner.Walk.{box_at}
use Rattle.hold_proof.proofs.judging.passes.Goals as goal

pub leave-requires-clause-few : goal.leave-requires-clause-few
leave-requires-clause-few c =
    box-few c.args.asked.now.problem.now c.sites-sites.result.now (box_at c.args.walk.now.low.items c.args.walk.now.high.items) c.requires.valid c.parts-parts.ensures.numbers c.sites-sites.ensures
    (c.requires.within c.sites-sites.result.now c.sites-sites.ensures)
