use Rattle.hold_proof.proofs.AnswerLemmas.{answer-none, answer-some, answer-bounds}
use Rattle.hold_proof.specs.inner.Judging.{forced}
use Rattle.hold_proof.proofs.judging.judge.Goals as goal

pub returns-clause-none : goal.returns-clause-none
returns-clause-none c =
    answer-none c.args.problem.now c.args.paths.now (forced c.args.below c.args.within.now) c.args.tree.now c.first_bad_node.result c.first_bad_node.ensures.none c.first_bad_node.ensures.some

pub returns-clause-flaw : goal.returns-clause-flaw
returns-clause-flaw c =
    answer-some c.args.problem.now c.args.paths.now (forced c.args.below c.args.within.now) c.args.tree.now c.first_bad_node.result c.first_bad_node.ensures.none c.first_bad_node.ensures.some

pub returns-clause-sound : goal.returns-clause-sound
returns-clause-sound c =
    answer-bounds c.args.problem.now c.args.paths.now (forced c.args.below c.args.within.now) c.args.tree.now c.first_bad_node.result c.first_bad_node.ensures.none
