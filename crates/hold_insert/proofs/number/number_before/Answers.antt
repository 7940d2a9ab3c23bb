use Rattle.std.proofs.Common.{◌∙◌}
use Rattle.hold_insert.proofs.NumberLemmas.{before-some, begins-first}
use Rattle.hold_insert.proofs.number.number_before.Goals as goal

pub returns-clause-some : goal.returns-clause-some
returns-clause-some c =
    before-some c.args.text.now c.split_at.result.0.now c.read_number.result c.in-Some.end c.split_at.ensures.front c.in-Some.ensures.some.0 c.in-Some.ensures.some.1
    c.read_number.ensures.some

pub returns-clause-none : goal.returns-clause-none
returns-clause-none c none n small begins =
    c.read_number.ensures.none none n small (c.split_at.ensures.front ∙ begins-first c.args.text.now n c.in-Some.end small begins c.in-Some.ensures.some.1 c.in-Some.ensures.before)
