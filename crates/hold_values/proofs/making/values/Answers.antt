use Rattle.hold_told.specs.declared.stray.Stray.{Stray}
use Rattle.hold_told.specs.declared.told.Told.{Told}
use Rattle.hold_values.specs.declared.value.Values.{Values}
use Rattle.hold_values.proofs.AnswerLemmas.{handed_on}
use Rattle.hold_values.proofs.RangeLemmas.{values-in_range}
use Rattle.hold_values.proofs.making.values.Goals as goal

pub returns-in-Ok-values_of-clause-in_range : goal.returns-in-Ok-values_of-clause-in_range
returns-in-Ok-values_of-clause-in_range c =
    values-in_range c.args.job.now c.requires.rules c.args.corner.0 c.args.bound.now c.args.entries.now c.requires.in_range c.args.graph.now c.in-Ok-values_of.values (c.in-Ok-values_of.ensures c.args.entries.now c.in-Ok.ensures.told)

pub returns-in-Ok-values_of-clause-refused : goal.returns-in-Ok-values_of-clause-refused
returns-in-Ok-values_of-clause-refused c at first = let never = c.in-Ok.ensures.refused at first in absurd cc

pub returns-clause-refused : goal.returns-clause-refused
returns-clause-refused c at first = handed_on Told Values Stray c.in-Err.stop (record { at = at }) (c.in-Err.ensures.refused at first)
