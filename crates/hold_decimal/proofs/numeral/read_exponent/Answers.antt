use Rattle.hold_decimal.proofs.Cuts.{no_power}
use Rattle.hold_decimal.proofs.numeral.read_exponent.Goals as goal

pub returns-in-101-clause-none : goal.returns-in-101-clause-none
returns-in-101-clause-none c = no_power c.args.text.now c.read_power.result c.in-101.len_at_least c.read_power.ensures.none
