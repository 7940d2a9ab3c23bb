use Rattle.hold_sdflex.specs.ItemsRead.{word_read}
use Rattle.hold_sdf.proofs.Numbers.{time_told, no_time_told}
use Rattle.hold_sdf.proofs.number.number.Goals as goal

pub returns-in-Ok : goal.returns-in-Ok
returns-in-Ok c = time_told (word_read c.args.atom) c.args.scale.exponent c.in-Ok.time c.in-Ok.ensures.time

pub returns-in-Err : goal.returns-in-Err
returns-in-Err c = no_time_told (word_read c.args.atom) c.args.scale.exponent c.in-Err.field-0 c.in-Err.ensures.only_time
