use Rattle.std.proofs.Common.{◌-◌, length, get_or, take, drop, arith}
use Rattle.hold_sdflex.proofs.Rising.{front_not_empty, front_within}
use Rattle.hold_sdflex.proofs.front.front_of.Goals as goal

pub returns-in-len1-up-clause-not_empty : goal.returns-in-len1-up-clause-not_empty
returns-in-len1-up-clause-not_empty c =
    let text = c.args.text.now in
    front_not_empty (get_or text 0 0) (take (length text - 1) (drop 1 text)) c.front_at.result c.front_at.ensures

pub returns-in-len1-up-clause-within : goal.returns-in-len1-up-clause-within
returns-in-len1-up-clause-within c =
    let text = c.args.text.now in
    front_within (get_or text 0 0) (take (length text - 1) (drop 1 text)) text c.front_at.result (omega (arith, c.in-len1-up.len_at_least)) c.front_at.ensures
