use Rattle.std.proofs.Common.{◌∙◌, ◌-◌, ap, drop, length, arith}
use Rattle.std.proofs.lemmas.List.{take_all, length-drop}
use Rattle.hold_insert.proofs.number.number_of.Goals as goal

pub returns-in-104-clause-none : goal.returns-in-104-clause-none
returns-in-104-clause-none c none n small begins =
    let long = length-drop 5 c.args.name.now in
    let whole = take_all (length c.args.name.now - 5) (drop 5 c.args.name.now) (omega (arith, long)) in
    c.number_before.ensures.none none n small (begins.0, whole ∙ ap (drop 5) begins.1)
