use Rattle.std.proofs.Common.{arith, sym, ◌∙◌, ap}
use Rattle.hold_vlex.specs.Front.{front, Nothing, Past, Read, Bad, NoEnd, NoName}
use Rattle.hold_vlex.proofs.LexedLemmas.{lexed_at-front, IsNext-None, IsNext-Some, IsNext-Err}
use Rattle.hold_vlex.proofs.SortLemmas.{read-fits}
use Rattle.hold_vlex.proofs.lexer.next_at.Goals as goal

pub returns-in-Nothing-clause-next : goal.returns-in-Nothing-clause-next
returns-in-Nothing-clause-next c =
    let found = c.in-Nothing.ensures.front ∙ ap front c.split_at.ensures.back in
    IsNext-None _ _ c.loop-n.invariant.0
    (sym c.loop-n.invariant.0 ∙ lexed_at-front c.loop-n.place c.args.text.now Nothing found)

pub loop-n-preserved : goal.loop-n-preserved
loop-n-preserved c =
    let found = c.in-Past.ensures.front ∙ ap front c.split_at.ensures.back in
    (sym (lexed_at-front c.loop-n.place c.args.text.now (Past c.in-Past.n) found) ∙ c.loop-n.invariant.0, omega (arith, c.in-Past.ensures.within.1))

pub returns-in-Read-clause-next : goal.returns-in-Read-clause-next
returns-in-Read-clause-next c =
    let found = c.in-Read.ensures.front ∙ ap front c.split_at.ensures.back in
    IsNext-Some _ _ _
    (sym c.loop-n.invariant.0
    ∙ lexed_at-front c.loop-n.place c.args.text.now (Read c.in-Read.sort c.in-Read.text.now c.in-Read.n) found)

pub returns-in-Bad-clause-next : goal.returns-in-Bad-clause-next
returns-in-Bad-clause-next c =
    let found = c.in-Bad.ensures.front ∙ ap front c.split_at.ensures.back in
    IsNext-Err _ _ _ c.loop-n.invariant.0
    (sym c.loop-n.invariant.0 ∙ lexed_at-front c.loop-n.place c.args.text.now (Bad c.in-Bad.n) found)

pub returns-in-NoEnd-clause-next : goal.returns-in-NoEnd-clause-next
returns-in-NoEnd-clause-next c =
    let found = c.in-NoEnd.ensures.front ∙ ap front c.split_at.ensures.back in
    IsNext-Err _ _ _ c.loop-n.invariant.0
    (sym c.loop-n.invariant.0 ∙ lexed_at-front c.loop-n.place c.args.text.now NoEnd found)

pub returns-in-NoName-clause-next : goal.returns-in-NoName-clause-next
returns-in-NoName-clause-next c =
    let found = c.in-NoName.ensures.front ∙ ap front c.split_at.ensures.back in
    IsNext-Err _ _ _ c.loop-n.invariant.0
    (sym c.loop-n.invariant.0 ∙ lexed_at-front c.loop-n.place c.args.text.now NoName found)

pub invariant_of-result : goal.invariant_of-result
invariant_of-result c = record { fits = read-fits _ c.in-Read.text.now c.in-Read.sort c.in-Read.n c.in-Read.ensures.front }
