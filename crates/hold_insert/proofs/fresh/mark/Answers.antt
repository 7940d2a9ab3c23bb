use Rattle.std.proofs.Common.{refl, sym, ◌∙◌, arith}
use Rattle.hold_insert.proofs.UsedLemmas.{marked-at, marked-none, marked-past}
use Rattle.hold_insert.proofs.fresh.mark.Goals as goal

pub returns-then-n-len-clause-used : goal.returns-then-n-len-clause-used
returns-then-n-len-clause-used c names h =
    marked-at names c.args.name.now c.args.used.now.items c.in-Some.n (omega (arith, c.if-n-len.true, c.len.ensures)) c.requires
    (c.in-Some.ensures.some.0, sym c.bytes.ensures ∙ c.in-Some.ensures.some.1) h

pub returns-else-n-len-clause-used : goal.returns-else-n-len-clause-used
returns-else-n-len-clause-used c names h =
    marked-past names c.args.name.now c.args.used.now.items c.in-Some.n c.in-Some.ensures.small (omega (arith, c.if-n-len.false, c.len.ensures))
    (c.in-Some.ensures.some.0, sym c.bytes.ensures ∙ c.in-Some.ensures.some.1) h

pub returns-in_default-clause-used : goal.returns-in_default-clause-used
returns-in_default-clause-used c names h =
    marked-none names c.args.name.now c.args.used.now.items
    (λ n lt begins. c.in_default.ensures.none refl n (omega (arith, lt, c.requires)) (begins.0, c.bytes.ensures ∙ begins.1)) h
