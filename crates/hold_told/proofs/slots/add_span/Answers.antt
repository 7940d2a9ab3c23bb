use Rattle.std.proofs.Common.{arith, subst, sym, refl}
use Rattle.hold_told.specs.declared.named.Named.{Named}
use Rattle.hold_told.specs.inner.Told.{NamesPin}
use Rattle.std.proofs.lemmas.Option.{slice_get_within}
use Rattle.hold_told.proofs.SlotLemmas.{span-added}
use Rattle.hold_told.proofs.slots.add_span.Goals as goal

pub arc_between-requires : goal.arc_between-requires
arc_between-requires c = c.requires.there c.in-Pin-to.to (subst (λ (n : Named). NamesPin n c.in-Pin-to.to) (sym c.in-Pin-to.is) refl)

pub index-requires : goal.index-requires
index-requires c =
    let within = slice_get_within c.args.graph.now.arcs c.in-Some-arc_between.place _ c.in-Some-arc_between.ensures.found in
    omega (arith, within, c.args.spans.now.ok.0)

pub index_mut-requires : goal.index_mut-requires
index_mut-requires c =
    let within = slice_get_within c.args.graph.now.arcs c.in-Some-arc_between.place _ c.in-Some-arc_between.ensures.found in
    omega (arith, within, c.args.spans.now.ok.0)

pub returns-in-Some-arc_between-clause-each : goal.returns-in-Some-arc_between-clause-each
returns-in-Some-arc_between-clause-each c =
    span-added c.args.graph.now.arcs c.requires.once c.args.from c.args.to c.in-Pin.from c.in-Pin-to.to c.args.wire c.in-Pin.is c.in-Pin-to.is c.args.span c.in-Some.span c.in-Some.is
    c.args.spans.now.items c.requires.room c.in-Some-arc_between.place c.in-Some-arc_between.ensures.found c.widened.result c.index.result.now c.index.ensures c.widened.ensures
