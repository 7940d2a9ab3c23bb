use Rattle.std.proofs.Common.{◌∙◌, ap, sym}
use Rattle.hold_job.specs.declared.cell_times.TypeArc.{TypeArc}
use Rattle.hold_values.proofs.DefaultLemmas.{arc-within, span-within, span-found, span-none}
use Rattle.hold_values.proofs.types.type_span.Goals as goal

pub bounds-as_slice-place : goal.bounds-as_slice-place
bounds-as_slice-place c =
    arc-within c.args.job.now c.requires.rules c.args.corner.0 c.requires.corner c.args.kind.now c.args.from.now c.args.to.now c.in-Some.place (sym c.in-Some.is ∙ c.in_ok-place.ensures) c.as_slice.result.now c.as_slice.ensures

pub bounds-as_slice-corner : goal.bounds-as_slice-corner
bounds-as_slice-corner c =
    span-within c.args.job.now c.requires.rules c.args.corner.0 c.requires.corner c.args.kind.now c.args.from.now c.args.to.now c.in-Some.place (sym c.in-Some.is ∙ c.in_ok-place.ensures) c.as_slice.result.now c.as_slice.ensures
    c.index-as_slice-place.result c.as_slice-in-Some.result.now (c.as_slice-in-Some.ensures ∙ ap (λ (arc : TypeArc). arc.spans) c.index-as_slice-place.is)

pub returns-in-Some : goal.returns-in-Some
returns-in-Some c =
    span-found c.args.job.now c.requires.rules c.args.corner.0 c.requires.corner c.args.kind.now c.args.from.now c.args.to.now c.in-Some.place (sym c.in-Some.is ∙ c.in_ok-place.ensures) c.as_slice.result.now c.as_slice.ensures
    c.index-as_slice-place.result c.as_slice-in-Some.result.now (c.as_slice-in-Some.ensures ∙ ap (λ (arc : TypeArc). arc.spans) c.index-as_slice-place.is) _

pub returns-in-None : goal.returns-in-None
returns-in-None c = span-none c.args.job.now c.requires.rules c.args.corner.0 c.requires.corner c.args.kind.now c.args.from.now c.args.to.now (sym c.in-None.is ∙ c.in_ok-place.ensures)
