use Rattle.std.proofs.Common.{◌≡◌, ℕ, ◌<◌, List, length, get_or, false, ap, sym, ◌∙◌, subst}
use Rattle.std.specs.Prelude.{Option, Some, slice_get}
use Rattle.std.proofs.lemmas.Option.{slice_get-get_or}
use Rattle.std.proofs.lemmas.List.{get_or_default}
use Rattle.hold_base.specs.declared.time.Interval.{Interval}
use Rattle.hold_graph.specs.declared.graph.Arc.{Arc}
use Rattle.hold_graph.specs.declared.graph.Parts.{Parts}
use Rattle.hold_sdf.specs.declared.entry.Entry.{Entry}
use Rattle.hold_told.specs.Entries.{Says, IsOfArc, span_of}
use Rattle.hold_told.specs.Values.{HullIfAny}
use Rattle.hold_values.specs.Given.{IfAny, IsGivenSpan}
use Rattle.hold_values.proofs.ListLemmas.{item-here, values-all, values-more}
use Rattle.hold_values.proofs.lists.spans.Goals as goal

pub loop-place-preserved : goal.loop-place-preserved
loop-place-preserved c entries are =
    let b = c.args.bound.now in
    let arcs = c.as_slice-arcs.result.now in
    let k = c.loop-place.place in
    let own : arcs ≡ c.args.graph.now.arcs = c.as_slice-arcs.ensures ∙ ap (λ (p : Parts). p.arcs) c.parts.ensures.same in
    let arc : Arc = get_or arcs k (record { from = record { 0 = 0 }; to = record { 0 = 0 }; wire = false }) in
    let here : arc ≡ get_or arcs k arc = get_or_default arcs k _ arc c.loop-place-test.true in
    let in_list : k < length c.args.graph.now.arcs = subst (λ (l : List Arc). k < length l) own c.loop-place-test.true in
    let at : slice_get c.args.graph.now.arcs k ≡ Some arc = subst (λ (l : List Arc). slice_get l k ≡ Some arc) own (slice_get-get_or arcs k arc c.loop-place-test.true ∙ ap Some (sym here)) in
    let there : k < length c.args.told.now.spans.items = subst (λ (n : ℕ). k < n) (sym c.requires.room.spans) in_list in
    let told = item-here (HullIfAny (Says (λ (e : Entry). IsOfArc b e arc) span_of entries)) c.args.told.now.spans.items k c.index-told.result.now _ there c.index-told.ensures (are.spans k arc at) in
    rw (c.in_ok-push.ensures.items)
    (values-more (λ (a : Arc) (span : Option Interval). IfAny (IsGivenSpan b c.args.job.now c.args.corner.0 entries a) span) arcs k arc c.loop-place.spans.items c.in_ok-given_span.field-0
    c.loop-place-test.true (c.loop-place.invariant entries are)
    (subst (λ (a : Arc). IfAny (IsGivenSpan b c.args.job.now c.args.corner.0 entries a) c.in_ok-given_span.field-0) here (c.in_ok-given_span.ensures entries told)))

pub returns : goal.returns
returns c entries are =
    values-all (λ (a : Arc) (span : Option Interval). IfAny (IsGivenSpan c.args.bound.now c.args.job.now c.args.corner.0 entries a) span) c.as_slice-arcs.result.now c.args.graph.now.arcs c.loop-place.place c.loop-place.spans.items
    c.loop-place-test.false (c.as_slice-arcs.ensures ∙ ap (λ (p : Parts). p.arcs) c.parts.ensures.same) (c.loop-place.invariant entries are)
