use Rattle.std.proofs.Common.{◌≡◌, ◌∙◌, ap, sym, subst, arith, get_or, length}
use Rattle.std.specs.Prelude.{None, Some, All}
use Rattle.std.proofs.lemmas.List.{length-replicate}
use Rattle.std.proofs.lemmas.List.Elements.{All-contains}
use Rattle.hold_base.specs.Limits.{time_limit}
use Rattle.hold_base.specs.declared.number.PinNo.{PinNo}
use Rattle.hold_base.specs.declared.time.Interval.{Interval}
use Rattle.hold_base.specs.declared.time.Side.{Side}
use Rattle.hold_graph.specs.declared.graph.Parts.{Parts}
use Rattle.hold_graph.specs.Met.{capture_at}
use Rattle.hold_graph.specs.Problem.{IsWithin}
use Rattle.hold_graph.specs.Sums.{end_of}
use Rattle.hold_timing.proofs.Asked.{capture-below, none_there, spread_over-within, clock-spread, capture-within}
use Rattle.hold_timing.proofs.required.clocks.Goals as goal

pub returns-clause-each : goal.returns-clause-each
returns-clause-each c = λ pin has.
    subst (λ (s : Side). get_or c.spread_spans.new.table.items pin.0 None ≡ Some (end_of s (capture_at c.args.problem.now.graph c.args.spans.now pin))) c.opposite.ensures
    (clock-spread c.opposite.result c.args.problem.now.graph c.args.spans.now pin _ _ c.as_slice.result.now c.as_slice-2.result.now
    (c.as_slice.ensures ∙ ap (λ (parts : Parts). parts.captures) c.parts-parts.ensures.same) c.as_slice-2.ensures c.requires.corner.capture_each has
    (none_there _ c.in_ok-table.table.items pin.0 c.in_ok-table.ensures)
    (c.spread_spans.ensures.each pin
    (capture-below c.args.problem.now.graph c.parts-parts.result.now pin c.in_ok-table.table.items c.parts-parts.ensures.same c.parts-parts.ensures.numbers has c.in_ok-table.ensures)))

pub returns-clause-within : goal.returns-clause-within
returns-clause-within c =
    spread_over-within c.opposite.result (end_of c.opposite.result) time_limit _ c.in_ok-table.table.items c.spread_spans.new.table.items c.as_slice.result.now c.as_slice-2.result.now
    c.in_ok-table.ensures c.spread_spans.ensures.len c.spread_spans.ensures.each
    (subst (All (λ (span : Interval). IsWithin time_limit (end_of c.opposite.result span))) (sym c.as_slice-2.ensures) (capture-within c.opposite.result c.args.problem.now c.args.spans.now c.requires.corner))
