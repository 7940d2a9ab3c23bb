use Rattle.std.proofs.Common.{◌≡◌, ◌∙◌, ap, sym, subst, arith, get_or, length}
use Rattle.std.specs.Prelude.{None, Some, All, ℤ}
use Rattle.hold_base.specs.Limits.{time_limit}
use Rattle.hold_base.specs.declared.time.Side.TheVariants.{Late}
use Rattle.hold_graph.specs.declared.graph.Parts.{Parts}
use Rattle.hold_graph.specs.Problem.{IsWithin}
use Rattle.hold_timing.proofs.Asked.{capture-below, none_there, spread_over-within, check-spread, check-given, check-each, check-within, check_at-greatest, times_of_check}
use Rattle.hold_timing.proofs.required.checks.Goals as goal

pub returns-clause-each : goal.returns-clause-each
returns-clause-each c = λ pin has.
    check-spread c.args.problem.now.graph.captures (times_of_check c.args.side c.args.spans.now) pin _ _ c.as_slice.result.now c.as_slice-2.result.now
    (c.as_slice.ensures ∙ ap (λ (parts : Parts). parts.captures) c.parts-parts.ensures.same)
    (c.as_slice-2.ensures ∙ check-given c.args.side c.args.spans.now c.check_times.result.now c.check_times.ensures.early c.check_times.ensures.late)
    (check-each c.args.side c.args.problem.now c.args.spans.now c.requires.corner) has
    (none_there _ c.in_ok-table.table.items pin.0 c.in_ok-table.ensures)
    (c.spread_times.ensures.each pin
    (capture-below c.args.problem.now.graph c.parts-parts.result.now pin c.in_ok-table.table.items c.parts-parts.ensures.same c.parts-parts.ensures.numbers has c.in_ok-table.ensures))
    ∙ ap (λ (t : ℤ). Some t) (check_at-greatest c.args.side c.args.problem.now.graph c.args.spans.now pin)

pub returns-clause-within : goal.returns-clause-within
returns-clause-within c =
    spread_over-within Late (λ (t : ℤ). t) time_limit _ c.in_ok-table.table.items c.spread_times.new.table.items c.as_slice.result.now c.as_slice-2.result.now
    c.in_ok-table.ensures c.spread_times.ensures.len c.spread_times.ensures.each
    (subst (All (λ (t : ℤ). IsWithin time_limit t))
    (sym (c.as_slice-2.ensures ∙ check-given c.args.side c.args.spans.now c.check_times.result.now c.check_times.ensures.early c.check_times.ensures.late))
    (check-within c.args.side c.args.problem.now c.args.spans.now c.requires.corner))
