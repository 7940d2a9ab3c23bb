use Rattle.std.proofs.Common.{◌≡◌, ◌∙◌, ap, sym, subst, to_z, of_z, w64, rules}
use Rattle.std.specs.Prelude.{List, Option, ℤ, FitsSigned}
use Rattle.std.proofs.lemmas.Int.{to_z-of_z}
use Rattle.hold_graph.specs.declared.graph.Parts.{Parts}
use Rattle.hold_graph.specs.inner.Arrival.{base_of, IsShort}
use Rattle.hold_graph.proofs.Captures.{met_by, short_by, FoundFor}
use Rattle.hold_graph.proofs.worst.short_path.Goals as goal

pub returns-in-None-clause-met : goal.returns-in-None-clause-met
returns-in-None-clause-met c =
    let tables = c.in_ok-tables.ensures.tables in
    let in_range : FitsSigned w64 c.base.result = search rules in
    let is : c.base.result ≡ base_of c.args.side c.args.problem.now.period = search rules in
    let is_base : to_z w64 (of_z w64 c.base.result) ≡ base_of c.args.side c.args.problem.now.period = to_z-of_z w64 c.base.result in_range ∙ is in
    met_by c.args.side c.args.problem.now c.args.spans.now c.args.line.now.into.now
    c.in_ok-tables.tables.starts.items c.in_ok-tables.tables.best.items c.in_ok-tables.tables.ends.items c.in_ok-tables.tables.checks.items
    c.in_ok-tables.ensures.tables.each c.requires.corner c.parts.ensures.numbers c.args.line.now.arcs.now c.in_ok-tables.tables.steps.items _ c.as_slice-captures.result.now
    c.requires.line.arcs c.in_ok-tables.ensures.tables.steps is_base
    (c.as_slice-captures.ensures ∙ ap (λ (parts : Parts). parts.captures) c.parts.ensures.same) c.in-None.ensures.none

pub returns-clause-missed : goal.returns-clause-missed
returns-clause-missed c =
    let in_range : FitsSigned w64 c.base.result = search rules in
    let is : c.base.result ≡ base_of c.args.side c.args.problem.now.period = search rules in
    let is_base : to_z w64 (of_z w64 c.base.result) ≡ base_of c.args.side c.args.problem.now.period = to_z-of_z w64 c.base.result in_range ∙ is in
    let short_fits : FitsSigned w64 c.in-Some.short = search rules in
    let found : FoundFor c.args.side c.args.spans.now c.in_ok-tables.tables.starts.items c.args.line.now.into.now c.in_ok-tables.tables.best.items
    c.in_ok-path-in-Some.path.items c.in-Some.capture c.args.line.now.pins c.args.line.now.arcs.now =
    subst (λ (starts : List (Option ℤ)). FoundFor c.args.side c.args.spans.now starts c.args.line.now.into.now c.in_ok-tables.tables.best.items
    c.in_ok-path-in-Some.path.items c.in-Some.capture c.args.line.now.pins c.args.line.now.arcs.now) c.as_slice-starts.ensures.value
    (subst (λ (best : List (Option ℤ)). FoundFor c.args.side c.args.spans.now c.as_slice-starts.result.now c.args.line.now.into.now best
    c.in_ok-path-in-Some.path.items c.in-Some.capture c.args.line.now.pins c.args.line.now.arcs.now) c.as_slice.ensures.value
    (c.in_ok-path-in-Some.ensures.found c.args.side c.args.spans.now)) in
    subst (λ (short : ℤ). IsShort c.args.side c.args.problem.now c.args.spans.now c.in_ok-path-in-Some.path.items short) (sym (to_z-of_z w64 c.in-Some.short short_fits))
    (short_by c.args.side c.args.problem.now c.args.spans.now c.args.line.now.into.now
    c.in_ok-tables.tables.starts.items c.in_ok-tables.tables.best.items c.in_ok-tables.tables.ends.items c.in_ok-tables.tables.checks.items
    c.in_ok-tables.ensures.tables.each c.requires.corner c.parts.ensures.numbers c.args.line.now.pins c.args.line.now.arcs.now c.in_ok-tables.tables.steps.items _ c.as_slice-captures.result.now
    c.requires.line.pins c.requires.line.arcs c.in_ok-tables.ensures.tables.steps is_base
    (c.as_slice-captures.ensures ∙ ap (λ (parts : Parts). parts.captures) c.parts.ensures.same)
    c.in_ok-path-in-Some.path.items c.in-Some.capture c.in-Some.short c.in-Some.ensures.listed c.in-Some.ensures.some.0 c.in-Some.ensures.some.1 found)
