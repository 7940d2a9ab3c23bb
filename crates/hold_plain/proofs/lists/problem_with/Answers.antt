use Rattle.std.proofs.Common.{◌∙◌, [], ◌∷◌, ap, sym, subst, to_z, of_z, w64}
use Rattle.std.proofs.lemmas.Int.{to_z-of_z}
use Rattle.hold_graph.specs.declared.problem.Spans.{Spans}
use Rattle.hold_graph.specs.Problem.{IsValid}
use Rattle.hold_plain.proofs.ValidFacts.{line_few, line_numbered, line_once, line_rises, same_problem, problem_with_valid}
use Rattle.hold_plain.proofs.lists.problem_with.Goals as goal

pub line-requires-clause-numbers : goal.line-requires-clause-numbers
line-requires-clause-numbers c = line_numbered c.in_ok-parts.parts c.args.uses.now c.in_ok-parts.ensures c.requires.served c.requires.insts

pub line-requires-clause-few : goal.line-requires-clause-few
line-requires-clause-few c = line_few c.in_ok-parts.parts c.args.uses.now c.in_ok-parts.ensures c.requires.served

pub line-requires-clause-rising : goal.line-requires-clause-rising
line-requires-clause-rising c =
    line_rises c.in_ok-parts.parts c.in_ok-ranks.ranks.items c.args.uses.now c.in_ok-parts.ensures c.in_ok-ranks.ensures c.requires.served c.requires.insts

pub returns-clause-is : goal.returns-clause-is
returns-clause-is c =
    same_problem c.args.uses.now c.in_ok-graph.graph c.args.period (to_z w64 (of_z w64 c.args.period)) c.from_vec.result c.in_ok-corners.corners
    (c.in_ok-graph.ensures ∙ c.in_ok-parts.ensures) (to_z-of_z w64 c.args.period c.ranges.period) (c.from_vec.ensures ∙ c.new.ensures.items)
    (c.in_ok-corners.ensures ∙ ap (λ (spans : Spans). spans ∷ []) c.in_ok-spans.ensures)

pub returns-clause-valid : goal.returns-clause-valid
returns-clause-valid c =
    subst IsValid (sym (returns-clause-is c))
    (problem_with_valid c.args.period c.args.uses.now c.requires.served c.requires.timed c.requires.low c.requires.high)

pub returns-clause-once : goal.returns-clause-once
returns-clause-once c = line_once c.in_ok-graph.graph c.args.uses.now (c.in_ok-graph.ensures ∙ c.in_ok-parts.ensures)
