use Rattle.std.proofs.Common.{rules, ◌≡◌, ◌≤◌, ◌∷◌, [], length, refl}
use Rattle.hold_base.specs.Limits.{arcs_limit, bound_pins_limit}
use Rattle.hold_graph_tests.specs.Zero.{zero_spans}
use Rattle.hold_graph_tests.proofs.ZeroLemmas.{zero-valid}
use Rattle.hold_graph_tests.proofs.problems.problem_of.Goals as goal

pub returns-clause-valid : goal.returns-clause-valid
returns-clause-valid c =
    let pins : c.graph.inside.parts.pins ≤ bound_pins_limit = search rules in
    let arcs : length c.graph.inside.parts.arcs ≤ arcs_limit = search rules in
    let costs : c.from_vec.result ≡ c.args.first ∷ c.args.second ∷ [] = search rules in
    let corners : c.from_vec-2.result ≡ zero_spans c.graph.inside.parts 2 ∷ [] = search rules in
    zero-valid _ c.args.first c.args.second pins arcs c.requires.first_least c.requires.first_most c.requires.second_least c.requires.second_most costs refl refl corners
