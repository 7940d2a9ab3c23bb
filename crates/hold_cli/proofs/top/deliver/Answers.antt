use Rattle.std.proofs.Common.{Option, subst}
use Rattle.std.specs.Prelude.{ℤ, IfNone}
use Rattle.hold_graph.specs.declared.problem.Listed.{Listed}
use Rattle.hold_graph.specs.declared.problem.Problem.{Problem}
use Rattle.hold_graph.specs.Sums.{no_buffers}
use Rattle.hold_graph.specs.Met.{IsMet}
use Rattle.hold_cli.proofs.top.deliver.Goals as goal

pub write_netlist-requires-clause-met : goal.write_netlist-requires-clause-met
write_netlist-requires-clause-met g c =
    let met = subst (λ (found : Option (Listed × ℤ)). IfNone found (IsMet c.args.front.now.built.problem no_buffers)) c.in-Ok-None.field-0-is c.in-Ok-None.ensures.met in
    subst (λ (problem : Problem). IsMet problem no_buffers) c.requires.problem met
