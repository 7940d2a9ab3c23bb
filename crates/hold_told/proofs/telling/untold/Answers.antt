use Rattle.std.proofs.Common.{List, length, ap, ◌∙◌, rules}
use Rattle.hold_graph.specs.declared.graph.Arc.{Arc}
use Rattle.hold_graph.specs.declared.graph.Parts.{Parts}
use Rattle.hold_told.proofs.StepLemmas.{untold-of}
use Rattle.hold_told.proofs.telling.untold.Goals as goal

pub returns : goal.returns
returns c =
    untold-of c.args.graph.now _ (length c.as_slice.result.now) c.parts-parts.result.now.pins
    (c.in_ok-vec.ensures.items_if_clones_equal (λ y e. search rules)) (c.in_ok-vec-2.ensures.items_if_clones_equal (λ y e. search rules)) (c.in_ok-vec-3.ensures.items_if_clones_equal (λ y e. search rules)) (c.in_ok-vec-4.ensures.items_if_clones_equal (λ y e. search rules))
    (ap (λ (l : List Arc). length l) (c.as_slice.ensures ∙ ap (λ (p : Parts). p.arcs) c.parts-parts.ensures.same)) (ap (λ (p : Parts). p.pins) c.parts-parts.ensures.same)
