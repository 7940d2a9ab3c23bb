use Rattle.std.proofs.Common.{sym, subst}
use Rattle.hold_netlist.specs.WellFormed.{IsWellFormed}
use Rattle.hold_vparse.specs.inner.DesignWith.{design_with}
use Rattle.hold_vparse.proofs.DesignLemmas.{names_once, well_formed_without}
use Rattle.hold_vparse.proofs.netlist.refused_for_assigns.Goals as goal

pub netlist_with-requires-clause-well_formed : goal.netlist_with-requires-clause-well_formed
netlist_with-requires-clause-well_formed c =
    subst (λ list. IsWellFormed (design_with c.args.parts.now.tree.now list)) (sym c.new.ensures.items) (well_formed_without c.args.parts.now.tree.now c.requires.clear c.requires.named)

pub netlist_with-requires-clause-names : goal.netlist_with-requires-clause-names
netlist_with-requires-clause-names c = names_once c.args.parts.now.tree.now c.requires.clear c.new.result.items
