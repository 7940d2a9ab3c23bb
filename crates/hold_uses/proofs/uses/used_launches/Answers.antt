use Rattle.std.proofs.Common.{List, Bool, ap, ◌∙◌, subst}
use Rattle.hold_base.specs.declared.number.PinNo.{PinNo}
use Rattle.hold_graph.specs.declared.graph.Parts.{Parts}
use Rattle.hold_graph.specs.inner.Marks.{AreExact}
use Rattle.hold_uses.specs.Uses.{IsCheckedLaunch}
use Rattle.hold_uses.specs.declared.marks.Way.TheVariants.{Back}
use Rattle.hold_uses.specs.inner.Marks.{ComesTo, IsListedAnd}
use Rattle.hold_uses.proofs.Both.{IfOk-both}
use Rattle.hold_uses.proofs.UseLemmas.{launch-used, tells-alike}
use Rattle.hold_uses.proofs.uses.used_launches.Goals as goal

pub returns : goal.returns
returns c =
    let graph = c.args.graph.now in
    let leads = c.in_ok-leads.leads.items in
    let same = c.as_slice-launches.ensures ∙ ap (λ (p : Parts). p.launches) c.parts.ensures.same in
    IfOk-both c.listed_and_reached.result c.listed_and_reached.ensures c.listed_and_reached.ensures
    (λ used flags _. tells-alike (IsListedAnd (ComesTo Back graph.arcs leads) graph.launches) (IsCheckedLaunch graph) graph.pins used.items
    (launch-used graph c.parts.ensures.numbers leads c.in_ok-leads.ensures)
    (subst (λ (marks : List Bool). AreExact graph.pins (IsListedAnd (ComesTo Back graph.arcs marks) graph.launches) used.items) c.as_slice.ensures.value
    (subst (λ (listed : List PinNo). AreExact graph.pins (IsListedAnd (ComesTo Back graph.arcs c.as_slice.result.now) listed) used.items) same flags)))
