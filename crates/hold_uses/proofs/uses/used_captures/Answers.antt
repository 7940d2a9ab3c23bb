use Rattle.std.proofs.Common.{List, Bool, ap, ◌∙◌, subst}
use Rattle.hold_base.specs.declared.number.PinNo.{PinNo}
use Rattle.hold_graph.specs.declared.graph.Parts.{Parts}
use Rattle.hold_graph.specs.inner.Marks.{AreExact}
use Rattle.hold_uses.specs.Uses.{IsCheckedCapture}
use Rattle.hold_uses.specs.declared.marks.Way.TheVariants.{Forward}
use Rattle.hold_uses.specs.inner.Marks.{ComesTo, IsListedAnd}
use Rattle.hold_uses.proofs.Both.{IfOk-both}
use Rattle.hold_uses.proofs.UseLemmas.{capture-used, tells-alike}
use Rattle.hold_uses.proofs.uses.used_captures.Goals as goal

pub returns : goal.returns
returns c =
    let graph = c.args.graph.now in
    let led = c.in_ok-led.led.items in
    let same = c.as_slice-captures.ensures ∙ ap (λ (p : Parts). p.captures) c.parts.ensures.same in
    IfOk-both c.listed_and_reached.result c.listed_and_reached.ensures c.listed_and_reached.ensures
    (λ used flags _. tells-alike (IsListedAnd (ComesTo Forward graph.arcs led) graph.captures) (IsCheckedCapture graph) graph.pins used.items
    (capture-used graph c.parts.ensures.numbers led c.in_ok-led.ensures)
    (subst (λ (marks : List Bool). AreExact graph.pins (IsListedAnd (ComesTo Forward graph.arcs marks) graph.captures) used.items) c.as_slice.ensures.value
    (subst (λ (listed : List PinNo). AreExact graph.pins (IsListedAnd (ComesTo Forward graph.arcs c.as_slice.result.now) listed) used.items) same flags)))
