use Rattle.std.proofs.Common.{◌≡◌, ◌∙◌, ℕ, ◌<◌, length, sym, ap, subst, true, false}
use Rattle.std.specs.Prelude.{List, All, Bool, IsTrue}
use Rattle.hold_graph.specs.declared.graph.Arc.{Arc}
use Rattle.hold_graph.specs.declared.adjacency.End.TheVariants.{To}
use Rattle.hold_graph.specs.inner.Sites.{any_led_wire}
use Rattle.hold_graph.proofs.Ahead.{rows-within}
use Rattle.hold_graph.proofs.SiteLists.{site-exact, site-closed}
use Rattle.hold_graph.proofs.site.is_site.Goals as goal

pub returns-then-not-is_open : goal.returns-then-not-is_open
returns-then-not-is_open c = (
  (λ is. cc),
  (λ site. absurd (site-closed c.args.parts.now c.args.marks.now c.args.pin c.requires.marks c.requires.pin (sym c.is_open.ensures ∙ c.if-not-is_open.true) site)),
)

pub any_led_wire-requires-clause-places : goal.any_led_wire-requires-clause-places
any_led_wire-requires-clause-places c =
    subst (λ (arcs : List Arc). All (λ (place : ℕ). place < length arcs) c.at.result.now) (sym c.as_slice-2.ensures)
    (subst (All (λ (place : ℕ). place < length c.args.parts.now.arcs)) (sym c.at.ensures)
    (rows-within c.args.parts.now.pins To c.args.parts.now.arcs c.args.incoming.now c.requires.into c.args.pin.0 (subst (λ (n : ℕ). c.args.pin.0 < n) (sym c.requires.into.count) c.requires.pin)))

pub returns : goal.returns
returns c =
    let exact = site-exact c.args.parts.now c.args.marks.now c.args.pin c.at.result.now c.requires.numbers c.requires.marks c.requires.pin
    (c.at.ensures ∙ c.requires.into.each c.args.pin c.requires.pin) (sym c.is_open.ensures ∙ c.if-not-is_open.false) in
    let is : c.any_led_wire.result ≡ any_led_wire c.args.marks.now.launched.items c.args.parts.now.arcs c.at.result.now =
    c.any_led_wire.ensures
    ∙ ap (λ (launched : List Bool). any_led_wire launched c.as_slice-2.result.now c.at.result.now) c.as_slice.ensures.value
    ∙ ap (λ (arcs : List Arc). any_led_wire c.args.marks.now.launched.items arcs c.at.result.now) c.as_slice-2.ensures in
    ((λ some. exact.0 (sym is ∙ some)), (λ site. is ∙ exact.1 site))
