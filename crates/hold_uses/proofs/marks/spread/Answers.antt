use Rattle.std.proofs.Common.{◌≡◌, ◌<◌, ◌+◌, List, Bool, true, false, get_or, sym, subst, rules}
use Rattle.std.proofs.lemmas.Option.{slice_get-get_or}
use Rattle.hold_base.specs.declared.number.PinNo.{PinNo}
use Rattle.hold_uses.specs.inner.Marks.{ComesTo}
use Rattle.hold_uses.proofs.Marking.{IsSpreadUpTo, spread-kept, spread-marked}
use Rattle.hold_uses.proofs.marks.spread.Goals as goal
use Rattle.hold_uses.proofs.marks.spread.Goals.{then-comes_to, else-comes_to}

unmarked : {b : Bool} → b ≡ true → b ≡ false → ⊥
unmarked on off = cc

pub loop-pin-preserved : goal.loop-pin-preserved
loop-pin-preserved c =
    let pin : PinNo = get_or c.args.order.now c.loop-pin.pin-index (record { 0 = 0 }) in
    let here = slice_get-get_or c.args.order.now c.loop-pin.pin-index (record { 0 = 0 }) c.loop-pin-test.true in
    let below : pin.0 < c.args.graph.now.pins = c.requires.below c.loop-pin.pin-index (record { 0 = 0 }) c.loop-pin-test.true in
    let Spread : List Bool → Type 0 = IsSpreadUpTo c.args.way c.args.graph.now.pins c.args.graph.now.arcs c.args.listed.now c.args.order.now (c.loop-pin.pin-index + 1) in
    elim c.if-comes_to.branch [
      | then-comes_to w ↦
          let comes : ComesTo c.args.way c.args.graph.now.arcs c.loop-pin.marks.items pin =
          subst (λ (marks : List Bool). ComesTo c.args.way c.args.graph.now.arcs marks pin) c.as_slice.ensures.value (c.comes_to.ensures.0 w.if-comes_to.true) in
          subst Spread (search rules) (spread-marked c.args.way c.args.graph.now.pins c.args.graph.now.arcs c.args.listed.now c.args.order.now c.requires.different c.requires.ahead
          c.loop-pin.pin-index pin here c.loop-pin.marks.items c.loop-pin.invariant below comes)
      | else-comes_to w ↦
          subst Spread (search rules) (spread-kept c.args.way c.args.graph.now.pins c.args.graph.now.arcs c.args.listed.now c.args.order.now c.requires.different c.requires.ahead
          c.loop-pin.pin-index pin here c.loop-pin.marks.items c.loop-pin.invariant (λ comes. unmarked (c.comes_to.ensures.1 (subst (λ (marks : List Bool). ComesTo c.args.way c.args.graph.now.arcs marks pin) (sym c.as_slice.ensures.value) comes)) w.if-comes_to.false))
    ]
