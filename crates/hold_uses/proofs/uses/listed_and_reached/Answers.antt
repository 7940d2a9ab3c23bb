use Rattle.std.proofs.Common.{◌≡◌, ◌<◌, ◌+◌, List, Bool, true, false, get_or, take, subst, rules}
use Rattle.hold_base.specs.declared.number.PinNo.{PinNo}
use Rattle.hold_graph.specs.inner.Marks.{AreExact}
use Rattle.hold_uses.specs.inner.Marks.{ComesTo, IsListedAnd}
use Rattle.hold_uses.proofs.UseLemmas.{wanted-more, wanted-same}
use Rattle.hold_uses.proofs.uses.listed_and_reached.Goals as goal
use Rattle.hold_uses.proofs.uses.listed_and_reached.Goals.{then-comes_to, else-comes_to}

unmarked : {b : Bool} → b ≡ true → b ≡ false → ⊥
unmarked on off = cc

pub loop-pin-preserved : goal.loop-pin-preserved
loop-pin-preserved c =
    let pins = c.args.graph.now.pins in
    let i = c.loop-pin.pin-index in
    let below : (get_or c.args.listed.now i (record { 0 = 0 })).0 < pins = c.requires.below i (record { 0 = 0 }) c.loop-pin-test.true in
    let P : PinNo → Type 0 = ComesTo c.args.way c.args.graph.now.arcs c.args.marks.now in
    let Wanted : List Bool → Type 0 = AreExact pins (IsListedAnd P (take (i + 1) c.args.listed.now)) in
    elim c.if-comes_to.branch [
      | then-comes_to w ↦ subst Wanted (search rules) (wanted-more P pins c.args.listed.now i (record { 0 = 0 }) c.loop-pin.flags.items c.loop-pin-test.true c.loop-pin.invariant below (c.comes_to.ensures.0 w.if-comes_to.true))
      | else-comes_to w ↦ subst Wanted (search rules) (wanted-same P pins c.args.listed.now i (record { 0 = 0 }) c.loop-pin.flags.items c.loop-pin-test.true c.loop-pin.invariant (λ comes. unmarked (c.comes_to.ensures.1 comes) w.if-comes_to.false))
    ]
