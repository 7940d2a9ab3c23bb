use Rattle.std.proofs.Common.{◌∷◌, [], ◌+◌, refl, sym, ap, ◌∙◌, drop}
use Rattle.hold_vparse.specs.inner.Flat.{seen_range, seen_wires}
use Rattle.hold_vparse.specs.Nets.{names}
use Rattle.hold_vparse.specs.inner.Ranges.{other_ranges, with_nets}
use Rattle.hold_vparse.proofs.NetRangeLemmas.{nets_step, nets_end, with_nets-none, wire_range, other_ranges-in, other_ranges-out}
use Rattle.hold_vparse.proofs.net_ranges.add_other_nets.Goals.{then-not-has+in_ok-add_wire, else-not-has}
use Rattle.hold_vparse.proofs.net_ranges.add_other_nets.Goals as goal

pub loop-number-preserved : goal.loop-number-preserved
loop-number-preserved c =
    let lines = c.args.lines.now in
    let i = c.loop-number.number in
    let line = c.index-lines-number.result in
    let headed = names c.args.header.now in
    let rest = other_ranges headed (seen_wires (drop (i + 1) lines)) in
    elim c.if-not-has.branch [
      | then-not-has+in_ok-add_wire w ↦
          nets_step c.loop-number.ranges c.if-not-has.ranges _ (seen_range line.range ∷ []) rest (other_ranges headed (seen_wires (drop i lines)))
          (w.ranges-is ∙ w.in_ok-add_wire.ensures
          ∙ ap (λ r. with_nets c.loop-number.ranges (r ∷ [])) (wire_range c.loop-number.ranges.wires lines i line (ap (λ r. r.wires) c.loop-number.invariant ∙ c.requires) c.loop-number-test.true c.index-lines-number.is))
          (other_ranges-out headed lines i line c.loop-number-test.true c.index-lines-number.is (sym c.has.ensures ∙ w.if-not-has.true)) c.loop-number.invariant
      | else-not-has w ↦
          nets_step c.loop-number.ranges c.if-not-has.ranges _ [] rest (other_ranges headed (seen_wires (drop i lines)))
          (w.ranges-is ∙ sym (with_nets-none c.loop-number.ranges))
          (other_ranges-in headed lines i line c.loop-number-test.true c.index-lines-number.is (sym c.has.ensures ∙ w.if-not-has.false)) c.loop-number.invariant
    ]

pub returns : goal.returns
returns c = nets_end (λ ls. other_ranges (names c.args.header.now) (seen_wires ls)) refl c.loop-number.ranges _ c.args.lines.now c.loop-number.number c.loop-number-test.false c.loop-number.invariant
