use Rattle.std.proofs.Common.{Some, None, ap, ◌∙◌}
use Rattle.hold_vparse.specs.inner.Index.{at_place}
use Rattle.hold_vparse.specs.inner.Measured.{measured_bounds}
use Rattle.hold_vparse.proofs.RangeLemmas.{found_at, bounds_at, classes_at}
use Rattle.std.specs.Prelude.{◌==◌}
use Rattle.hold_netlist.specs.Bits.{width_of_range}
use Rattle.hold_vparse.proofs.range_table.RangeTable.have_same_width.Goals as goal

pub returns-in-Some-Some : goal.returns-in-Some-Some
returns-in-Some-Some c =
    let list = c.self.inside.ranges.items in
    let table = c.args.self.now in
    let here = found_at list c.deref.result.now c.args.place c.measured_at.result (Some c.in-Some-Some.range) c.measured_at.ensures c.deref.ensures.value c.in-Some-Some.is-0 in
    let there = found_at list c.deref-2.result.now c.args.other c.measured_at-2.result (Some c.in-Some-Some.other) c.measured_at-2.ensures c.deref-2.ensures.value c.in-Some-Some.is-1 in
    c.has_width_of.ensures c.self.inside.numbers c.know_one_each.ensures (classes_at c.self.inside.numbers list c.args.place c.in-Some-Some.range.now c.self.invariant here) (classes_at c.self.inside.numbers list c.args.other c.in-Some-Some.other.now c.self.invariant there)
    ∙ ap (λ o. width_of_range o == width_of_range (Some (measured_bounds c.in-Some-Some.other.now))) (bounds_at list table c.args.place (Some c.in-Some-Some.range.now) c.self.view_is here)
    ∙ ap (λ o. width_of_range (at_place table c.args.place) == width_of_range o) (bounds_at list table c.args.other (Some c.in-Some-Some.other.now) c.self.view_is there)

pub returns-in-None-None : goal.returns-in-None-None
returns-in-None-None c =
    let list = c.self.inside.ranges.items in
    let table = c.args.self.now in
    let here = found_at list c.deref.result.now c.args.place c.measured_at.result None c.measured_at.ensures c.deref.ensures.value c.in-None-None.is-0 in
    let there = found_at list c.deref-2.result.now c.args.other c.measured_at-2.result None c.measured_at-2.ensures c.deref-2.ensures.value c.in-None-None.is-1 in
    ap (λ o. width_of_range o == 1) (bounds_at list table c.args.place None c.self.view_is here)
    ∙ ap (λ o. width_of_range (at_place table c.args.place) == width_of_range o) (bounds_at list table c.args.other None c.self.view_is there)
