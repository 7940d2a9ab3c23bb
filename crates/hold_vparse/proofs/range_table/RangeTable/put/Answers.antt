use Rattle.std.proofs.Common.{subst, sym}
use Rattle.hold_vparse.specs.inner.Measured.{HaveClasses}
use Rattle.hold_vparse.proofs.RangeLemmas.{HaveClasses-kept, HaveClasses-push}
use Rattle.hold_vparse.proofs.range_table.RangeTable.put.Goals as goal

pub invariant_of-self : goal.invariant_of-self
invariant_of-self c = HaveClasses-kept c.self.inside.numbers c.of.new.numbers c.self.inside.ranges.items c.of.ensures.kept c.self.invariant

pub invariant_of-self-in_err-push : goal.invariant_of-self-in_err-push
invariant_of-self-in_err-push c =
    subst (HaveClasses c.of.new.numbers) (sym c.in_err-push.ensures.items)
    (HaveClasses-kept c.self.inside.numbers c.of.new.numbers c.self.inside.ranges.items c.of.ensures.kept c.self.invariant)

pub invariant_of-self-2 : goal.invariant_of-self-2
invariant_of-self-2 c =
    subst (HaveClasses c.of.new.numbers) (sym c.in_ok-push.ensures.items)
    (HaveClasses-push c.of.new.numbers c.self.inside.ranges.items c.in_ok-measured.measured
    (HaveClasses-kept c.self.inside.numbers c.of.new.numbers c.self.inside.ranges.items c.of.ensures.kept c.self.invariant) c.in_ok-measured.ensures.classes)
