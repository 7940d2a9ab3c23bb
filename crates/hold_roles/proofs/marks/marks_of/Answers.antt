use Rattle.std.proofs.Common.{List, ap, arith, ◌∙◌, length, subst, sym}
use Rattle.std.proofs.lemmas.List.{length-map}
use Rattle.hold_roles.specs.declared.marks.Mark.{Mark}
use Rattle.hold_roles.specs.inner.Marks.{AreMarked, drivers_in, first_mark}
use Rattle.hold_roles.proofs.MarkLemmas.{first_marks-right}
use Rattle.hold_roles.proofs.marks.marks_of.Goals as goal

pub loop-net-init : goal.loop-net-init
loop-net-init c = record {
  each = ap length c.in_ok-marks.ensures ∙ length-map c.args.slots.now first_mark;
  marked = subst (λ (l : List Mark). AreMarked (drivers_in c.args.slots.now) l) (sym c.in_ok-marks.ensures) (first_marks-right c.args.slots.now);
  done = λ x lt is. absurd (omega arith);
}
