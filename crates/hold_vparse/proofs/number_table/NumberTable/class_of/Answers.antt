use Rattle.std.proofs.Common.{ap, ◌∙◌, sym, slice_get, List, ℕ}
use Rattle.hold_vparse.specs.inner.NumberTable.{IsClassed}
use Rattle.hold_vparse.proofs.NumberTableLemmas.{class_known, class_added, classed_added}
use Rattle.hold_vparse.proofs.number_table.NumberTable.class_of.Goals as goal

pub returns-in-Some-clause-class : goal.returns-in-Some-clause-class
returns-in-Some-clause-class c =
    ap (λ (l : List ℕ). slice_get l c.in-Some.class) (sym c.self.view_is)
    ∙ class_known c.self.inside.classes c.self.inside.count c.in-Some.class c.args.digits.now c.self.invariant c.in-Some.ensures

pub invariant_of-self-2 : goal.invariant_of-self-2
invariant_of-self-2 c =
    classed_added c.self.inside.classes c.add.new.self c.self.inside.count c.in-Some-checked_add.count c.args.digits.now c.in_ok-add.field-0
    c.self.invariant c.requires (sym c.find.ensures ∙ c.in_default.is) c.in_ok-add.ensures.new c.in_ok-add.ensures.added c.in-Some-checked_add.ensures.1

pub returns-clause-class : goal.returns-clause-class
returns-clause-class c =
    class_added c.self.inside.classes c.add.new.self c.self.inside.count c.args.digits.now c.in_ok-add.field-0
    c.self.invariant (sym c.find.ensures ∙ c.in_default.is) c.in_ok-add.ensures.new c.in_ok-add.ensures.added

pub returns-clause-one_each : goal.returns-clause-one_each
returns-clause-one_each c =
    let classed : IsClassed c.add.new.self c.in-Some-checked_add.count =
    classed_added c.self.inside.classes c.add.new.self c.self.inside.count c.in-Some-checked_add.count c.args.digits.now c.in_ok-add.field-0
    c.self.invariant c.requires (sym c.find.ensures ∙ c.in_default.is) c.in_ok-add.ensures.new c.in_ok-add.ensures.added c.in-Some-checked_add.ensures.1 in
    classed.one_each
