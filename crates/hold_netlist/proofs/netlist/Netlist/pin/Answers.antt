use Rattle.std.proofs.Common.{length, ap, refl, ◌∙◌, arith}
use Rattle.hold_netlist.specs.Design.{Design}
use Rattle.hold_netlist.specs.Pins.{pin_count}
use Rattle.hold_netlist.specs.inner.Numbering.{firsts_from}
use Rattle.hold_netlist.proofs.NumberingLemmas.{length-table, table-IsNonDecreasing, table-first, IsNumbered-held, none_found}
use Rattle.hold_netlist.proofs.LimitLemmas.{insts_few}
use Rattle.hold_netlist.proofs.netlist.Netlist.pin.Goals as goal

pub numbered-requires-clause-rising : goal.numbered-requires-clause-rising
numbered-requires-clause-rising c = table-IsNonDecreasing pin_count c.args.self.now.insts c.deref.result.now (c.deref.ensures.value ∙ c.self.invariant.1 ∙ ap (λ (d : Design). firsts_from 0 pin_count d.insts) c.self.view_is)

pub numbered-requires-clause-some : goal.numbered-requires-clause-some
numbered-requires-clause-some c = omega (arith, length-table pin_count c.args.self.now.insts c.deref.result.now (c.deref.ensures.value ∙ c.self.invariant.1 ∙ ap (λ (d : Design). firsts_from 0 pin_count d.insts) c.self.view_is))

pub numbered-requires-clause-start : goal.numbered-requires-clause-start
numbered-requires-clause-start c = table-first pin_count c.args.self.now.insts c.deref.result.now (c.deref.ensures.value ∙ c.self.invariant.1 ∙ ap (λ (d : Design). firsts_from 0 pin_count d.insts) c.self.view_is)

pub returns-in_err-inst-clause-none : goal.returns-in_err-inst-clause-none
returns-in_err-inst-clause-none c =
    let at = none_found pin_count c.args.self.now.insts c.deref.result.now (c.deref.ensures.value ∙ c.self.invariant.1 ∙ ap (λ (d : Design). firsts_from 0 pin_count d.insts) c.self.view_is) c.args.pin.0 c.numbered.result c.numbered.ensures.found c.numbered.ensures.none in
    (λ _. at.0 (rw c.in_err-inst.was refl), λ _. rw c.from_residual.ensures refl)

pub overflow_cast-result : goal.overflow_cast-result
overflow_cast-result c =
    omega (arith, length-table pin_count c.args.self.now.insts c.deref.result.now (c.deref.ensures.value ∙ c.self.invariant.1 ∙ ap (λ (d : Design). firsts_from 0 pin_count d.insts) c.self.view_is), c.in_ok-inst.ensures.found.place, insts_few c.self.invariant.0, ap (λ (d : Design). length d.insts) c.self.view_is)

pub returns-clause-found : goal.returns-clause-found
returns-clause-found c = IsNumbered-held pin_count c.args.self.now.insts c.deref.result.now (c.deref.ensures.value ∙ c.self.invariant.1 ∙ ap (λ (d : Design). firsts_from 0 pin_count d.insts) c.self.view_is) c.args.pin.0 c.in_ok-inst.inst c.in_ok-inst.place c.in_ok-inst.ensures.found

pub returns-clause-none : goal.returns-clause-none
returns-clause-none c =
    let at = none_found pin_count c.args.self.now.insts c.deref.result.now (c.deref.ensures.value ∙ c.self.invariant.1 ∙ ap (λ (d : Design). firsts_from 0 pin_count d.insts) c.self.view_is) c.args.pin.0 c.numbered.result c.numbered.ensures.found c.numbered.ensures.none in
    (λ no. cc, λ past. rw c.in_ok-inst.was at (at.1 past))
