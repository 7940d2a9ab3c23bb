use Rattle.std.proofs.Common.{refl, subst, sym}
use Rattle.hold_netlist.specs.Design.{Design}
use Rattle.hold_values.specs.inner.Found.{IsPinFound}
use Rattle.hold_values.proofs.GivenLemmas.{found-of, found-within}
use Rattle.hold_values.proofs.pin.pin_of.Goals as goal

pub returns-in_default-clause-none : goal.returns-in_default-clause-none
returns-in_default-clause-none c none inst t found is = c.in_default.ensures.none refl inst found (subst (λ (d : Design). IsPinFound d.insts c.args.pin inst found) (sym c.netlist.ensures) (found-of c.args.bound.now c.args.pin inst t found is))

pub cell-requires : goal.cell-requires
cell-requires c =
    found-within c.args.bound.now.netlist.insts c.args.pin c.in-Some.inst.0 c.in-Some.found.now
    (subst (λ (d : Design). IsPinFound d.insts c.args.pin c.in-Some.inst.0 c.in-Some.found.now) c.netlist.ensures c.in-Some.ensures.some)
