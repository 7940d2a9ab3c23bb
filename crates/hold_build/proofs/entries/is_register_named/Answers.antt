use Rattle.std.proofs.Common.{subst, refl}
use Rattle.std.specs.Prelude.{◌↔◌, Some, None, ◌≡◌}
use Rattle.hold_base.specs.declared.number.InstNo.{InstNo}
use Rattle.hold_netlist.specs.Design.{Design}
use Rattle.hold_build.specs.NetlistGraph.{IsNamedInst}
use Rattle.hold_build.proofs.EntryLemmas.{named-within, no_register-named, register-named}
use Rattle.hold_build.proofs.entries.is_register_named.Goals as goal

pub role-requires : goal.role-requires
role-requires c = named-within c.args.bound.now.netlist.insts c.in-Some.inst.0 c.args.name.now
    (subst (λ (d : Design). IsNamedInst d.insts c.in-Some.inst.0 c.args.name.now) c.netlist.ensures ((c.in-Some.ensures c.in-Some.inst).1 refl))

pub returns-in-Some : goal.returns-in-Some
returns-in-Some c = register-named c.args.bound.now c.args.name.now c.in-Some.inst c.role.result c.is_register.result
    (subst (λ (d : Design). (i : InstNo) → IsNamedInst d.insts i.0 c.args.name.now ↔ (Some c.in-Some.inst ≡ Some i)) c.netlist.ensures c.in-Some.ensures)
    c.role.ensures c.is_register.ensures

pub returns-in-None : goal.returns-in-None
returns-in-None c = no_register-named c.args.bound.now c.args.name.now
    (subst (λ (d : Design). (i : InstNo) → IsNamedInst d.insts i.0 c.args.name.now ↔ (None ≡ Some i)) c.netlist.ensures c.in-None.ensures)
