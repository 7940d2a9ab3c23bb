use Rattle.std.proofs.Common.{◌≡◌, ◌++◌, Bool, ap, sym, ◌∙◌, subst, not, is_none}
use Rattle.std.specs.Prelude.{IfOk, ◌&&◌}
use Rattle.hold_netlist.specs.Names.{is_among}
use Rattle.hold_netlist.specs.inner.NameTable.{names_of}
use Rattle.hold_netlist.specs.NameTable.{number_of}
use Rattle.hold_vparse.specs.Nets.{names}
use Rattle.hold_vparse.specs.inner.Roles.{seen_role}
use Rattle.hold_vparse.specs.inner.Uses.{is_use}
use Rattle.hold_vparse.proofs.UseLemmas.{new_use}
use Rattle.hold_vparse.proofs.wires.is_first_use.Goals as goal

pub returns-clause-new : goal.returns-clause-new
returns-clause-new c =
    let new : is_none (number_of c.bytes.result.now c.args.seen.now) ≡ (is_use (seen_role c.args.mention.now.role) && not (is_among c.args.mention.now.name.now.name (names c.args.declared.now ++ names_of c.args.seen.now))) =
    ap (λ n. is_none (number_of n c.args.seen.now)) c.bytes.ensures
    ∙ new_use c.args.mention.now.name.now.name (names c.args.declared.now) c.args.seen.now (is_use (seen_role c.args.mention.now.role)) c.has.result
    (sym c.is_net_use.ensures ∙ c.if-not-is_net_use.false) c.has.ensures c.if-has.false in
    subst (λ (b : Bool). IfOk c.add.result (λ (new : Bool). new ≡ b)) new c.add.ensures.new
