use Rattle.std.proofs.Common.{◌≡◌, Some, None, List, ℕ, ap, ◌∙◌, rules}
use Rattle.std.specs.Option.{option_map}
use Rattle.hold_roles.specs.declared.fault.RoleFault.TheVariants.{NoRole}
use Rattle.hold_roles.specs.Types.{type_names}
use Rattle.hold_roles.specs.inner.NamePlaces.{first_at}
use Rattle.hold_roles.proofs.CellLemmas.{places-next, unknown-here, unknown-next}
use Rattle.hold_roles.proofs.cells.cells_of.Goals as goal

pub returns-in_default-clause-fault : goal.returns-in_default-clause-fault
returns-in_default-clause-fault c =
    let none : None ≡ first_at 0 c.inst-item.result.kind (type_names c.args.library.now) = c.in_default.ensures ∙ ap (λ (n : List ℕ). first_at 0 n (type_names c.args.library.now)) c.bytes.ensures in
    ap (option_map NoRole) (unknown-here c.args.library.now c.args.insts.now c.loop-inst.inst-index c.inst-item.result c.loop-inst-test.true c.inst-item.is none c.loop-inst.invariant.unknown)
    ∙ search rules

pub loop-inst-preserved : goal.loop-inst-preserved
loop-inst-preserved c =
    let some : Some c.in-Some.place ≡ first_at 0 c.inst-item.result.kind (type_names c.args.library.now) = c.in-Some.ensures ∙ ap (λ (n : List ℕ). first_at 0 n (type_names c.args.library.now)) c.bytes.ensures in
    record {
      cells = places-next c.args.library.now c.args.insts.now c.loop-inst.inst-index c.in-Some.place c.inst-item.result c.loop-inst.cells.items c.push.new.self.items
          c.loop-inst-test.true c.inst-item.is some c.in_ok-push.ensures.items c.loop-inst.invariant.cells;
      unknown = unknown-next c.args.library.now c.args.insts.now c.loop-inst.inst-index c.in-Some.place c.inst-item.result c.loop-inst-test.true c.inst-item.is some c.loop-inst.invariant.unknown;
    }
