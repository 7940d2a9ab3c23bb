use Rattle.std.proofs.Common.{◌<◌, List, length, set, arith, ap, subst, sym, ◌∙◌}
use Rattle.std.specs.Prelude.{None, Some}
use Rattle.std.proofs.lemmas.List.{get_or-set_same, length-set}
use Rattle.std.proofs.lemmas.Option.{slice_get-get_or}
use Rattle.hold_netlist.specs.declared.inst.Inst.{Inst}
use Rattle.hold_netlist.specs.declared.inst.Pin.{Pin}
use Rattle.hold_netlist.specs.Names.{pin_names}
use Rattle.hold_roles.specs.inner.NamePlaces.{TellsPlaces}
use Rattle.hold_build.proofs.PinTableLemmas.{table-added}
use Rattle.hold_build.proofs.pin_tables.PinTables.add.Goals as goal

pub returns-clause-tables : goal.returns-clause-tables
returns-clause-tables c =
    let inside : c.args.inst < length c.args.self.now.of_inst.items = omega (arith, c.requires.within, c.requires.tables.each) in
    record {
      each = length-set c.args.self.now.of_inst.items c.args.inst (Some c.len-place.result) ∙ c.requires.tables.each;
      tells = table-added c.args.insts.now c.args.self.now.of_inst.items c.args.self.now.tables.items c.requires.tables.tells c.push.new.self.items c.args.inst c.len-place.result
          c.index-insts-inst.result c.in_ok-table.table c.requires.within inside c.index-insts-inst.is (omega (arith, c.len-place.ensures, c.args.self.now.tables.ok.0)) c.in_ok-push.ensures.items
          (subst (λ (l : List Pin). TellsPlaces (pin_names l) c.in_ok-table.table) (c.as_slice.ensures ∙ ap (λ (i : Inst). i.pins) (sym c.index-insts-inst.is)) c.in_ok-table.ensures);
    }

pub returns-clause-added : goal.returns-clause-added
returns-clause-added c =
    let inside : c.args.inst < length c.args.self.now.of_inst.items = omega (arith, c.requires.within, c.requires.tables.each) in
    let long = length-set c.args.self.now.of_inst.items c.args.inst (Some c.len-place.result) in
    slice_get-get_or (set c.args.self.now.of_inst.items c.args.inst (Some c.len-place.result)) c.args.inst None (omega arith)
    ∙ ap Some (get_or-set_same c.args.self.now.of_inst.items c.args.inst (Some c.len-place.result) None inside)
