use Rattle.std.proofs.Common.{◌<◌, length, arith}
use Rattle.hold_build.proofs.PinTableLemmas.{table-tells, table-within}
use Rattle.hold_build.proofs.pin_tables.PinTables.place.Goals as goal

pub index-requires : goal.index-requires
index-requires c =
    let within : c.in_ok-table.table < length c.table_of.new.self.tables.items =
    table-within c.args.insts.now c.table_of.new.self.of_inst.items c.table_of.new.self.tables.items c.in_ok-table.ensures.tables.tells c.args.inst c.in_ok-table.table c.requires.within
    c.in_ok-table.ensures.has in
    omega (arith, within, c.table_of.new.self.tables.ok.0)

pub returns-clause-place : goal.returns-clause-place
returns-clause-place c = λ i is. table-tells c.args.insts.now c.table_of.new.self.of_inst.items c.table_of.new.self.tables.items c.in_ok-table.ensures.tables.tells
    c.args.inst c.in_ok-table.table i c.args.name.now c.find.result c.index.result.now c.index.result.now is c.in_ok-table.ensures.has c.index.ensures c.find.ensures
