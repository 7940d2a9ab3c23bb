use Rattle.std.proofs.Common.{◌∙◌}
use Rattle.hold_build.proofs.NamedLemmas.{inst-named, no_inst-named}
use Rattle.hold_told.proofs.names.Names.inst.Goals as goal

pub returns-in-Some : goal.returns-in-Some
returns-in-Some c = inst-named c.args.netlist.now c.know_valid.ensures.names c.args.name.now c.in-Some.inst (c.in-Some.ensures ∙ c.requires.insts.each c.args.name.now)

pub returns-in-None : goal.returns-in-None
returns-in-None c = no_inst-named c.args.netlist.now c.know_valid.ensures.names c.args.name.now (c.in-None.ensures ∙ c.requires.insts.each c.args.name.now)
